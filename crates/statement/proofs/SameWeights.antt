-- ON A MATRIX THAT KEEPS THE TRIANGLE RULE every split has the same weight by the matrix rule and by the one before §7, whatever its sign, and the same
-- splits are supported: beside each four with a repeat that is not asked there is an asked one that scores no more. Assumes nothing.
use Prim.Native.Nat.{ℕ, suc, ◌+◌, ◌-◌, ◌≤◌, ◌<◌, min}
use native.Mathlib.Omega.{arith}
use native.Mathlib.Decide.{ℕ_discrete}
use mathlib.Core.Path.{◌≡◌, refl, sym, ◌∙◌, ap, subst}
use mathlib.Core.Logic.{◌≢◌, ◌⊎◌, inl, inr, ◌↔◌}
use mathlib.Core.Bool.{Bool, true, false, cond}
use lib.Dec.{T, ltb, leb→le, le→leb}
use lib.IntN.{ℤ, pos, negsuc, sub_ℕ}
use lib.Signed.{◌≤ℤ◌, le_z, ≤ℤ_refl, <ℤ-≤ℤ_trans}
use borrow.Author.Tests.{ltb-true, ltb-false}
use Rattle.statement.specs.Cluster.{bit, Single, Across, Pair}
use Rattle.statement.specs.Matrix.{score, Asked, MatrixWeight, MatrixSupported, RepeatWeight, RepeatSupported, Triangle}
use Rattle.statement.proofs.Single.{single_or}

le_trans : (a b c : ℤ) → a ≤ℤ b → b ≤ℤ c → a ≤ℤ c
le_trans (pos a) (pos b) (pos c) f g = record { le = le→leb a c (omega (arith, leb→le a b f.le, leb→le b c g.le)) }
le_trans (pos a) (pos b) (negsuc c) f g = absurd g.le
le_trans (pos a) (negsuc b) c f g = absurd f.le
le_trans (negsuc a) b (pos c) f g = record { le = tt }
le_trans (negsuc a) (pos b) (negsuc c) f g = absurd g.le
le_trans (negsuc a) (negsuc b) (negsuc c) f g = record { le = le→leb c a (omega (arith, leb→le b a f.le, leb→le c b g.le)) }

le_antisym : (a b : ℤ) → a ≤ℤ b → b ≤ℤ a → a ≡ b
le_antisym (pos a) (pos b) f g = let e : a ≡ b = omega (arith, leb→le a b f.le, leb→le b a g.le) in ap pos e
le_antisym (pos a) (negsuc b) f g = absurd f.le
le_antisym (negsuc a) (pos b) f g = absurd g.le
le_antisym (negsuc a) (negsuc b) f g = let e : a ≡ b = omega (arith, leb→le b a f.le, leb→le a b g.le) in ap negsuc e

-- one difference is at most another
less_sub : (a b c e : ℕ) → a + e ≤ c + b → sub_ℕ a b ≤ℤ sub_ℕ c e
less_sub a b c e h = record { le = go (ltb a b) refl (ltb c e) refl }
  where
    go : (p : Bool) → ltb a b ≡ p → (q : Bool) → ltb c e ≡ q → T (le_z (cond p (negsuc (b - suc a)) (pos (a - b))) (cond q (negsuc (e - suc c)) (pos (c - e))))
    go true p true q = le→leb (e - suc c) (b - suc a) (omega (arith, ltb-true a b p, ltb-true c e q))
    go true p false q = tt
    go false p true q = absurd (omega (arith, ltb-false a b p, ltb-true c e q))
    go false p false q = le→leb (a - b) (c - e) (omega (arith, ltb-false a b p, ltb-false c e q))

module _ (n : ℕ) (d : ℕ → ℕ → ℕ) (sy : (i j : ℕ) → i < n → j < n → d i j ≡ d j i) (diag : (i : ℕ) → i < n → d i i ≡ 0) (keeps : Triangle n d)
    (k c : ℕ) (fits : k ≤ n) where
  -- a repeat gives way to another taxon of its group
  first_gives : (u x v v' : ℕ) → u < k → x < k → v < k → v' < k → score d u x v v' ≤ℤ score d u u v v'
  first_gives u x v v' lu lx lv lv' =
      less_sub (min (d u v + d x v') (d u v' + d x v)) (d u x + d v v') (min (d u v + d u v') (d u v' + d u v)) (d u u + d v v')
      (omega (
        arith,
        keeps x v' u (omega arith) (omega arith) (omega arith),
        sy u x (omega arith) (omega arith),
        diag u (omega arith),
      ))

  second_gives : (w x v y : ℕ) → w < k → x < k → v < k → y < k → score d w x v y ≤ℤ score d w x v v
  second_gives w x v y lw lx lv ly =
      less_sub (min (d w v + d x y) (d w y + d x v)) (d w x + d v y) (min (d w v + d x v) (d w v + d x v)) (d w x + d v v)
      (omega (arith, keeps x y v (omega arith) (omega arith) (omega arith), diag v (omega arith)))

  -- AN ASKED FOUR that scores no more
  abbrev Lower : ℕ → ℕ → ℕ → ℕ → Type 0
  Lower u u' v v' = (x x' y y' : ℕ) × Asked k c x x' y y' × (score d x x' y y' ≤ℤ score d u u' v v')

  second : (u u' v v' : ℕ) → Across k c u u' v v' → Pair k c u u' → Lower u u' v v'
  second u u' v v' a p = go (ℕ_discrete v v') (single_or k c v)
    where
      keep : Pair k c v v' → Lower u u' v v'
      keep q = (u, u', v, v', record { across = a; pair = p; pair' = q }, ≤ℤ_refl (score d u u' v v'))

      go : Dec (v ≡ v') → Single k c v ⊎ ((i : ℕ) × (i < k) × (bit c i ≡ bit c v) × (i ≢ v)) → Lower u u' v v'
      go (no e) s = keep (λ q. absurd (e q))
      go (yes e) (inl s) = keep (λ q. s)
      go (yes e) (inr (y, ly, b, ne)) = (
        u,
        u',
        v,
        y,
        record {
          across = record {
            u_below = a.u_below;
            u'_below = a.u'_below;
            v_below = a.v_below;
            v'_below = ly;
            u_out = a.u_out;
            u'_out = a.u'_out;
            v_in = a.v_in;
            v'_in = b ∙ a.v_in;
          };
          pair = p;
          pair' = λ q. absurd (ne (sym q));
        },
        subst (λ (m : ℕ). score d u u' v y ≤ℤ score d u u' v m) e (second_gives u u' v y a.u_below a.u'_below a.v_below ly),
      )

  lower : (u u' v v' : ℕ) → Across k c u u' v v' → Lower u u' v v'
  lower u u' v v' a = go (ℕ_discrete u u') (single_or k c u)
    where
      go : Dec (u ≡ u') → Single k c u ⊎ ((i : ℕ) × (i < k) × (bit c i ≡ bit c u) × (i ≢ u)) → Lower u u' v v'
      go (no e) s = second u u' v v' a (λ q. absurd (e q))
      go (yes e) (inl s) = second u u' v v' a (λ q. s)
      go (yes e) (inr (x, lx, b, ne)) =
          let (p, p', q, q', asked, le) = second u x v v' other (λ q. absurd (ne (sym q))) in (
            p,
            p',
            q,
            q',
            asked,
            le_trans (score d p p' q q') (score d u x v v') (score d u u' v v') le
                (subst (λ (m : ℕ). score d u x v v' ≤ℤ score d u m v v') e (first_gives u x v v' a.u_below lx a.v_below a.v'_below)),
          )
        where
          other : Across k c u x v v'
          other =
              record {
                u_below = a.u_below;
                u'_below = lx;
                v_below = a.v_below;
                v'_below = a.v'_below;
                u_out = a.u_out;
                u'_out = b ∙ a.u_out;
                v_in = a.v_in;
                v'_in = a.v'_in;
              }

  -- THE SAME WEIGHT, and the same splits
  pub weights_same : (w : ℤ) → MatrixWeight d k c w ↔ RepeatWeight d k c w
  weights_same w = (
    (λ m. record {
      least = λ u u' v v' a. let (x, x', y, y', asked, le) = lower u u' v v' a in le_trans w (score d x x' y y') (score d u u' v v') (m.least x x' y y' asked) le;
      reached = let (u, u', v, v', asked, e) = m.reached in (u, u', v, v', asked.across, e);
    }),
    (λ m. record {
      least = λ u u' v v' asked. m.least u u' v v' asked.across;
      reached =
          let (u, u', v, v', a, e) = m.reached in
          let (x, x', y, y', asked, le) = lower u u' v v' a in
          (x, x', y, y', asked, le_antisym (score d x x' y y') w (subst (λ (z : ℤ). score d x x' y y' ≤ℤ z) e le) (m.least x x' y y' asked.across));
    }),
  )

  pub supported_same : MatrixSupported d k c ↔ RepeatSupported d k c
  supported_same = (
    (λ s. record {
      split = s.split;
      fours = λ u u' v v' a. let (x, x', y, y', asked, le) = lower u u' v v' a in <ℤ-≤ℤ_trans (s.fours x x' y y' asked) le;
    }),
    (λ s. record { split = s.split; fours = λ u u' v v' asked. s.fours u u' v v' asked.across }),
  )
