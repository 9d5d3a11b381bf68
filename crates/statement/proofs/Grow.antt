-- Supported splits of k + 1 taxa, from those of k. Assumes nothing.
use Prim.Native.Nat.{ℕ, suc, ◌+◌, ◌%◌, ◌^◌, ◌-◌, ◌≤◌, ◌<◌}
use native.Mathlib.Nat.{mod-lt, mod-le, mod-eq_of_lt, mod-eq-sub-mod}
use native.Mathlib.Omega.{arith}
use native.Mathlib.Decide.{dec_lt}
use mathlib.Core.Path.{◌≡◌, refl, sym, ◌∙◌, ap, subst}
use mathlib.Core.Logic.{◌≢◌, ◌↔◌, ◌⊎◌, inl, inr}
use mathlib.Core.Bool.{Bool, true, false}
use lib.Dec.{T}
use lib.Pow.{pow_pos}
use lib.IntN.{ℤ, pos}
use lib.Signed.{◌≤ℤ◌}
use Rattle.statement.specs.Cluster.{bit, In, Out, Split, Across}
use Rattle.statement.specs.Growing.{Includes}
use Rattle.statement.proofs.Rule.{Rule, Laws, Ok, Fours, Old, New, Carried, Supported, Kept, Parent}
use Rattle.statement.proofs.Bits.{bit_lt, zero_or_one, bit_none, bit_mod, bit_plus}

module _ (r : Rule) (laws : Laws r) (t k c w x y z : ℕ) (lw : w < r.taxa) (lx : x < r.taxa) (ly : y < r.taxa) (lz : z < r.taxa) where
  pub ok_swap : Ok r t k c w x y z → Ok r t k c x w y z
  ok_swap ok a = let p = laws.swap k c x w y z lx lw ly lz a in subst (λ (s : ℤ). pos t ≤ℤ s) p.1 (ok p.0)

  pub ok_flip : Ok r t k c w x y z → Ok r t k c y z w x
  ok_flip ok a = let p = laws.flip k c y z w x ly lz lw lx a in subst (λ (s : ℤ). pos t ≤ℤ s) p.1 (ok p.0)

-- a new four, with the newcomer under any name
pub new_at : (r : Rule) (t k c : ℕ) → New r t k c → (n x y z : ℕ) → n ≡ k → x < suc k → y < suc k → z < suc k
    → bit c x ≡ bit c n → bit c y ≢ bit c n → bit c z ≢ bit c n → Ok r t (suc k) c n x y z
new_at r t k c h n x y z e lx ly lz p q s =
    rw e (h x y z (omega arith) (under y ly q) (under z lz s) (p ∙ ap (bit c) e) (λ i. q (i ∙ sym (ap (bit c) e))) (λ i. s (i ∙ sym (ap (bit c) e))))
  where
    under : (m : ℕ) → m < suc k → bit c m ≢ bit c n → m < k
    under m l d = let m≢k : m ≢ k = λ i. d (ap (bit c) (i ∙ sym e)) in omega arith

module _ (r : Rule) (laws : Laws r) (t k c : ℕ) (fits : suc k ≤ r.taxa) where
  fours_old : Fours r t (suc k) c → Old r t k c
  fours_old f u u' v v' lu lu' lv lv' = f u u' v v' (omega arith) (omega arith) (omega arith) (omega arith)

  -- the fours of c that include the newcomer, its taxa in any order: those kx|yz say it all
  pub of_new : ((u u' v v' : ℕ) → Across (suc k) c u u' v v' → Includes k u u' v v' → Ok r t (suc k) c u u' v v') → New r t k c
  of_new f x y z lx ly lz p q s = go (zero_or_one c k)
    where
      across : (u u' v v' : ℕ) → u ≤ k → u' ≤ k → v ≤ k → v' ≤ k → Out c u → Out c u' → In c v → In c v' → Across (suc k) c u u' v v'
      across u u' v v' lu lu' lv lv' ou ou' iv iv' =
          record {
            u_below = omega arith;
            u'_below = omega arith;
            v_below = omega arith;
            v'_below = omega arith;
            u_out = ou;
            u'_out = ou';
            v_in = iv;
            v'_in = iv';
          }

      go : Out c k ⊎ In c k → Ok r t (suc k) c k x y z
      go (inl o) = f k x y z (across k x y z (omega arith) lx (omega arith) (omega arith) o (p ∙ o) (omega (arith, bit_lt c y)) (omega (arith, bit_lt c z))) (inl refl)
      go (inr i) =
          ok_flip r laws t (suc k) c y z k x (omega arith) (omega arith) (omega arith) (omega arith)
          (f y z k x (across y z k x (omega arith) (omega arith) (omega arith) lx (omega (arith, bit_lt c y)) (omega (arith, bit_lt c z)) i (p ∙ i)) (inr (inr (inl refl))))

  pub new_of : New r t k c → (u u' v v' : ℕ) → Across (suc k) c u u' v v' → Includes k u u' v v' → Ok r t (suc k) c u u' v v'
  new_of h u u' v v' x i = go i x.u_out x.u'_out x.v_in x.v'_in x.u_below x.u'_below x.v_below x.v'_below
    where
      go : Includes k u u' v v' → Out c u → Out c u' → In c v → In c v' → u < suc k → u' < suc k → v < suc k → v' < suc k → Ok r t (suc k) c u u' v v'
      go (inl e) ou ou' iv iv' lu lu' lv lv' = new_at r t k c h u u' v v' e lu' lv lv' (ou' ∙ sym ou) (omega arith) (omega arith)
      go (inr (inl e)) ou ou' iv iv' lu lu' lv lv' =
          ok_swap r laws t (suc k) c u' u v v' (omega arith) (omega arith) (omega arith) (omega arith)
          (new_at r t k c h u' u v v' e lu lv lv' (ou ∙ sym ou') (omega arith) (omega arith))
      go (inr (inr (inl e))) ou ou' iv iv' lu lu' lv lv' =
          ok_flip r laws t (suc k) c v v' u u' (omega arith) (omega arith) (omega arith) (omega arith)
          (new_at r t k c h v v' u u' e lv' lu lu' (iv' ∙ sym iv) (omega arith) (omega arith))
      go (inr (inr (inr e))) ou ou' iv iv' lu lu' lv lv' =
          ok_flip r laws t (suc k) c v v' u u' (omega arith) (omega arith) (omega arith) (omega arith)
          (ok_swap r laws t (suc k) c v' v u u' (omega arith) (omega arith) (omega arith) (omega arith)
          (new_at r t k c h v' v u u' e lv lu lu' (iv ∙ sym iv') (omega arith) (omega arith)))

  pub fours_new : Fours r t (suc k) c → New r t k c
  fours_new f = of_new (λ u u' v v' x i. f u u' v v' x.u_below x.u'_below x.v_below x.v'_below x.u_out x.u'_out x.v_in x.v'_in)

  fours_both : Old r t k c → New r t k c → Fours r t (suc k) c
  fours_both g h u u' v v' lu lu' lv lv' ou ou' iv iv' = go (dec_lt u k) (dec_lt u' k) (dec_lt v k) (dec_lt v' k)
    where
      new : Includes k u u' v v' → Ok r t (suc k) c u u' v v'
      new = new_of h u u' v v'
          (record { u_below = lu; u'_below = lu'; v_below = lv; v'_below = lv'; u_out = ou; u'_out = ou'; v_in = iv; v'_in = iv' })

      go : Dec (u < k) → Dec (u' < k) → Dec (v < k) → Dec (v' < k) → Ok r t (suc k) c u u' v v'
      go (yes a) (yes b) (yes d) (yes e) = g u u' v v' a b d e ou ou' iv iv'
      go (no a) b d e = new (inl (omega arith))
      go (yes a) (no b) d e = new (inr (inl (omega arith)))
      go (yes a) (yes b) (no d) e = new (inr (inr (inl (omega arith))))
      go (yes a) (yes b) (yes d) (no e) = new (inr (inr (inr (omega arith))))

  pub fours_grow : Fours r t (suc k) c ↔ (Old r t k c × New r t k c)
  fours_grow = ((λ f. (fours_old f, fours_new f)), (λ p. fours_both p.0 p.1))

-- what is carried: the old fours are the parent's
pub old_carried : (r : Rule) (t k c : ℕ) → Carried r k c → Old r t k c ↔ Fours r t k (c % 2 ^ k)
old_carried r t k c e = (
  (λ f u u' v v' lu lu' lv lv' ou ou' iv iv' a.
      f u u' v v' lu lu' lv lv' (sym (bit_mod c k u lu) ∙ ou) (sym (bit_mod c k u' lu') ∙ ou') (sym (bit_mod c k v lv) ∙ iv) (sym (bit_mod c k v' lv') ∙ iv')
      ((e.same u u' v v' lu lu' lv lv').0 a)),
  (λ f u u' v v' lu lu' lv lv' ou ou' iv iv' a.
      f u u' v v' lu lu' lv lv' (bit_mod c k u lu ∙ ou) (bit_mod c k u' lu' ∙ ou') (bit_mod c k v lv ∙ iv) (bit_mod c k v' lv' ∙ iv')
      ((e.same u u' v v' lu lu' lv lv').1 a)),
)

-- a number below 2 ^ (k + 1), by its remainder
pub mod_cases : (k c : ℕ) → c < 2 ^ suc k → (c % 2 ^ k ≡ c) ⊎ (2 ^ k + c % 2 ^ k ≡ c)
mod_cases k c h = go (dec_lt c (2 ^ k))
  where
    go : Dec (c < 2 ^ k) → (c % 2 ^ k ≡ c) ⊎ (2 ^ k + c % 2 ^ k ≡ c)
    go (yes l) = inl (mod-eq_of_lt l)
    go (no l) =
        let le : 2 ^ k ≤ c = omega arith in
        let small : c - 2 ^ k < 2 ^ k = omega arith in
        inr (omega (arith, mod-eq-sub-mod le ∙ mod-eq_of_lt small))

pub alone_low : (k i : ℕ) → i < k → Out (2 ^ k) i
alone_low k i h = ap (λ (n : ℕ). bit n i) (omega arith) ∙ bit_plus 0 k i h ∙ bit_none i

-- the newcomer alone has new fours only
pub old_alone : (r : Rule) (t k : ℕ) → Old r t k (2 ^ k)
old_alone r t k u u' v v' lu lu' lv lv' ou ou' iv iv' = absurd (omega (arith, alone_low k v lv))

-- THE GROWTH: the supported splits of k + 1 taxa
abbrev pub Grown : Rule → ℕ → ℕ → Type 0
Grown r k c = (c < 2 ^ suc k) × Kept r k c × ((c ≡ 2 ^ k) ⊎ Parent r k (c % 2 ^ k))

pub grow : (r : Rule) → Laws r → (k c : ℕ) → suc k ≤ r.taxa → 0 < k → Supported r (suc k) c ↔ Grown r k c
grow r laws k c fits pk = (there, back)
  where
    there : Supported r (suc k) c → (c < 2 ^ suc k) × Kept r k c × ((c ≡ 2 ^ k) ⊎ Parent r k (c % 2 ^ k))
    there s = (
      s.split.below,
      record { new = fours_new r laws 1 k c fits s.fours; all = λ a. s.fours },
      go (mod_cases k c s.split.below) (dec_lt 0 (c % 2 ^ k)) (r.anew k (c % 2 ^ k)) refl,
    )
      where
        parent : 0 < c % 2 ^ k → Split k (c % 2 ^ k)
        parent h = record { some = h; below = mod-lt c (pow_pos k); free = bit_mod c k 0 pk ∙ s.split.free }

        go : (c % 2 ^ k ≡ c) ⊎ (2 ^ k + c % 2 ^ k ≡ c) → Dec (0 < c % 2 ^ k) → (b : Bool) → r.anew k (c % 2 ^ k) ≡ b → (c ≡ 2 ^ k) ⊎ Parent r k (c % 2 ^ k)
        go m (yes h) true e = inr (record { split = parent h; held = inl (subst T (sym e) tt) })
        go m (yes h) false e =
            inr (record { split = parent h; held = inr ((old_carried r 1 k c (laws.carried k c pk (parent h) e)).0 ((fours_grow r laws 1 k c fits).0 s.fours).0) })
        go (inl e) (no h) b q = absurd (omega arith)
        go (inr e) (no h) b q = inl (omega arith)

    back : (c < 2 ^ suc k) × Kept r k c × ((c ≡ 2 ^ k) ⊎ Parent r k (c % 2 ^ k)) → Supported r (suc k) c
    back p = go p.2
      where
        fours : Parent r k (c % 2 ^ k) → (b : Bool) → r.anew k (c % 2 ^ k) ≡ b → T (r.anew k (c % 2 ^ k)) ⊎ Fours r 1 k (c % 2 ^ k) → Fours r 1 (suc k) c
        fours s true e h = p.1.all (subst T (sym e) tt)
        fours s false e (inl h) = absurd (subst T e h)
        fours s false e (inr h) = (fours_grow r laws 1 k c fits).1 ((old_carried r 1 k c (laws.carried k c pk s.split e)).1 h, p.1.new)

        go : (c ≡ 2 ^ k) ⊎ Parent r k (c % 2 ^ k) → Supported r (suc k) c
        go (inl e) =
            record {
              split = record { some = omega (arith, pow_pos k); below = p.0; free = ap (λ (n : ℕ). bit n 0) e ∙ alone_low k 0 pk };
              fours = (fours_grow r laws 1 k c fits).1 (rw e (old_alone r 1 k), p.1.new);
            }
        go (inr s) =
            record {
              split = record { some = omega (arith, mod-le c (2 ^ k), s.split.some); below = p.0; free = sym (bit_mod c k 0 pk) ∙ s.split.free };
              fours = fours s (r.anew k (c % 2 ^ k)) refl s.held;
            }
