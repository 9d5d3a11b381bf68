-- The weight of an extension is the lesser of the old weight and the newcomer's. Assumes nothing.
use Prim.Native.Nat.{ℕ, zero, suc, ◌%◌, ◌^◌, ◌≤◌, ◌<◌}
use native.Mathlib.Omega.{arith}
use native.Mathlib.Nat.{le_antisymm, le_refl, mod_self}
use native.Mathlib.Decide.{dec_lt}
use mathlib.Core.Path.{◌≡◌, refl, sym, ◌∙◌, ap, subst}
use mathlib.Core.Logic.{◌↔◌, ◌⊎◌, inl, inr}
use mathlib.Core.Bool.{Bool, true, false}
use lib.Dec.{T, leb→le, le→leb}
use lib.IntN.{ℤ, pos, negsuc}
use lib.Signed.{◌≤ℤ◌}
use Rattle.statement.specs.Cluster.{Split}
use Rattle.statement.proofs.Rule.{Rule, Laws, Fours, Old, Carried, Meet, Weight, Trial, Reached, Bare, WeightOf, Caps, Kept, Value}
use Rattle.statement.proofs.Grow.{fours_grow, fours_new, old_carried, old_alone}

pub weight_grow : (r : Rule) → Laws r → (k c w v : ℕ) → suc k ≤ r.taxa → Carried r k c
    → Weight r k (c % 2 ^ k) w → Trial r k c w v → Weight r (suc k) c v
weight_grow r laws k c w v fits carried old new =
    record {
      least = λ t pt. (
        (λ h.
            let q = (new.least t pt).0 h in
            let p = (old.least t pt).0 q.0 in
            (omega (arith, p.0, carried.cap), (fours_grow r laws t k c fits).1 ((old_carried r t k c carried).1 p.1, q.1))),
        (λ h.
            let f = (fours_grow r laws t k c fits).0 h.1 in
            (new.least t pt).1 ((old.least t pt).1 (omega (arith, h.0, carried.cap), (old_carried r t k c carried).0 f.0), f.1)),
      );
    }

-- where the newcomer is in every four (alone, or where the parent's fours are asked no more): the new scores only
pub weight_new : (r : Rule) → Laws r → (k c v : ℕ) → suc k ≤ r.taxa → ((t : ℕ) → Old r t k c) → Trial r k c (r.cap (suc k) c) v → Weight r (suc k) c v
weight_new r laws k c v fits none new =
    record {
      least = λ t pt. (
        (λ h. let q = (new.least t pt).0 h in (q.0, (fours_grow r laws t k c fits).1 (none t, q.1))),
        (λ h. (new.least t pt).1 (h.0, ((fours_grow r laws t k c fits).0 h.1).1)),
      );
    }

-- THE VALUE of a candidate is its weight, where its parent's number is the parent's weight
module _ (r : Rule) (laws : Laws r) (k c v : ℕ) (wt : ℕ → ℕ) (fits : suc k ≤ r.taxa) (pk : 0 < k) (value : Value r k wt c v) where
  pub value_weight : (c ≡ 2 ^ k) ⊎ (Split k (c % 2 ^ k) × (r.anew k (c % 2 ^ k) ≡ false → Weight r k (c % 2 ^ k) (wt (c % 2 ^ k)))) → Weight r (suc k) c v
  value_weight (inl e) =
      weight_new r laws k c v fits (λ t. subst (Old r t k) (sym e) (old_alone r t k)) (value.alone (ap (λ (n : ℕ). n % 2 ^ k) e ∙ mod_self (2 ^ k)))
  value_weight (inr (s, held)) = go (r.anew k (c % 2 ^ k)) refl
    where
      go : (b : Bool) → r.anew k (c % 2 ^ k) ≡ b → Weight r (suc k) c v
      go true e = value.anew s.some (subst T (sym e) tt)
      go false e = weight_grow r laws k c (wt (c % 2 ^ k)) v fits (laws.carried k c pk s e) (held e) (value.old s.some e)

  -- THE FIRST PROMISE: kept are the extensions whose new fours are all above zero (all fours, of what is weighed anew)
  pub value_kept : (c ≡ 2 ^ k) ⊎ (Split k (c % 2 ^ k) × (r.anew k (c % 2 ^ k) ≡ false → 0 < wt (c % 2 ^ k))) → (0 < v) ↔ Kept r k c
  value_kept (inl e) =
      let x = value.alone (ap (λ (n : ℕ). n % 2 ^ k) e ∙ mod_self (2 ^ k)) in (
        (λ h. let n = ((x.least 1 (omega arith)).0 h).1 in record { new = n; all = λ a. (fours_grow r laws 1 k c fits).1 (subst (Old r 1 k) (sym e) (old_alone r 1 k), n) }),
        (λ h. (x.least 1 (omega arith)).1 (laws.cap (suc k) c, h.new)),
      )
  value_kept (inr (s, held)) = go (r.anew k (c % 2 ^ k)) refl
    where
      go : (b : Bool) → r.anew k (c % 2 ^ k) ≡ b → (0 < v) ↔ Kept r k c
      go true e =
          let x = value.anew s.some (subst T (sym e) tt) in (
            (λ h. let f = ((x.least 1 (omega arith)).0 h).1 in record { new = fours_new r laws 1 k c fits f; all = λ a. f }),
            (λ h. (x.least 1 (omega arith)).1 (laws.cap (suc k) c, h.all (subst T (sym e) tt))),
          )
      go false e =
          let x = value.old s.some e in (
            (λ h. record { new = ((x.least 1 (omega arith)).0 h).1; all = λ a. absurd (subst T e a) }),
            (λ h. (x.least 1 (omega arith)).1 (held e, h.new)),
          )

meet_le : {cap : ℕ} {Q : ℕ → Type 0} (lo v w : ℕ) → Meet lo cap v Q → Meet lo cap w Q → lo ≤ v → v ≤ w
meet_le lo v w x y l = (y.least v l).1 ((x.least v l).0 (le_refl v))

-- a least is one number (0 and 1 where lo is 1)
pub meet_unique : {cap : ℕ} {Q : ℕ → Type 0} (lo v w : ℕ) → lo ≤ 1 → Meet lo cap v Q → Meet lo cap w Q → v ≡ w
meet_unique lo zero zero l x y = refl
meet_unique lo zero (suc w) l x y = le_antisymm (omega arith) (meet_le lo (suc w) 0 y x (omega arith))
meet_unique lo (suc v) zero l x y = le_antisymm (meet_le lo (suc v) 0 x y (omega arith)) (omega arith)
meet_unique lo (suc v) (suc w) l x y = le_antisymm (meet_le lo (suc v) (suc w) x y (omega arith)) (meet_le lo (suc w) (suc v) y x (omega arith))

-- a split is supported where its weight is above zero
pub weight_supports : (r : Rule) → Laws r → (k c w : ℕ) → Weight r k c w → (0 < w) ↔ Fours r 1 k c
weight_supports r laws k c w x = ((λ h. ((x.least 1 (omega arith)).0 h).1), (λ f. (x.least 1 (omega arith)).1 (laws.cap k c, f)))

pub lower : (s t : ℕ) (z : ℤ) → s ≤ t → pos t ≤ℤ z → pos s ≤ℤ z
lower s t (pos n) h g = record { le = le→leb s n (omega (arith, leb→le t n g.le)) }
lower s t (negsuc n) h g = absurd g.le

-- the documents' words give the threshold
pub of_weight : (r : Rule) (k c w : ℕ) → Caps r k c → WeightOf r k c w → Weight r k c w
of_weight r k c w caps x = record { least = λ t pt. (there t x.reached, back t x.reached) }
  where
    there : (t : ℕ) → (Bare r k c × (w ≡ 1)) ⊎ Reached r k c w → t ≤ w → (t ≤ r.cap k c) × Fours r t k c
    there t q h = (capped q, λ u u' v v' a b d e f g i j asked. lower t w _ h (x.over u u' v v' a b d e f g i j asked))
      where
        capped : (Bare r k c × (w ≡ 1)) ⊎ Reached r k c w → t ≤ r.cap k c
        capped (inl (b, e)) = omega (arith, caps.bare b)
        capped (inr (u, u', v, v', a, b, d, e, f, g, i, j, asked, q)) = go (dec_lt (r.cap k c) w)
          where
            go : Dec (r.cap k c < w) → t ≤ r.cap k c
            go (yes l) = absurd (caps.high u u' v v' a b d e f g i j asked (lower (suc (r.cap k c)) w _ l (x.over u u' v v' a b d e f g i j asked)))
            go (no l) = omega arith

    back : (t : ℕ) → (Bare r k c × (w ≡ 1)) ⊎ Reached r k c w → (t ≤ r.cap k c) × Fours r t k c → t ≤ w
    back t (inl (b, e)) h = omega (arith, h.0, caps.bare b)
    back t (inr (u, u', v, v', a, b, d, e, f, g, i, j, asked, q)) h = leb→le t w (rw q at (h.1 u u' v v' a b d e f g i j asked)).le
