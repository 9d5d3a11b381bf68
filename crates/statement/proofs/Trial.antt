-- What a trial's answer means: a number from 1 on is at most the answer exactly when it is at most w and no asked four with the taxon a scores
-- less. Assumes nothing.
use Prim.Native.Nat.{ℕ, suc, ◌≤◌, ◌<◌}
use native.Mathlib.Omega.{arith}
use mathlib.Core.Path.{◌≡◌, refl, sym, ap, subst}
use mathlib.Core.Logic.{◌≢◌, ◌↔◌}
use mathlib.Core.Bool.{Bool, true, false, cond, not, ◌&&◌, ◌||◌}
use mathlib.Core.List.{List}
use lib.Dec.{eqb, leb→le, le→leb}
use lib.ListN.{get_or}
use lib.IntN.{ℤ, pos, negsuc}
use lib.Signed.{◌≤ℤ◌}
use borrow.Author.Tests.{eqb-true, eqb-false}
use Rattle.statement.specs.Cluster.{bit}
use Rattle.statement.specs.Table.{Pairing, stands, table_weight}
use Rattle.statement.specs.Growing.{lesser, over_fours, above, repeat_trial, table_trial}
use Rattle.statement.proofs.Rule.{Rule, Distinct, Ok, New, Trial}
use Rattle.statement.proofs.Instances.{repeat_rule, placed, code, table_at, table_rule}
use Rattle.statement.proofs.Pairing.{pairing_is}
use Rattle.statement.proofs.Lesser.{lesser_of, of_lesser}
use Rattle.statement.proofs.Parts.{Says, repeat_says, table_says, four_of, with_xy, with_x, over_parts, Parted, parted_distinct, asked}

-- what is at most the weight, and at most what a four says where it is asked
unasked : (f : Says) (a c w x y z t : ℕ) → t ≤ w → (Parted c a x y z → t ≤ f w x y z) → t ≤ four_of f a c w x y z
unfolding four_of
unasked f a c w x y z t l h = go (eqb (bit c x) (bit c a)) refl (eqb (bit c y) (bit c a)) refl (eqb (bit c z) (bit c a)) refl
  where
    go : (p : Bool) → eqb (bit c x) (bit c a) ≡ p → (q : Bool) → eqb (bit c y) (bit c a) ≡ q → (s : Bool) → eqb (bit c z) (bit c a) ≡ s
        → t ≤ cond (p && (not q && not s)) (f w x y z) w
    go false ep q eq s es = l
    go true ep true eq s es = l
    go true ep false eq true es = l
    go true ep false eq false es = h (record { x_side = eqb-true _ _ ep; y_side = eqb-false _ _ eq; z_side = eqb-false _ _ es })

-- every asked four ax|yz of the split c of n taxa scores t or more. Growth has the newcomer for a; request §5 takes any taxon
abbrev pub Anchored : Rule → ℕ → ℕ → ℕ → ℕ → Type 0
Anchored r t n a c = (x y z : ℕ) → x < n → y < n → z < n → Parted c a x y z → Ok r t n c a x y z

-- THE MEANING, where what the fours say stands for the rule's scores
module _ (r : Rule) (f : Says) (n a c w : ℕ)
    (agree : (t x y z : ℕ) → 1 ≤ t → t ≤ w → x < n → y < n → z < n → Parted c a x y z → (t ≤ f w x y z) ↔ Ok r t n c a x y z) where
  pub over_fours_law : (t : ℕ) → 1 ≤ t → (t ≤ over_fours (f w) n a c w) ↔ ((t ≤ w) × Anchored r t n a c)
  unfolding with_x with_xy
  over_fours_law t pt = ((λ h. there (rw (← (over_parts f n a c w)) at h)), (λ h. rw (← (over_parts f n a c w)) (back h.0 h.1)))
    where
      there : t ≤ lesser w (with_x f n a c w) n → (t ≤ w) × Anchored r t n a c
      there h =
          let p = lesser_of w t (with_x f n a c w) n h in (
            p.0,
            λ x y z lx ly lz parted.
                let q = lesser_of w t (with_xy f n a c w x) n (p.1 x lx) in
                let s = lesser_of w t (four_of f a c w x y) n (q.1 y ly) in
                (agree t x y z pt p.0 lx ly lz parted).0 (omega (arith, asked f a c w x y z parted, s.1 z lz)),
          )

      back : t ≤ w → Anchored r t n a c → t ≤ lesser w (with_x f n a c w) n
      back l h =
          of_lesser w t (with_x f n a c w) n l
          (λ x lx. of_lesser w t (with_xy f n a c w x) n l
          (λ y ly. of_lesser w t (four_of f a c w x y) n l
          (λ z lz. unasked f a c w x y z t l (λ parted. (agree t x y z pt l lx ly lz parted).1 (h x y z lx ly lz parted)))))

-- with the newcomer k for a, of a candidate of k + 1 taxa
pub anchored_new : (r : Rule) (t k c : ℕ) → Anchored r t (suc k) k c ↔ New r t k c
anchored_new r t k c = (
  (λ h x y z lx ly lz p q s. h x y z (omega arith) (omega arith) (omega arith) (record { x_side = p; y_side = q; z_side = s })),
  (λ h x y z lx ly lz p. h x y z (omega arith) (under y ly p.y_side) (under z lz p.z_side) p.x_side p.y_side p.z_side),
)
  where
    under : (m : ℕ) → m < suc k → bit c m ≢ bit c k → m < k
    under m l d = let m≢k : m ≢ k = λ e. d (ap (bit c) e) in omega arith

pub new_trial : (r : Rule) (k c w v : ℕ) → ((t : ℕ) → 1 ≤ t → (t ≤ v) ↔ ((t ≤ w) × Anchored r t (suc k) k c)) → Trial r k c w v
new_trial r k c w v h =
    record {
      least = λ t pt. (
        (λ l. let p = (h t pt).0 l in (p.0, (anchored_new r t k c).0 p.1)),
        (λ p. (h t pt).1 (p.0, (anchored_new r t k c).1 p.1)),
      );
    }

-- a score as a weight
pub above_is : (t : ℕ) (z : ℤ) → 1 ≤ t → (t ≤ above z) ↔ (pos t ≤ℤ z)
above_is t (pos n) pt = ((λ h. record { le = le→leb t n h }), (λ h. leb→le t n h.le))
above_is t (negsuc n) pt = ((λ h. absurd (omega arith)), (λ h. absurd h.le))

-- ON A MATRIX
pub repeat_trial_law : (n : ℕ) (d : ℕ → ℕ → ℕ) (k a c w t : ℕ) → 1 ≤ t → (t ≤ repeat_trial d k a c w) ↔ ((t ≤ w) × Anchored (repeat_rule n d) t k a c)
unfolding repeat_trial repeat_says
repeat_trial_law n d k a c w t pt =
    over_fours_law (repeat_rule n d) (repeat_says d a) k a c w (λ s x y z ps l lx ly lz p.
    let e = above_is s _ ps in ((λ h asked. e.0 h), (λ ok. e.1 (ok tt)))) t pt

-- ON A TABLE: a four of different taxa stands in it, or scores nothing
pub stands_one : (bytes : List ℕ) (w x y z : ℕ) → Distinct w x y z → table_at bytes (placed w x y z) (code w x y z) ≡ pos (cond (stands bytes w x y z) table_weight 0)
stands_one bytes w x y z d = ap (λ (p : Pairing). pos (cond (eqb (get_or bytes p.place 0) p.byte) 1 0)) (sym (pairing_is w x y z d))

pub table_trial_law : (n : ℕ) (bytes : List ℕ) (k a c w t : ℕ) → 1 ≤ t → (t ≤ table_trial bytes k a c w) ↔ ((t ≤ w) × Anchored (table_rule n bytes) t k a c)
unfolding table_trial table_says
table_trial_law n bytes k a c w t pt = over_fours_law (table_rule n bytes) (table_says bytes a) k a c w (λ s x y z ps l lx ly lz p. agree s x y z ps l p) t pt
  where
    agree : (s x y z : ℕ) → 1 ≤ s → s ≤ w → Parted c a x y z → (s ≤ table_says bytes a w x y z) ↔ Ok (table_rule n bytes) s k c a x y z
    agree s x y z ps l p = go (eqb a x) refl (eqb y z) refl
      where
        go : (i : Bool) → eqb a x ≡ i → (j : Bool) → eqb y z ≡ j
            → (s ≤ cond (i || j) w (cond (stands bytes a x y z) table_weight 0)) ↔ Ok (table_rule n bytes) s k c a x y z
        go true ei j ej = ((λ h d. absurd (d.wx (eqb-true a x ei))), (λ ok. l))
        go false ei true ej = ((λ h d. absurd (d.yz (eqb-true y z ej))), (λ ok. l))
        go false ei false ej =
            let d = parted_distinct p (eqb-false a x ei) (eqb-false y z ej) in
            let e = above_is s (pos (cond (stands bytes a x y z) table_weight 0)) ps in (
              (λ h _. subst (λ (v : ℤ). pos s ≤ℤ v) (sym (stands_one bytes a x y z d)) (e.0 h)),
              (λ ok. e.1 (subst (λ (v : ℤ). pos s ≤ℤ v) (stands_one bytes a x y z d) (ok d))),
            )
