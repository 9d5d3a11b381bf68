-- A trial's fours ax|yz by what is given of them: x, y and z; x and y; x. Assumes nothing.
use Prim.Native.Nat.{ℕ}
use mathlib.Core.Path.{◌≡◌, refl, sym, ◌∙◌, ap}
use mathlib.Core.Logic.{◌≢◌}
use mathlib.Core.Bool.{Bool, true, false, cond, ◌&&◌, ◌||◌}
use mathlib.Core.List.{List}
use lib.Dec.{eqb}
use borrow.Author.Tests.{eq-eqb, ne_eqb, eqb-true, eqb-false}
use Rattle.statement.specs.Cluster.{bit}
use Rattle.statement.specs.Matrix.{score}
use Rattle.statement.specs.Table.{stands, table_weight}
use Rattle.statement.specs.Growing.{lesser, parts_as, over_fours, above, pairs}
use Rattle.statement.proofs.Rule.{Distinct}

-- WHAT FOURS SAY, by the weight w that the trial starts from, and by x, y and z
abbrev pub Says : Type 0
Says = ℕ → ℕ → ℕ → ℕ → ℕ

-- on a matrix the score of ax|yz, where both are pairs of their group in the split c of n taxa; before §7 always; on a table only four different taxa
-- count
unfoldable pub pair_says : (ℕ → ℕ → ℕ) → ℕ → ℕ → ℕ → Says
pair_says d n c a w x y z = cond (pairs n c a x && pairs n c y z) (above (score d a x y z)) w

unfoldable pub repeat_says : (ℕ → ℕ → ℕ) → ℕ → Says
repeat_says d a w x y z = above (score d a x y z)

unfoldable pub table_says : List ℕ → ℕ → Says
table_says bytes a w x y z = cond (eqb a x || eqb y z) w (cond (stands bytes a x y z) table_weight 0)

-- what one four says; w where x, y and z do not part as ax|yz
unfoldable pub four_of : Says → ℕ → ℕ → ℕ → ℕ → ℕ → ℕ → ℕ
four_of f a c w x y z = cond (parts_as c a x y z) (f w x y z) w

-- the lesser of w and these for z below n; and for y and z below n
unfoldable pub with_xy : Says → ℕ → ℕ → ℕ → ℕ → ℕ → ℕ → ℕ
with_xy f n a c w x y = lesser w (four_of f a c w x y) n

unfoldable pub with_x : Says → ℕ → ℕ → ℕ → ℕ → ℕ → ℕ
with_x f n a c w x = lesser w (with_xy f n a c w x) n

pub over_parts : (f : Says) (n a c w : ℕ) → lesser w (with_x f n a c w) n ≡ over_fours (f w) n a c w
unfolding over_fours with_x with_xy four_of
over_parts f n a c w = refl

-- SIDES of the split c, as a test of i beside a shows them
module _ (c a i : ℕ) {r : Bool} (e : r ≡ eqb (bit c i) (bit c a)) where
  pub on_side : r ≡ true → bit c i ≡ bit c a
  on_side h = eqb-true (bit c i) (bit c a) (sym e ∙ h)

  pub off_side : r ≡ false → bit c i ≢ bit c a
  off_side h = eqb-false (bit c i) (bit c a) (sym e ∙ h)

-- x is on a's side of c, y and z are on the other
pub record Parted (c a x y z : ℕ) : Type 0 where
  pub x_side : bit c x ≡ bit c a
  pub y_side : bit c y ≢ bit c a
  pub z_side : bit c z ≢ bit c a

pub parted : {c a x y z : ℕ} → Parted c a x y z → parts_as c a x y z ≡ true
parted {c} {a} {x} {y} {z} p =
    rw (eq-eqb (bit c x) (bit c a) p.x_side, ne_eqb (bit c y) (bit c a) p.y_side, ne_eqb (bit c z) (bit c a) p.z_side)

-- only a may be x, and y be z
pub parted_distinct : {c a x y z : ℕ} → Parted c a x y z → a ≢ x → y ≢ z → Distinct a x y z
parted_distinct {c} p ax yz =
    record {
      wx = ax;
      wy = λ e. p.y_side (ap (bit c) (sym e));
      wz = λ e. p.z_side (ap (bit c) (sym e));
      xy = λ e. p.y_side (ap (bit c) (sym e) ∙ p.x_side);
      xz = λ e. p.z_side (ap (bit c) (sym e) ∙ p.x_side);
      yz = yz;
    }

-- what a four that is asked says
pub asked : (f : Says) (a c w x y z : ℕ) → Parted c a x y z → four_of f a c w x y z ≡ f w x y z
unfolding four_of
asked f a c w x y z p = rw (parted p)
