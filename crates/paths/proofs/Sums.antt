-- Laws of sums over rows, and of the sum of the rows that part two taxa: it is the same both ways, 0 from a taxon to itself, and never above
-- the greatest weight for each row. Assumes nothing.
use Prim.Native.Nat.{ℕ, zero, suc, ◌+◌, ◌*◌, ◌≤◌, ◌<◌}
use native.Mathlib.Omega.{arith}
use mathlib.Core.Path.{◌≡◌, refl, sym, ap, ap₂}
use mathlib.Core.Logic.{inl, inr}
use mathlib.Core.Bool.{Bool, true, false, cond}
use mathlib.Core.List.{List, [], ◌∷◌}
use lib.Dec.{eqb}
use lib.ListN.{length, get_or, drop}
use lib.Seq.{drop-cons, drop-length}
use borrow.Author.Tests.{eqb-true, eqb-false, eq-eqb, ne_eqb}
use Rattle.statement.specs.Cluster.{bit}
use Rattle.statement.specs.Rows.{Row, row, weights, Mem}
use Rattle.paths.specs.RowSum.{sum_over, parting, row_sum}

-- A SUM OVER ROWS
pub sum_add : (f g h : Row → ℕ) → ((r : Row) → f r ≡ g r + h r) → (rows : List Row) → sum_over f rows ≡ sum_over g rows + sum_over h rows
unfolding sum_over
sum_add f g h e [] = refl
sum_add f g h e (r ∷ rs) = omega (arith, e r, sum_add f g h e rs)

sum_same : (f g : Row → ℕ) → ((r : Row) → f r ≡ g r) → (rows : List Row) → sum_over f rows ≡ sum_over g rows
unfolding sum_over
sum_same f g e [] = refl
sum_same f g e (r ∷ rs) = ap₂ (λ (a b : ℕ). a + b) (e r) (sum_same f g e rs)

sum_none : (f : Row → ℕ) → ((r : Row) → f r ≡ 0) → (rows : List Row) → sum_over f rows ≡ 0
unfolding sum_over
sum_none f e [] = refl
sum_none f e (r ∷ rs) = omega (arith, e r, sum_none f e rs)

-- the rows from v on: the first of them, and the others
pub sum_from : (f : Row → ℕ) (rows : List Row) (v : ℕ) → v < length rows
    → sum_over f (drop v rows) ≡ f (get_or rows v (row 0 0)) + sum_over f (drop (suc v) rows)
unfolding sum_over
sum_from f rows v l = ap (sum_over f) (drop-cons rows v (row 0 0) l)

-- k rows that add nothing may be passed over
pub sum_past : (f : Row → ℕ) (rows : List Row) (k v w : ℕ) → v + k ≡ w → w ≤ length rows
    → ((u : ℕ) → v ≤ u → u < w → f (get_or rows u (row 0 0)) ≡ 0) → sum_over f (drop v rows) ≡ sum_over f (drop w rows)
sum_past f rows zero v w e l none = let q : v ≡ w = omega arith in ap (λ (u : ℕ). sum_over f (drop u rows)) q
sum_past f rows (suc k) v w e l none =
    omega (
      arith,
      sum_from f rows v (omega arith),
      none v (omega arith) (omega arith),
      sum_past f rows k (suc v) w (omega arith) l (λ u a b. none u (omega arith) b),
    )

pub sum_end : (f : Row → ℕ) (rows : List Row) → sum_over f (drop (length rows) rows) ≡ 0
unfolding sum_over
sum_end f rows = ap (sum_over f) (drop-length rows)

-- THE ROWS THAT PART TWO TAXA
pub same_both_ways : (rows : List Row) (i j : ℕ) → row_sum rows i j ≡ row_sum rows j i
same_both_ways rows i j = sum_same (parting i j) (parting j i) (λ r. at r (eqb (bit r.cluster i) (bit r.cluster j)) refl) rows
  where
    at : (r : Row) (b : Bool) → eqb (bit r.cluster i) (bit r.cluster j) ≡ b → parting i j r ≡ parting j i r
    at r true e = rw (e, eq-eqb (bit r.cluster j) (bit r.cluster i) (sym (eqb-true _ _ e)))
    at r false e = rw (e, ne_eqb (bit r.cluster j) (bit r.cluster i) (λ q. eqb-false _ _ e (sym q)))

pub none_to_itself : (rows : List Row) (i : ℕ) → row_sum rows i i ≡ 0
none_to_itself rows i = sum_none (parting i i) (λ r. rw (eq-eqb (bit r.cluster i) (bit r.cluster i) refl)) rows

parting_most : (most i j : ℕ) (r : Row) → r.weight ≤ most → parting i j r ≤ most
parting_most most i j r l = at (eqb (bit r.cluster i) (bit r.cluster j))
  where
    at : (b : Bool) → cond b 0 r.weight ≤ most
    at true = omega arith
    at false = omega arith

sum_most : (most : ℕ) (rows : List Row) (i j : ℕ) → ((w : ℕ) → Mem w (weights rows) → w ≤ most) → row_sum rows i j ≤ length rows * most
unfolding sum_over
sum_most most [] i j light = omega arith
sum_most most (r ∷ rs) i j light =
    omega (arith, parting_most most i j r (light r.weight (inl refl)), sum_most most rs i j (λ w m. light w (inr m)))

-- never above 250,000,000
pub sum_small : (rows : List Row) (i j : ℕ) → length rows ≤ 125 → ((w : ℕ) → Mem w (weights rows) → w ≤ 2000000) → row_sum rows i j ≤ 250000000
sum_small rows i j few light = omega (arith, sum_most 2000000 rows i j light)
