-- A sum over the rows of a list, read one after the other in its arrays. Assumes nothing.
use Prim.Native.Nat.{ℕ, ◌+◌, ◌<◌}
use native.Mathlib.Numerals.{add-one}
use mathlib.Core.Path.{◌≡◌, ap}
use lib.ListN.{get_or, drop}
use Rattle.statement.specs.declared.Splits.{Splits}
use Rattle.statement.specs.Rows.{Row, row, rows_of}
use Rattle.splits_list.proofs.Laws.{Roomy, rows_at, rows_end}
use Rattle.paths.specs.RowSum.{sum_over}

module _ (f : Row → ℕ) (s : Splits) (room : Roomy s) where
  pub next_row : (k : ℕ) → k < s.rows
      → sum_over f (drop k (rows_of s)) ≡ f (row (get_or s.clusters k 0) (get_or s.weights k 0)) + sum_over f (drop (k + 1) (rows_of s))
  unfolding sum_over
  next_row k l = rw add-one (ap (sum_over f) (rows_at s room k l))

  pub no_row : sum_over f (drop s.rows (rows_of s)) ≡ 0
  unfolding sum_over
  no_row = ap (sum_over f) (rows_end s room)
