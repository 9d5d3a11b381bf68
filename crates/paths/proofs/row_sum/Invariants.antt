-- `paths::row_sum` meets its contract: the sum so far and what the rows left add are the whole.
use Prim.Native.Nat.{◌+◌}
use mathlib.Core.Path.{◌≡◌}
use lib.ListN.{drop}
use Rattle.statement.specs.Rows.{rows_of}
use Rattle.paths.specs.RowSum.{sum_over, parting, row_sum}
use Rattle.paths.proofs.row_sum.Given as goal

abbrev pub invariant-loop-k : goal.invariant-loop-k
invariant-loop-k l = l.sum + sum_over (parting l.i l.j) (drop l.k (rows_of l.s)) ≡ row_sum (rows_of l.s) l.i l.j
