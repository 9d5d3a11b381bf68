-- `paths::put_sums` meets its contract: each entry passed holds the sum of the rows that part its taxa.
use Prim.Native.Nat.{ℕ, ◌/◌, ◌%◌, ◌<◌}
use mathlib.Core.Path.{◌≡◌}
use lib.ListN.{length, get_or}
use Rattle.statement.specs.Rows.{rows_of}
use Rattle.paths.specs.RowSum.{row_sum}
use Rattle.paths.proofs.put_sums.Given as goal

abbrev pub invariant-loop-e : goal.invariant-loop-e
invariant-loop-e l = (length l.out ≡ length l.initial.out) × ((d : ℕ) → d < l.e → get_or l.out d 0 ≡ row_sum (rows_of l.s) (d / l.n) (d % l.n))
