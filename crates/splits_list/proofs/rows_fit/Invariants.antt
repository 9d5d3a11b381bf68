-- The rows one after the other: those passed are good, so row i meets only splits before it.
use Rattle.std.proofs.Common.{ℕ, ◌<◌, ◌≡◌, false}
use Rattle.statement.specs.Rows.{bad_row}
use Rattle.splits_list.proofs.rows_fit.Given as goal

abbrev pub invariant-loop-i : goal.invariant-loop-i
invariant-loop-i l = (j : ℕ) → j < l.i → bad_row l.most l.s j ≡ false
