-- `table::greatest` meets its contract: no byte that is passed exceeds it.
use Rattle.std.proofs.Common.{ℕ, ◌≤◌, ◌<◌, get_or}
use Rattle.table.proofs.greatest.Given as goal

abbrev pub invariant-loop-b : goal.invariant-loop-b
invariant-loop-b l = (i : ℕ) → i < l.b-index → get_or l.bytes i 0 ≤ l.top
