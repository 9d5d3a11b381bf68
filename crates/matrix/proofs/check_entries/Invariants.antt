-- No entry passed is bad, for any line of the table that this check is.
use Prim.Native.Nat.{ℕ, ◌+◌, ◌*◌, ◌<◌}
use mathlib.Core.Path.{◌≡◌}
use mathlib.Core.Bool.{false}
use Rattle.statement.specs.Refusals.{Check}
use Rattle.matrix.specs.Checking.{IsLine}
use Rattle.matrix.proofs.check_entries.Given as goal

abbrev pub invariant-loop-row : goal.invariant-loop-row
invariant-loop-row g l = (k : Check) → IsLine l.n l.reason (goal.F-post g l.bad) k → (e : ℕ) → e < l.row * l.n → k.bad e ≡ false

abbrev pub invariant-loop-column : goal.invariant-loop-column
invariant-loop-column g l = (k : Check) → IsLine l.n l.reason (goal.F-post g l.bad) k → (e : ℕ) → e < l.row * l.n + l.column → k.bad e ≡ false
