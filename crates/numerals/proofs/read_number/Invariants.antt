-- `numerals::read_number` meets its contract. The number so far, with what remains of the text, is the number at the place, as far as it counts; and the
-- digits passed so far, with those that remain, are all of its digits.
use Prim.Native.Nat.{◌+◌, ◌-◌, ◌≤◌, min}
use mathlib.Core.Path.{◌≡◌}
use lib.ListN.{length, drop}
use Rattle.statement.specs.Decimal.{on_from, span}
use Rattle.numerals.specs.Numerals.{number_at}
use Rattle.numerals.proofs.Laws.{too_large}
use Rattle.numerals.proofs.read_number.Given as goal

abbrev pub invariant-loop-behind : goal.invariant-loop-behind
invariant-loop-behind l = (l.value ≤ too_large) × (min (on_from l.value (drop l.behind l.text)) too_large ≡ min (number_at l.text l.p) too_large) × (l.behind + span (drop l.behind l.text) ≡ l.p + span (drop l.p l.text))

abbrev pub decreases-loop-behind : goal.decreases-loop-behind
decreases-loop-behind l = length l.text - l.behind
