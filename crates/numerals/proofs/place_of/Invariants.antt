-- `numerals::place_of` meets its contract. The loop has the place of the byte at its index.
use Rattle.numerals.proofs.Laws.{Passed}
use Rattle.numerals.proofs.place_of.Given as goal

abbrev pub invariant-loop-b : goal.invariant-loop-b
invariant-loop-b l = Passed l.text l.p l.b-index l.here
