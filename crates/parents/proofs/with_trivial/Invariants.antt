-- `parents::with_trivial` meets its contract: the trivial splits passed are put in.
use Rattle.parents.proofs.Laws.{Merging}
use Rattle.parents.proofs.with_trivial.Given as goal

abbrev pub invariant-loop-i : goal.invariant-loop-i
invariant-loop-i l = Merging l.most l.s.taxa l.s l.list l.at l.i
