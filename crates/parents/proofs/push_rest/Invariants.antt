-- `parents::push_rest` meets its contract: the rows not yet pushed complete it.
use Rattle.parents.proofs.Laws.{Copying}
use Rattle.parents.proofs.push_rest.Given as goal

abbrev pub invariant-loop-i : goal.invariant-loop-i
invariant-loop-i l = Copying l.old l.initial.list l.list l.from l.i
