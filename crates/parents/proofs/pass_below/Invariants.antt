-- `parents::pass_below` meets its contract: the rows passed are pushed.
use Rattle.std.proofs.Common.{◌-◌}
use Rattle.parents.specs.Merging.{Passed}
use Rattle.parents.proofs.pass_below.Given as goal

abbrev pub invariant-loop-at : goal.invariant-loop-at
invariant-loop-at l = Passed l.old l.initial.list l.list l.c l.from l.at

abbrev pub decreases-loop-at : goal.decreases-loop-at
decreases-loop-at l = l.old.rows - l.at
