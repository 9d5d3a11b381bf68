-- `grow::pass` meets its contract: the rows not yet passed, kept and pushed, complete the pass.
use Rattle.std.proofs.Common.{suc}
use Rattle.grow.proofs.Laws.{Passing}
use Rattle.grow.proofs.pass.Given as goal

abbrev pub invariant-loop-i : goal.invariant-loop-i
invariant-loop-i g l = Passing ((g.S.Source.manner l.source).trial (suc l.k) l.k) l.b l.old l.initial.list l.list l.i
