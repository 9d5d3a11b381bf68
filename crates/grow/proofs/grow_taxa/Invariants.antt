-- `grow::grow_taxa` meets its contract: what remains completes the growth (Going).
use Rattle.std.proofs.Common.{◌-◌}
use Rattle.grow.proofs.Going.{Going}
use Rattle.grow.proofs.grow_taxa.Given as goal

abbrev pub invariant-loop-t : goal.invariant-loop-t
invariant-loop-t g l =
    let source = g.S.Source in
    Going (source.manner l.source) (source.taxa l.source) l.allowance l.initial.t l.t l.left l.spent × source.IsEarly l.source l.t.taxa l.ready

abbrev pub decreases-loop-t : goal.decreases-loop-t
decreases-loop-t g l = l.n - l.t.taxa
