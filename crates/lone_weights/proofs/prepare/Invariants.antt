-- The taxa passed are taken in.
use Rattle.matrix.specs.Distances.{distances}
use Rattle.lone_weights.specs.Lone.{Kept}
use Rattle.lone_weights.proofs.prepare.Given as goal

abbrev pub invariant-loop-j : goal.invariant-loop-j
invariant-loop-j l = Kept (distances l.m) l.j l.j l.lone
