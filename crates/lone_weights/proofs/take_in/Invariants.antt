-- The weights passed are those with the taxon j.
use Rattle.matrix.specs.Distances.{distances}
use Rattle.lone_weights.proofs.Lowering.{Taking}
use Rattle.lone_weights.proofs.take_in.Given as goal

abbrev pub invariant-loop-v : goal.invariant-loop-v
invariant-loop-v l = Taking (distances l.m) l.j l.v l.lone
