-- The least over the y passed.
use Rattle.matrix.specs.Distances.{distances}
use Rattle.lone_weights.specs.Lowering.{Row}
use Rattle.lone_weights.proofs.row.Given as goal

abbrev pub invariant-loop-y : goal.invariant-loop-y
invariant-loop-y l = Row (distances l.m) l.v l.z l.y l.low
