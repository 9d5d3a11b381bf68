-- Each z passed, with the taxa below it.
use Prim.Native.Nat.{◌≤◌}
use Rattle.statement.specs.Matrix.{weight_limit}
use Rattle.matrix.specs.Distances.{distances}
use Rattle.lone_weights.specs.Lowering.{Begun}
use Rattle.lone_weights.proofs.newcomer.Given as goal

abbrev pub invariant-loop-z : goal.invariant-loop-z
invariant-loop-z l = (l.best ≤ weight_limit) × Begun (distances l.m) l.j l.z l.best
