-- The least over the taxa passed.
use lib.ListN.{length}
use Rattle.matrix.specs.Distances.{distances}
use Rattle.matrix_trial.specs.Separated.{Paired}
use Rattle.matrix_trial.proofs.pairs.Given as goal

abbrev pub invariant-loop-y : goal.invariant-loop-y
invariant-loop-y l = Paired (distances l.m) l.a l.z l.rz l.taxa l.reaches (length l.yielded) l.low
