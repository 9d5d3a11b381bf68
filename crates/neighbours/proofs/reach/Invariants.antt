-- The least over the x passed.
use lib.ListN.{length}
use Rattle.matrix.specs.Distances.{distances}
use Rattle.neighbours.specs.Reach.{Reach}
use Rattle.neighbours.proofs.reach.Given as goal

abbrev pub invariant-loop-xz : goal.invariant-loop-xz
invariant-loop-xz l = Reach (distances l.m) l.k (length l.yielded) l.a l.c l.z l.low
