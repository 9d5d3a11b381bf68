-- The nearest of the taxa passed.
use Rattle.matrix.specs.Distances.{distances}
use Rattle.neighbours.specs.Near.{Nearest}
use Rattle.neighbours.proofs.nearest.Given as goal

abbrev pub invariant-loop-i : goal.invariant-loop-i
invariant-loop-i l = Nearest (distances l.m) l.k l.i l.near
