-- The pulls of the taxa passed.
use mathlib.Core.Path.{◌≡◌}
use lib.ListN.{length}
use Rattle.matrix.specs.Distances.{distances}
use Rattle.neighbours.specs.Reach.{Pulls}
use Rattle.neighbours.proofs.pulls.Given as goal

abbrev pub invariant-loop-x : goal.invariant-loop-x
invariant-loop-x l = (length l.all ≡ 64) × Pulls (distances l.m) l.k l.x l.a l.c l.all
