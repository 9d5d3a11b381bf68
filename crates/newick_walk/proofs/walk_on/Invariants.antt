-- What is left of the tokens; each turn takes one.
use Prim.Native.Nat.{◌-◌, ◌≤◌}
use lib.ListN.{length}
use Rattle.newick_walk.specs.Machine.{walk_in}
use Rattle.newick_walk.proofs.Turns.{Going}
use Rattle.newick_walk.proofs.walk_on.Given as goal

abbrev pub invariant-loop-w : goal.invariant-loop-w
invariant-loop-w l = Going l.n l.t (walk_in l.fn.start) (walk_in l.w) × (l.w.depth ≤ l.w.at) × (l.w.at ≤ length l.t)

abbrev pub decreases-loop-w : goal.decreases-loop-w
decreases-loop-w l = length l.t - l.w.at
