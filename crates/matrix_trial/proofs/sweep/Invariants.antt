-- The weight is the least over the pairs of the taxa passed.
use mathlib.Core.Path.{◌≡◌}
use lib.ListN.{length}
use Rattle.matrix.specs.Distances.{distances}
use Rattle.matrix_trial.specs.Separated.{Reached, Swept}
use Rattle.matrix_trial.proofs.sweep.Given as goal

abbrev pub invariant-loop-i : goal.invariant-loop-i
invariant-loop-i l =
    let s = l.seen in
    let others = s.others.now in
    (length l.reaches ≡ 64) × Reached (distances s.matrix) s.k s.a s.c others l.reaches l.i
    × Swept (distances s.matrix) s.k s.a s.c others (length others) l.w l.i l.best
