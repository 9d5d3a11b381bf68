-- `matrix_trial::listed_trial` meets its contract: a four with the nearest neighbour fails it, or the sweep decides.
use Rattle.matrix.specs.Distances.{distances}
use Rattle.neighbours.proofs.Looks.{fails_zero}
use Rattle.matrix_trial.proofs.listed_trial.Goals as goal

pub returns-then-fails_first : goal.returns-then-fails_first
returns-then-fails_first c =
    let s = c.args.seen.now in
    fails_zero s.matrix.n (distances s.matrix) s.k s.a s.c c.args.w (c.fails_first.ensures c.if-fails_first.true)

pub returns-then-fails_near : goal.returns-then-fails_near
returns-then-fails_near c =
    let s = c.args.seen.now in
    fails_zero s.matrix.n (distances s.matrix) s.k s.a s.c c.args.w (c.fails_near.ensures c.if-fails_near.true)
