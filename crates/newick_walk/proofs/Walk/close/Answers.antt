-- The taxa met since the bracket was opened.
use mathlib.Core.Path.{◌∙◌, ap}
use native.Mathlib.Omega.{arith}
use Rattle.newick_walk.specs.Machine.{walk_in}
use Rattle.newick_walk.proofs.Steps.{closed_at, closes_none, closes_full, closes_at}
use Rattle.newick_walk.proofs.Walk.close.Goals as goal
use Rattle.newick_walk.proofs.Walk.close.Goals.{else-self-gt0-via-then-self-gt0+else-self-le131, else-self-gt0-via-else-self-gt0}

pub returns-then-self-le131 : goal.returns-then-self-le131
returns-then-self-le131 c =
    let w = walk_in c.args.self.now in
    ap (closed_at w) c.saturating_sub-self.ensures ∙ closes_at w (λ e. omega arith) (omega arith)

pub returns-else-self-gt0 : goal.returns-else-self-gt0
returns-else-self-gt0 c =
    let w = walk_in c.args.self.now in
    elim c.else-self-gt0.branch [
      | else-self-gt0-via-then-self-gt0+else-self-le131 v ↦ closes_full w (λ e. omega arith) (omega arith)
      | else-self-gt0-via-else-self-gt0 v ↦ closes_none w (omega arith)
    ]
