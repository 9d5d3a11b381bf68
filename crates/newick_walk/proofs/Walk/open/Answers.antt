-- One bracket deeper.
use Rattle.newick_walk.specs.Machine.{walk_in}
use Rattle.newick_walk.proofs.Steps.{opens_full, opens_at}
use Rattle.newick_walk.proofs.Walk.open.Goals as goal

pub returns-then-self-lt131 : goal.returns-then-self-lt131
returns-then-self-lt131 c = opens_at (walk_in c.args.self.now) c.if-self-lt131.true

pub returns-else-self-lt131 : goal.returns-else-self-lt131
returns-else-self-lt131 c = opens_full (walk_in c.args.self.now) c.if-self-lt131.false
