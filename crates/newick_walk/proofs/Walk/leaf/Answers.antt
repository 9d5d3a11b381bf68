-- The taxon is met, and is below the next edge.
use Rattle.newick_walk.specs.Machine.{walk_in}
use Rattle.newick_walk.proofs.Steps.{leaf_is}
use Rattle.newick_walk.proofs.Walk.leaf.Goals as goal

pub returns : goal.returns
returns c =
    let a = c.args in
    leaf_is (walk_in a.self.now) a.n a.x a.next c.mask-self.result c.meet.new.self c.mask-self.ensures c.meet.ensures
