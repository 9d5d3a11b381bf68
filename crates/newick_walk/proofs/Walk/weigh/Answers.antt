-- The edge is entered.
use Rattle.newick_edges.specs.Table.{table_in}
use Rattle.newick_walk.specs.Machine.{walk_in}
use Rattle.newick_walk.proofs.Steps.{weigh_is}
use Rattle.newick_walk.proofs.Walk.weigh.Goals as goal

pub returns : goal.returns
returns c =
    let a = c.args in
    weigh_is (walk_in a.self.now) a.n a.x a.next c.side-below.result (table_in c.enter.new.self) c.side-below.ensures c.enter.ensures
