-- No brackets, no taxa, no edges.
use Rattle.newick_edges.specs.Table.{table_in}
use Rattle.newick_walk.proofs.Steps.{begun_is}
use Rattle.newick_walk.proofs.Walk.new.Goals as goal

pub returns : goal.returns
returns c = begun_is (table_in c.new.result) c.new.ensures
