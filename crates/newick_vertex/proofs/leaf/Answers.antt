-- `newick_vertex::leaf` meets its contract.
use Rattle.newick_digits.proofs.Written.{wrote_then}
use Rattle.newick_vertex.proofs.leaf.Goals as goal

pub returns : goal.returns
returns c = wrote_then c.put.ensures (wrote_then c.put_number.ensures c.weigh.ensures)
