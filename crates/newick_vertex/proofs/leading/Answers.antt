-- `newick_vertex::leading` meets its contract.
use borrow.Author.Tests.{eq-eqb, ne_eqb}
use Rattle.newick_vertex.proofs.leading.Goals as goal

pub returns-then-from-at : goal.returns-then-from-at
returns-then-from-at c = rw (eq-eqb c.args.from c.args.at c.if-from-at.true)

pub returns-else-from-at : goal.returns-else-from-at
returns-else-from-at c = rw (ne_eqb c.args.from c.args.at c.if-from-at.false)
