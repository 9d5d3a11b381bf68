-- The taxon alone where it is fresh.
use mathlib.Core.Path.{sym, ◌∙◌}
use Rattle.newick_edges.proofs.Marking.{mask_is, mask_none}
use Rattle.newick_edges.proofs.mask.Goals as goal

pub returns-then-fresh : goal.returns-then-fresh
returns-then-fresh c = let a = c.args in c.single.ensures ∙ mask_is a.n a.seen a.x (sym c.if-fresh.ensures)

pub returns-else-fresh : goal.returns-else-fresh
returns-else-fresh c = let a = c.args in mask_none a.n a.seen a.x (sym c.if-fresh.ensures)
