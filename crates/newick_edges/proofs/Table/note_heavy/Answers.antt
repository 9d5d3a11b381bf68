-- The first place is kept.
use Rattle.newick_edges.specs.Table.{table_in}
use Rattle.newick_edges.proofs.Laws.{light_is, heavy_is}
use Rattle.newick_edges.proofs.Table.note_heavy.Goals as goal

pub returns-then-w-gt2000000 : goal.returns-then-w-gt2000000
returns-then-w-gt2000000 c = let a = c.args in heavy_is (table_in a.self.now) a.place a.w c.or-self.result c.if-w-gt2000000.true c.or-self.ensures

pub returns-else-w-gt2000000 : goal.returns-else-w-gt2000000
returns-else-w-gt2000000 c = let a = c.args in light_is (table_in a.self.now) a.place a.w c.if-w-gt2000000.false
