-- Dropped, with an empty cluster, or added.
use Rattle.newick_edges.specs.Table.{table_in}
use Rattle.newick_edges.proofs.Laws.{dropped_is, entered_bare, entered, bare_is}
use Rattle.newick_edges.proofs.Table.enter.Goals as goal

pub returns-then-w-eq0 : goal.returns-then-w-eq0
returns-then-w-eq0 c = let a = c.args in dropped_is (table_in a.self.now) a.place a.c a.w c.if-w-eq0.true

pub returns-then-c-eq0 : goal.returns-then-c-eq0
returns-then-c-eq0 c =
    let a = c.args in let u = table_in c.note_heavy.new.self in
    entered_bare (table_in a.self.now) a.place a.c a.w u _ c.if-w-eq0.false c.if-c-eq0.true c.note_heavy.ensures (bare_is u a.place c.or-self.result c.or-self.ensures)

pub returns-else-c-eq0 : goal.returns-else-c-eq0
returns-else-c-eq0 c =
    let a = c.args in
    entered (table_in a.self.now) a.place a.c a.w (table_in c.note_heavy.new.self) (table_in c.add.new.self) c.if-w-eq0.false c.if-c-eq0.false c.note_heavy.ensures c.add.ensures
