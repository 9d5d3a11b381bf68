-- `table_trial::Sets::mark_rows` meets its contract: the rows passed are done.
use Rattle.std.proofs.Common.{arith, ◌≡◌}
use Rattle.table.proofs.Choose.{place_below}
use Rattle.table_trial.proofs.Marks.{rows_end}
use Rattle.table_trial.proofs.Sets.mark_rows.Goals as goal

pub overflow_add-from : goal.overflow_add-from
overflow_add-from c =
    let a = c.args in
    let t = a.table.now in
    omega (arith, t.accepted.size, c.binomial.ensures, c.fours.ensures, place_below 0 1 a.l a.x t.n (omega arith) c.requires.0 c.requires.1 c.requires.2)

pub returns : goal.returns
returns c =
    let a = c.args in
    let e : c.loop-j.j ≡ a.l = omega arith in
    rows_end a.table.now.bytes.now a.x (omega arith) a.l c.loop-j.self.pairs c.requires.0 c.requires.1 (rw e at c.loop-j.invariant)
