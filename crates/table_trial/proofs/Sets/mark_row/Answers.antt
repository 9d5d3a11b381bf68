-- `table_trial::Sets::mark_row` meets its contract: the fours of the row that are passed are done.
use Rattle.std.proofs.Common.{arith, ℕ, ◌+◌, ◌≡◌, ap, get_or}
use Rattle.statement.specs.Table.{place}
use Rattle.table.proofs.Choose.{place_below}
use Rattle.table_trial.proofs.Marks.{filled_turn}
use Rattle.table_trial.proofs.Sets.mark_row.Goals as goal

pub overflow_add-from : goal.overflow_add-from
overflow_add-from c =
    let a = c.args in
    let t = a.table.now in
    omega (arith, t.accepted.size, c.requires.3, c.binomial-below.ensures, place_below c.loop-i.i a.j a.l a.x t.n c.loop-i-test.true c.requires.0 c.requires.1 c.requires.2)

pub overflow_add-from-in-loop-i : goal.overflow_add-from-in-loop-i
overflow_add-from-in-loop-i c =
    let a = c.args in
    let t = a.table.now in
    omega (arith, t.accepted.size, c.requires.3, c.binomial-below.ensures, place_below c.loop-i.i a.j a.l a.x t.n c.loop-i-test.true c.requires.0 c.requires.1 c.requires.2)

pub bounds-table-from : goal.bounds-table-from
bounds-table-from c =
    let a = c.args in
    let t = a.table.now in
    omega (arith, t.accepted.size, c.requires.3, c.binomial-below.ensures, place_below c.loop-i.i a.j a.l a.x t.n c.loop-i-test.true c.requires.0 c.requires.1 c.requires.2)

pub loop-i-preserved : goal.loop-i-preserved
loop-i-preserved c =
    let a = c.args in
    let bytes = a.table.now.bytes.now in
    let e : a.from + c.binomial-below.result + c.loop-i.i ≡ place c.loop-i.i a.j a.l a.x = omega (arith, c.requires.3, c.binomial-below.ensures) in
    filled_turn bytes a.x (omega arith) c.loop-i.i a.j a.l _ c.loop-i.self.pairs _ c.loop-i-test.true c.requires.0 c.requires.1
    (ap (λ (p : ℕ). get_or bytes p 0) e) c.loop-i.invariant c.mark.ensures
