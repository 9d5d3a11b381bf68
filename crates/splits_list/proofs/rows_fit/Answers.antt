-- The rows one after the other: those passed are good, so row i meets only splits before it.
use Rattle.std.proofs.Common.{◌≡◌, true, false, not, sym, ◌∙◌, ap}
use native.Mathlib.Omega.{arith}
use borrow.Author.Count.{below_more}
use Rattle.std.proofs.lemmas.Grind.{common_steps}
use Rattle.statement.specs.Rows.{bad_row}
use Rattle.statement.proofs.Lowest.{some_at, none_at}
use Rattle.splits_list.proofs.Checks.{splits}
use Rattle.splits_list.proofs.rows_fit.Goals as goal

pub row_clashes-requires-clause-by_index : goal.row_clashes-requires-clause-by_index
row_clashes-requires-clause-by_index c = splits c.args.most c.args.s.now c.loop-i.i c.loop-i.invariant (sym c.row_fits.ensures ∙ c.if-not-row_fits.false)

pub returns-then-not-row_fits : goal.returns-then-not-row_fits
unfolding bad_row
returns-then-not-row_fits c =
    let s = c.args.s.now in
    let bad : bad_row c.args.most s c.loop-i.i ≡ true = grind (arith, common_steps) in
    sym (ap not (some_at (bad_row c.args.most s) s.rows c.loop-i.i c.loop-i-test.true bad))

pub loop-i-preserved : goal.loop-i-preserved
unfolding bad_row
loop-i-preserved c =
    let good : bad_row c.args.most c.args.s.now c.loop-i.i ≡ false = grind (arith, common_steps) in
    below_more _ _ c.loop-i.invariant good

pub returns : goal.returns
returns c =
    let s = c.args.s.now in
    sym (ap not (none_at (bad_row c.args.most s) s.rows (λ j h. c.loop-i.invariant j (omega arith))))
