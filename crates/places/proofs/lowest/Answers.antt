-- `places::lowest` meets its contract: the first place where a call answers yes is the lowest that passes the test.
use mathlib.Core.Path.{sym, ◌∙◌}
use native.Mathlib.Omega.{arith}
use borrow.Author.Count.{below_more}
use Rattle.statement.proofs.Lowest.{lowest_at, lowest_none, none_at}
use Rattle.places.proofs.lowest.Goals as goal

pub returns-then-test : goal.returns-then-test
returns-then-test g c = λ p f.
    let i = c.loop-i.i in
    let found = sym (f i c.loop-i-test.true _ c.test.ensures) ∙ c.if-test.true in
    sym (lowest_at p c.args.m i c.loop-i-test.true found (c.loop-i.invariant p f))

pub loop-i-preserved : goal.loop-i-preserved
loop-i-preserved g c = λ p f.
    let passed = sym (f c.loop-i.i c.loop-i-test.true _ c.test.ensures) ∙ c.if-test.false in
    below_more _ _ (c.loop-i.invariant p f) passed

pub returns : goal.returns
returns g c = λ p f.
    sym (lowest_none p c.args.m (none_at p c.args.m (λ j h. c.loop-i.invariant p f j (omega arith))))
