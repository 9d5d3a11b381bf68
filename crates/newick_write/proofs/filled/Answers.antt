-- The places passed hold what the rule gives.
use native.Mathlib.Omega.{arith}
use mathlib.Core.Path.{◌∙◌}
use lib.ListN.{length-set}
use Rattle.newick_write.proofs.Given.{one_filled}
use Rattle.newick_write.proofs.filled.Goals as goal

pub loop-i-preserved : goal.loop-i-preserved
loop-i-preserved g c =
    let l = c.loop-i in (
      length-set l.numbers l.i c.rule.result ∙ l.invariant.0,
      λ f e. one_filled f l.numbers l.i c.rule.result (omega (arith, l.invariant.0)) (l.invariant.1 f e) (e l.i c.loop-i-test.true c.rule.result c.rule.ensures),
    )

pub returns : goal.returns
returns g c = λ f e j h. c.loop-i.invariant.1 f e j (omega arith)
