-- `newick_text::digits` meets its contract: each digit passed leaves the automaton where it was.
use Rattle.std.proofs.Common.{◌≡◌, ◌<◌, unwrap_or, length}
use mathlib.Core.Path.{◌∙◌}
use native.Mathlib.Omega.{arith}
use Rattle.newick_text.specs.Automaton.{some, over}
use Rattle.newick_text.proofs.Laws.{goes, joins, some_over, some_some, inside', digit_yes, digit_low, digit_high}
use Rattle.newick_text.proofs.digits.Goals as goal

pub loop-i-preserved : goal.loop-i-preserved
loop-i-preserved c =
    let b = unwrap_or c.peek.result 256 in let k : b ≡ c.in-Some-48-to-57.field-0 = cc in
    let l = c.loop-i in let t = c.args.t.now in
    let h : l.i < length t = inside' t l.i b c.peek.ensures (omega arith) in
    ((λ u d n. l.invariant.0 u d n ∙ goes t l.i (some u d n) b c.peek.ensures (some_some u d n b (digit_yes b (omega arith) (omega arith)))), (omega arith, λ k. omega arith))

pub returns-in_default-clause-l_value : goal.returns-in_default-clause-l_value
returns-in_default-clause-l_value c u d n =
    let b = unwrap_or c.peek.result 256 in let k : b ≡ c.in_default.field-0 = cc in
    c.loop-i.invariant.0 u d n ∙ joins c.args.t.now c.loop-i.i (some u d n) b c.peek.ensures (over u d n) (some_over u d n b (digit_low b (omega arith)))

pub returns-in_default-2-clause-l_value : goal.returns-in_default-2-clause-l_value
returns-in_default-2-clause-l_value c u d n =
    let b = unwrap_or c.peek.result 256 in let k : b ≡ c.in_default.field-0 = cc in
    c.loop-i.invariant.0 u d n ∙ joins c.args.t.now c.loop-i.i (some u d n) b c.peek.ensures (over u d n) (some_over u d n b (digit_high b (omega arith)))

pub returns-in_default-3-clause-l_value : goal.returns-in_default-3-clause-l_value
returns-in_default-3-clause-l_value c u d n =
    let b = unwrap_or c.peek.result 256 in let k : b ≡ 256 = cc in
    c.loop-i.invariant.0 u d n ∙ joins c.args.t.now c.loop-i.i (some u d n) b c.peek.ensures (over u d n) (some_over u d n b (digit_high b (omega arith)))
