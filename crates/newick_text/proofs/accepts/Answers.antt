-- `newick_text::accepts` meets its contract: the root's bracket, its children, the semicolon.
use borrow.Author.Rules.{rules}
use mathlib.Core.Path.{sym, ◌∙◌}
use Rattle.std.proofs.Common.{unwrap_or, ◌<◌}
use native.Mathlib.Omega.{arith}
use Rattle.std.proofs.lemmas.Result.{err_from_is_err_and}
use Rattle.newick_text.specs.Automaton.{start, close as shut}
use Rattle.newick_text.proofs.Laws.{goes, fails, ends, is_byte, not_byte, no_other, another, start_open, start_not, stop_end, stop_not, inside'}
use Rattle.newick_text.proofs.accepts.Goals as goal

pub returns-then-ne-clause-start_value : goal.returns-then-ne-clause-start_value
returns-then-ne-clause-start_value c =
    let b = unwrap_or c.peek.result 256 in
    fails c.args.t.now 0 (start 130) b c.peek.ensures (start_not 130 b (another c.peek.result 40 (search rules) c.if-ne.ensures))

pub returns-in_err-p-clause-start_value : goal.returns-in_err-p-clause-start_value
returns-in_err-p-clause-start_value c =
    let b = unwrap_or c.peek.result 256 in
    let p = err_from_is_err_and c.from_residual.result c.from_residual.ensures.1 in
    rw (p.1, p.2) (goes c.args.t.now 0 (start 130) b c.peek.ensures (start_open 129 b (no_other c.peek.result 40 c.if-ne.ensures)) ∙ c.in_err-p.ensures.by_index 0)

pub returns-then-eq-clause-start_value : goal.returns-then-eq-clause-start_value
returns-then-eq-clause-start_value c =
    let b = unwrap_or c.peek.result 256 in let e = unwrap_or c.peek-2.result 256 in let t = c.args.t.now in let p = c.in_ok-p in
    let z = is_byte c.peek-2.result 59 (sym c.if-eq.ensures) in
    goes t 0 (start 130) b c.peek.ensures (start_open 129 b (no_other c.peek.result 40 c.if-ne.ensures)) ∙ p.ensures.by_index 0
    ∙ ends t p.p (shut 0 130) e c.peek-2.ensures (stop_end 130 e z) (inside' t p.p e c.peek-2.ensures (let h : e < 256 = omega (arith, z) in h))

pub returns-else-eq-clause-start_value : goal.returns-else-eq-clause-start_value
returns-else-eq-clause-start_value c =
    let b = unwrap_or c.peek.result 256 in let e = unwrap_or c.peek-2.result 256 in let t = c.args.t.now in let p = c.in_ok-p in
    goes t 0 (start 130) b c.peek.ensures (start_open 129 b (no_other c.peek.result 40 c.if-ne.ensures)) ∙ p.ensures.by_index 0
    ∙ fails t p.p (shut 0 130) e c.peek-2.ensures (stop_not 130 e (not_byte c.peek-2.result 59 (search rules) (sym c.if-eq.ensures)))
