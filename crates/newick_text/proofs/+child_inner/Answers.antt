-- `newick_text::child` and `inner` meet their contracts, each by the other with fewer brackets left or further on in the text.
use Rattle.std.proofs.Common.{unwrap_or}
use borrow.Author.Rules.{rules}
use Prim.Native.Nat.{ℕ, suc, ◌<◌}
use mathlib.Core.Path.{◌≡◌, ap, ◌∙◌}
use native.Mathlib.Omega.{arith}
use lib.ListN.{length, drop, get_or}
use Rattle.std.proofs.lemmas.Result.{err_from_is_err_and}
use Rattle.newick_text.specs.Automaton.{taxon, weight, want, over, close as shut, run}
use Rattle.newick_text.proofs.Laws.{goes, fails, no_other, another, want_first, want_full, want_deeper, suc_pred, colon_over, colon_close, sep_close, sep_comma, sep_none, inside'}
use Rattle.newick_text.proofs.+child_inner.Goals as goal

pub child-returns-then-ne-clause-by_index : goal.child-returns-then-ne-clause-by_index
child-returns-then-ne-clause-by_index t c d =
    let a = c.args in
    c.in_ok-p.ensures.q_value (want taxon (suc d) a.left) taxon (suc d) a.left (want_first (suc d) a.left (get_or a.t.now a.at 256) (λ e. another c.peek.result 40 (search rules) c.if-ne.ensures (c.peek.ensures ∙ e)))
    ∙ c.tail.ensures.k_value (over taxon (suc d) a.left) (suc d) a.left (colon_over (suc d) a.left)

pub child-returns-then-left-eq0-clause-by_index : goal.child-returns-then-left-eq0-clause-by_index
child-returns-then-left-eq0-clause-by_index t c d =
    let a = c.args in let b = unwrap_or c.peek.result 256 in
    fails a.t.now a.at (want taxon (suc d) a.left) b c.peek.ensures (want_full (suc d) a.left b (no_other c.peek.result 40 c.if-ne.ensures) c.if-left-eq0.true)

pub child-returns-in_err-p-2-clause-by_index : goal.child-returns-in_err-p-2-clause-by_index
child-returns-in_err-p-2-clause-by_index t c d =
    let a = c.args in let b = unwrap_or c.peek.result 256 in
    let p = err_from_is_err_and c.from_residual-in_err-p-2.result c.from_residual-in_err-p-2.ensures.1 in
    rw (p.1, p.2) (goes a.t.now a.at (want taxon (suc d) a.left) b c.peek.ensures (want_deeper (suc d) a.left b (no_other c.peek.result 40 c.if-ne.ensures) c.if-left-eq0.false)
    ∙ c.in_err-p-2.ensures.by_index (suc d))

pub child-returns-clause-by_index : goal.child-returns-clause-by_index
child-returns-clause-by_index t c d =
    let a = c.args in let b = unwrap_or c.peek.result 256 in let z = c.if-left-eq0.false in
    goes a.t.now a.at (want taxon (suc d) a.left) b c.peek.ensures (want_deeper (suc d) a.left b (no_other c.peek.result 40 c.if-ne.ensures) z)
    ∙ c.in_ok-p-2.ensures.by_index (suc d) ∙ ap (λ (m : ℕ). run (drop c.in_ok-p-2.p a.t.now) (shut (suc d) m)) (suc_pred a.left z)
    ∙ c.tail-2.ensures.k_value (shut (suc d) a.left) (suc d) a.left (colon_close d a.left)

pub inner-returns-in-Some-eq41-clause-by_index : goal.inner-returns-in-Some-eq41-clause-by_index
inner-returns-in-Some-eq41-clause-by_index t c d =
    let a = c.args in let b = unwrap_or c.peek.result 256 in let k : b ≡ c.in-Some-eq41.field-0 = cc in
    c.loop-p.invariant.0 d ∙ c.in_ok-p.ensures.by_index d
    ∙ goes a.t.now c.in_ok-p.p (over weight (suc d) a.left) b c.peek.ensures (sep_close d a.left b (omega arith))

pub inner-returns-in_default-clause-by_index : goal.inner-returns-in_default-clause-by_index
inner-returns-in_default-clause-by_index t c d =
    let a = c.args in let b = unwrap_or c.peek.result 256 in let k : b ≡ c.in_default.field-0 = cc in
    c.loop-p.invariant.0 d ∙ c.in_ok-p.ensures.by_index d
    ∙ fails a.t.now c.in_ok-p.p (over weight (suc d) a.left) b c.peek.ensures (sep_none (suc d) a.left b (λ e. omega arith) (λ e. omega arith))

pub inner-returns-in_default-2-clause-by_index : goal.inner-returns-in_default-2-clause-by_index
inner-returns-in_default-2-clause-by_index t c d =
    let a = c.args in let b = unwrap_or c.peek.result 256 in let k : b ≡ 256 = cc in
    c.loop-p.invariant.0 d ∙ c.in_ok-p.ensures.by_index d
    ∙ fails a.t.now c.in_ok-p.p (over weight (suc d) a.left) b c.peek.ensures (sep_none (suc d) a.left b (λ e. omega arith) (λ e. omega arith))

pub inner-loop-p-preserved : goal.inner-loop-p-preserved
inner-loop-p-preserved t c =
    let a = c.args in let k = c.in_ok-p in let b = unwrap_or c.peek.result 256 in let e : b ≡ c.in-Some-eq44.field-0 = cc in
    let h : k.p < length a.t.now = inside' a.t.now k.p b c.peek.ensures (omega arith) in (
      (λ d. c.loop-p.invariant.0 d ∙ k.ensures.by_index d ∙ goes a.t.now k.p (over weight (suc d) a.left) b c.peek.ensures (sep_comma (suc d) a.left b (omega arith))),
      (omega (arith, k.ensures.onward.on), λ x. omega arith),
    )
