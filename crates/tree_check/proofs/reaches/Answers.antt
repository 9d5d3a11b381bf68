-- The places of the walk before this step are not the root.
use native.Mathlib.Omega.{arith}
use Prim.Native.Nat.{suc}
use mathlib.Core.Path.{refl, sym, ◌∙◌}
use lib.Dec.{eqb}
use lib.ListN.{length}
use borrow.Author.Count.{below_none, below_more}
use borrow.Author.Tests.{eq-eqb, ne_eqb}
use Rattle.statement.specs.Tree.{walk}
use Rattle.statement.proofs.Lowest.{some_at, none_at}
use Rattle.tree_check.specs.Parts.{linked}
use Rattle.tree_check.proofs.Walked.{walk_next}
use Rattle.tree_check.proofs.reaches.Goals as goal

pub loop-init : goal.loop-init
unfolding walk
loop-init c = (refl, below_none _)

pub returns-then-at-m : goal.returns-then-at-m
returns-then-at-m c =
    let a = c.args in
    let links = a.links.now in
    sym (some_at (λ s. eqb (walk (linked links) s a.v) (length links)) (suc (length links)) c.loop.counter (omega arith)
    (eq-eqb _ _ (sym c.loop.invariant.0 ∙ c.if-at-m.true)))

pub loop-preserved : goal.loop-preserved
loop-preserved c =
    let a = c.args in
    let at = c.loop.invariant.0 in (
      walk_next (linked a.links.now) c.loop.counter a.v c.loop.at _ at c.step_up-at.ensures,
      below_more _ _ c.loop.invariant.1 (ne_eqb _ _ (λ e. c.if-at-m.false (at ∙ e))),
    )

pub returns-else-at-m : goal.returns-else-at-m
returns-else-at-m c =
    let a = c.args in
    let links = a.links.now in
    let passed = below_more _ _ c.loop.invariant.1 (ne_eqb _ _ (λ e. c.if-at-m.false (c.loop.invariant.0 ∙ e))) in
    sym (none_at (λ s. eqb (walk (linked links) s a.v) (length links)) (suc (length links)) (λ j h. passed j (omega arith)))
