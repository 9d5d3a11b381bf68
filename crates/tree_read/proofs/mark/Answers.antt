-- The edges among the places of the walk before this step are marked.
use Rattle.std.proofs.Common.{rules, suc, ◌≡◌, refl, cond, ◌&&◌, ltb, ◌+◌, length, get_or, set}
use native.Mathlib.Omega.{arith}
use Rattle.std.proofs.lemmas.Grind.{common_steps}
use Rattle.statement.specs.Tree.{walk}
use Rattle.tree_check.specs.Parts.{linked}
use Rattle.tree_check.proofs.Walked.{walk_next}
use Rattle.tree_read.proofs.Marking.{mark_none, mark_on}
use Rattle.tree_read.proofs.mark.Goals as goal

pub loop-init : goal.loop-init
unfolding walk
loop-init c = (refl, mark_none _ _ _ _ (search rules))

pub loop-preserved : goal.loop-preserved
loop-preserved c =
    let l = c.loop in
    let a = c.args in
    let stored : c.if-at-m.clusters ≡ cond (ltb l.at (length a.links.now) && ltb (get_or l.clusters l.at 0) a.group) (set l.clusters l.at (get_or l.clusters l.at 0 + a.group)) l.clusters = grind (arith, common_steps) in (
      walk_next (linked a.links.now) l.counter a.home l.at _ l.invariant.0 c.step_up-at.ensures,
      mark_on l.invariant.0 l.invariant.1 c.requires.links_len_bound.0 c.requires.by_index _ stored,
    )

pub returns-after-at-m : goal.returns-after-at-m
returns-after-at-m c =
    let l = c.loop in
    let a = c.args in
    let stored : c.if-at-m.clusters ≡ cond (ltb l.at (length a.links.now) && ltb (get_or l.clusters l.at 0) a.group) (set l.clusters l.at (get_or l.clusters l.at 0 + a.group)) l.clusters = grind (arith, common_steps) in
    let last : l.counter + 1 ≡ suc (length a.links.now) = omega arith in
    rw last at (mark_on l.invariant.0 l.invariant.1 c.requires.links_len_bound.0 c.requires.by_index _ stored)
