-- The clusters of the first i taxa.
use native.Mathlib.Omega.{arith}
use mathlib.Core.Path.{◌≡◌, refl, sym, ◌∙◌, ap}
use lib.ListN.{length, get_or-replicate}
use lib.Pow.{pow_mono}
use Rattle.statement.specs.Tree.{cluster_of}
use Rattle.tree_check.specs.Parts.{placed}
use Rattle.tree_read.proofs.Marking.{cluster_none, cluster_below, cluster_more}
use Rattle.tree_read.proofs.clusters_of.Goals as goal

pub loop-i-init : goal.loop-i-init
loop-i-init c =
    let a = c.args in
    (refl, λ v h. get_or-replicate 125 v 0 0 (omega arith) ∙ sym (cluster_none (placed a.links.now a.homes.now) v))

pub mark-requires : goal.mark-requires
mark-requires c =
    let a = c.args in
    let t = placed a.links.now a.homes.now in
    let one = c.single.ensures in record {
      links_len_bound = (omega arith, omega (arith, pow_mono {i = c.loop-i.i} {j = 63} (omega arith)));
      by_index = λ v h. omega (arith, c.loop-i.invariant.1 v h, cluster_below t v c.loop-i.i);
    }

pub loop-i-preserved : goal.loop-i-preserved
loop-i-preserved c =
    let a = c.args in
    let marked = c.mark.ensures in (
      marked.long,
      λ v h.
          cluster_more a.links.now a.homes.now v c.loop-i.i _ _ _ _ (c.loop-i.invariant.1 v h) c.from.ensures
          c.single.ensures (marked.each v h),
    )

pub returns : goal.returns
returns c =
    let a = c.args in
    let e : c.loop-i.i ≡ length a.homes.now = omega arith in
    record { long = c.loop-i.invariant.0; each = λ v h. c.loop-i.invariant.1 v h ∙ ap (cluster_of (placed a.links.now a.homes.now) v) e }
