-- `grow::grow_taxa` meets its contract: what remains completes the growth (Going).
use Rattle.std.proofs.Common.{arith, ℕ, ◌+◌, ◌-◌, ◌<◌, sym, ◌∙◌, subst}
use Rattle.grow.proofs.Sources.{cost_is, list_room, list_larger}
use Rattle.grow.proofs.Going.{Going, going_from, going_done, going_short, going_turn, more_taxa}
use Rattle.grow.proofs.grow_taxa.Goals as goal

pub loop-t-init : goal.loop-t-init
loop-t-init g c = (going_from _ _ _ _ c.requires, c.start-ready.ensures _)

pub returns-then-left-cost : goal.returns-then-left-cost
returns-then-left-cost g c =
    let m = g.S.Source.manner c.args.source.now in
    let going = c.loop-t.invariant.0 in
    let more : c.loop-t.t.taxa < g.S.Source.taxa c.args.source.now = omega (arith, c.taxa-n.ensures) in
    let costs = cost_is _ m (g.met.S.Source.grows c.args.source.now) c.loop-t.t more going.well _ c.parents-p.ensures in
    going_short m _ _ _ _ _ _ going more (omega (arith, costs))

pub add_taxon-t-requires-clause-room : goal.add_taxon-t-requires-clause-room
add_taxon-t-requires-clause-room g c =
    let m = g.S.Source.manner c.args.source.now in
    let more : c.loop-t.t.taxa < g.S.Source.taxa c.args.source.now = omega (arith, c.taxa-n.ensures) in
    list_room _ m (g.met.S.Source.grows c.args.source.now) c.loop-t.t more c.loop-t.invariant.0.well _ c.parents-p.ensures

-- one taxon more
pub loop-t-smaller : goal.loop-t-smaller
loop-t-smaller g c =
    let m = g.S.Source.manner c.args.source.now in
    let going = c.loop-t.invariant.0 in
    let more : c.loop-t.t.taxa < g.S.Source.taxa c.args.source.now = omega (arith, c.taxa-n.ensures) in
    let larger = list_larger _ m (g.met.S.Source.grows c.args.source.now) c.loop-t.t more going.well _ c.parents-p.ensures in
    omega (arith, more_taxa m _ _ _ _ _ _ going more _ (c.add_taxon-t.ensures ∙ larger))

pub loop-t-preserved : goal.loop-t-preserved
loop-t-preserved g c =
    let m = g.S.Source.manner c.args.source.now in
    let n = g.S.Source.taxa c.args.source.now in
    let grows = g.met.S.Source.grows c.args.source.now in
    let l = c.loop-t in
    let going = l.invariant.0 in
    let more : l.t.taxa < n = omega (arith, c.taxa-n.ensures) in
    let costs = cost_is n m grows l.t more going.well _ c.parents-p.ensures in
    let larger = c.add_taxon-t.ensures ∙ list_larger n m grows l.t more going.well _ c.parents-p.ensures in
    let taxa = more_taxa m n _ _ _ _ _ going more _ larger in (
      subst (λ (spends : ℕ). Going m n c.args.allowance c.args.s c.add_taxon-t.result (l.left - spends) (l.spent + spends)) (sym costs)
          (going_turn m n _ _ _ _ _ going more _ larger (omega (arith, costs)) (grows.more l.t more going.well)),
      subst (λ (k : ℕ). g.S.Source.IsEarly c.args.source.now k c.prepare.new.ready) (omega (arith, taxa, c.parents-p.ensures.taxa)) c.prepare.ensures.1,
    )

pub returns : goal.returns
returns g c =
    let m = g.S.Source.manner c.args.source.now in
    going_done m _ _ _ _ _ _ c.loop-t.invariant.0 (omega (arith, c.taxa-n.ensures))
