-- `grow::add_taxon` meets its contract, in three steps (AddTaxon).
use Rattle.std.proofs.Common.{rules, arith}
use Rattle.splits_list.proofs.Laws.{Roomy}
use Rattle.grow.proofs.AddTaxon.{cluster_fits, first_room, first_is, second_room, second_is, third_room, third_is}
use Rattle.grow.proofs.add_taxon.Goals as goal

pub pass-requires-clause-by_index : goal.pass-requires-clause-by_index
pass-requires-clause-by_index g c =
    let s = c.args.s.now in
    let n = g.met.S.Source.grows c.args.source.now in
    let roomy : Roomy s = record { clusters = search rules; weights = search rules; rows = c.requires.rows.0 } in
    cluster_fits _ s roomy n.few c.requires.source.1 c.requires.rows.1 0 (omega arith)

pub pass-requires-clause-room : goal.pass-requires-clause-room
pass-requires-clause-room g c =
    let m = g.S.Source.manner c.args.source.now in
    first_room m.trial m.most c.args.s.now c.requires.room _ c.empty-list.ensures

pub offer-requires-clause-room : goal.offer-requires-clause-room
offer-requires-clause-room g c =
    let m = g.S.Source.manner c.args.source.now in
    let s = c.args.s.now in
    let first = first_is m.trial m.most s c.requires.room _ c.empty-list.ensures _ c.pass.ensures in
    second_room m.trial m.most s c.requires.room _ first _ _ c.single.ensures c.most.ensures

pub pass-requires-2-clause-by_index : goal.pass-requires-2-clause-by_index
pass-requires-2-clause-by_index g c =
    let s = c.args.s.now in
    let n = g.met.S.Source.grows c.args.source.now in
    let roomy : Roomy s = record { clusters = search rules; weights = search rules; rows = c.requires.rows.0 } in
    cluster_fits _ s roomy n.few c.requires.source.1 c.requires.rows.1 _ (omega (arith, c.single-2.ensures))

pub pass-requires-2-clause-room : goal.pass-requires-2-clause-room
pass-requires-2-clause-room g c =
    let m = g.S.Source.manner c.args.source.now in
    let s = c.args.s.now in
    let first = first_is m.trial m.most s c.requires.room _ c.empty-list.ensures _ c.pass.ensures in
    let second = second_is m.trial m.most s c.requires.room _ first _ _ c.single.ensures c.most.ensures _ c.offer.ensures in
    third_room m.trial m.most s c.requires.room _ second _ c.single-2.ensures

pub returns : goal.returns
returns g c =
    let m = g.S.Source.manner c.args.source.now in
    let s = c.args.s.now in
    let first = first_is m.trial m.most s c.requires.room _ c.empty-list.ensures _ c.pass.ensures in
    let second = second_is m.trial m.most s c.requires.room _ first _ _ c.single.ensures c.most.ensures _ c.offer.ensures in
    third_is m.trial m.most s c.requires.room _ second _ c.single-2.ensures _ c.pass-2.ensures
