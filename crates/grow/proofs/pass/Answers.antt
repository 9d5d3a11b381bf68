-- `grow::pass` meets its contract: the rows not yet passed, kept and pushed, complete the pass.
use Rattle.std.proofs.Common.{rules, arith, ◌≡◌}
use Rattle.splits_list.proofs.Laws.{Roomy}
use Rattle.grow.proofs.Laws.{passing_from, passing_room, passing_turn, passing_end}
use Rattle.grow.proofs.pass.Goals as goal

pub loop-i-init : goal.loop-i-init
loop-i-init g c = passing_from _ _ _ _ c.requires.room

pub offer-requires-clause-room : goal.offer-requires-clause-room
offer-requires-clause-room g c =
    let a = c.args in
    let roomy : Roomy a.old.now = record { clusters = search rules; weights = search rules; rows = c.requires.source.3 } in
    passing_room _ _ _ a.list.now _ c.loop-i.i roomy c.loop-i-test.true c.loop-i.invariant

pub loop-i-preserved : goal.loop-i-preserved
loop-i-preserved g c =
    let a = c.args in
    let roomy : Roomy a.old.now = record { clusters = search rules; weights = search rules; rows = c.requires.source.3 } in
    passing_turn _ _ _ a.list.now _ c.loop-i.i roomy c.loop-i-test.true c.loop-i.invariant _ c.offer.ensures

pub returns : goal.returns
returns g c =
    let a = c.args in
    let roomy : Roomy a.old.now = record { clusters = search rules; weights = search rules; rows = c.requires.source.3 } in
    let e : c.loop-i.i ≡ a.old.now.rows = omega (arith, c.loop-i.invariant.low) in
    passing_end _ _ _ a.list.now _ c.loop-i.i roomy e c.loop-i.invariant
