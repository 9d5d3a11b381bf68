-- `parents::pass_below` meets its contract: the rows passed are pushed.
use Rattle.std.proofs.Common.{rules}
use Rattle.splits_list.proofs.Laws.{Roomy}
use Rattle.parents.proofs.Laws.{passed_none, passed_room, passed_turn}
use Rattle.parents.proofs.pass_below.Goals as goal

pub loop-at-init : goal.loop-at-init
loop-at-init c = passed_none _ _ _ _ c.requires.1

pub push-requires : goal.push-requires
push-requires c =
    let roomy : Roomy c.args.old.now = record { clusters = search rules; weights = search rules; rows = c.requires.0 } in
    passed_room _ _ _ _ _ _ roomy c.loop-at.invariant c.loop-at-test.true c.requires.2

pub loop-at-preserved : goal.loop-at-preserved
loop-at-preserved c =
    let roomy : Roomy c.args.old.now = record { clusters = search rules; weights = search rules; rows = c.requires.0 } in
    rw c.push.ensures (passed_turn _ _ _ _ _ _ roomy c.loop-at.invariant c.loop-at-test.true c.if-old-at.true)
