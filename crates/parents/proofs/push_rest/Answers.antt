-- `parents::push_rest` meets its contract: the rows not yet pushed complete it.
use Rattle.std.proofs.Common.{rules}
use Rattle.splits_list.proofs.Laws.{Roomy}
use Rattle.parents.proofs.Laws.{copying_from, copying_room, copying_turn, copying_end}
use Rattle.parents.proofs.push_rest.Goals as goal

pub loop-i-init : goal.loop-i-init
loop-i-init c = copying_from _ _ _ c.requires.1 c.requires.2

pub push-requires : goal.push-requires
push-requires c =
    let roomy : Roomy c.args.old.now = record { clusters = search rules; weights = search rules; rows = c.requires.0 } in
    copying_room _ _ _ _ _ roomy c.loop-i.invariant c.loop-i-test.true

pub loop-i-preserved : goal.loop-i-preserved
loop-i-preserved c =
    let roomy : Roomy c.args.old.now = record { clusters = search rules; weights = search rules; rows = c.requires.0 } in
    rw c.push.ensures (copying_turn _ _ _ _ _ roomy c.loop-i.invariant c.loop-i-test.true)

pub returns : goal.returns
returns c =
    let roomy : Roomy c.args.old.now = record { clusters = search rules; weights = search rules; rows = c.requires.0 } in
    copying_end _ _ _ _ _ roomy c.loop-i.invariant c.loop-i-test.false
