-- `bits::members` meets its contract: one taxon more is passed.
use native.Mathlib.Omega.{arith}
use Prim.Native.Nat.{◌<◌}
use lib.ListN.{length}
use Rattle.bits.proofs.Sides.{members_turn}
use Rattle.bits.proofs.members.Goals as goal

pub loop-y-preserved : goal.loop-y-preserved
loop-y-preserved c =
    let i = c.loop-y in
    let room : i.count < length i.taxa = omega (arith, i.invariant.few) in
    members_turn c.args.a c.args.c i.y i.taxa i.count i.invariant room c.same_side.result c.same_side.ensures c.from-count.ensures
