-- `pulls` meets its contract: one pull more is stored.
use native.Mathlib.Omega.{arith}
use Prim.Native.Nat.{◌<◌}
use lib.ListN.{length, length-set}
use Rattle.neighbours.proofs.Reaches.{pulls_turn}
use Rattle.neighbours.proofs.pulls.Goals as goal

pub loop-x-preserved : goal.loop-x-preserved
loop-x-preserved c =
    let i = c.loop-x in
    let room : i.x < length i.all = omega (arith, c.args.m.now.accepted.few) in
    (simp length-set i.invariant.0, pulls_turn _ _ _ _ i.x c.pull.result i.all i.invariant.1 room c.pull.ensures)
