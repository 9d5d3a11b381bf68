-- `lone_weights::newcomer` meets its contract: each z passed, with the taxa below it.
use native.Mathlib.Omega.{arith}
use mathlib.Core.Path.{◌≡◌}
use Rattle.lone_weights.proofs.Lowering.{lowered_most, begun_turn, lone_newcomer}
use Rattle.lone_weights.proofs.newcomer.Goals as goal

pub loop-z-preserved : goal.loop-z-preserved
loop-z-preserved c =
    let l = c.loop-z in
    (omega (arith, l.invariant.0, lowered_most c.lower-best.ensures), begun_turn _ _ l.z l.invariant.1 c.lower-best.ensures)

pub returns : goal.returns
returns c =
    let l = c.loop-z in
    let m = c.args.m.now in
    let e : l.z ≡ c.args.j = omega arith in
    lone_newcomer m.n m.entries.now m.accepted c.args.j c.requires (rw e at l.invariant.1)
