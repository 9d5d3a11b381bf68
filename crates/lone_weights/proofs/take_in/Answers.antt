-- `lone_weights::take_in` meets its contract: the weights passed are those with the taxon j.
use Prim.Native.Nat.{◌<◌}
use native.Mathlib.Omega.{arith}
use native.Mathlib.Nat.{le_refl}
use lib.ListN.{length, length-set}
use Rattle.bits.proofs.Stored.{stored}
use Rattle.lone_weights.specs.Lone.{Lone}
use Rattle.lone_weights.proofs.Lowering.{lone_most, lone_earlier, taking_from, taking_turn}
use Rattle.lone_weights.proofs.take_in.Goals as goal

pub loop-v-init : goal.loop-v-init
loop-v-init c = taking_from _ _ _ c.requires.1

pub lower-requires : goal.lower-requires
lower-requires c =
    (omega arith, c.requires.0, omega arith, lone_most (c.loop-v.invariant.left c.loop-v.v (le_refl c.loop-v.v) c.loop-v-test.true))

pub loop-v-preserved : goal.loop-v-preserved
loop-v-preserved c =
    let i = c.loop-v in
    let m = c.args.m.now in
    let t = c.loop-v-test.true in
    let room : i.v < length i.lone = omega (arith, m.accepted.few) in
    taking_turn _ c.args.j i.lone i.v c.lower.result room i.invariant
    (lone_earlier m.n m.entries.now m.accepted c.args.j c.requires.0 i.v t (i.invariant.left i.v (le_refl i.v) t) c.lower.ensures)

pub returns : goal.returns
returns c =
    let i = c.loop-v in
    let room : c.args.j < length i.lone = omega (arith, c.args.m.now.accepted.few) in
    (simp length-set (omega arith), stored (Lone _ _) i.lone c.args.j c.newcomer.result room c.newcomer.ensures (λ u lu. i.invariant.done u (omega arith)))
