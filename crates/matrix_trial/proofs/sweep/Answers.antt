-- `matrix_trial::sweep` meets its contract: the weight is the least over the pairs of the taxa passed.
use Prim.Native.Nat.{ℕ}
use native.Mathlib.Omega.{arith}
use lib.ListN.{length-set}
use Rattle.std.proofs.lemmas.List.{length-take}
use Rattle.neighbours.proofs.Reaches.{reach_cap}
use Rattle.neighbours.proofs.Looks.{all_members}
use Rattle.matrix_trial.proofs.Sides.{partners_room}
use Rattle.matrix_trial.proofs.Separated.{partners_within, swept_on, swept_all, swept_zero}
use Rattle.matrix_trial.proofs.sweep.Goals as goal

pub reach-rz-requires : goal.reach-rz-requires
reach-rz-requires c = let s = c.args.seen.now in (omega (arith, s.few, ((all_members _ _ _ _ _ s.all).each c.loop-i.i c.loop-i-test.true).0), c.requires)

pub bounds-reaches-i : goal.bounds-reaches-i
bounds-reaches-i c = let s = c.args.seen.now in omega (arith, (all_members _ _ _ _ _ s.all).few, s.matrix.accepted.few)

pub partners-m-requires : goal.partners-m-requires
partners-m-requires c = let s = c.args.seen.now in omega (arith, (all_members _ _ _ _ _ s.all).few, s.matrix.accepted.few)

pub slice_bounds-reaches-end : goal.slice_bounds-reaches-end
slice_bounds-reaches-end c =
    let s = c.args.seen.now in
    let few = partners_room c.loop-i.i c.partners-m.result (all_members _ _ _ _ _ s.all) s.few s.matrix.accepted.few c.loop-i-test.true c.partners-m.ensures in
    omega (arith, few, c.type_inv.reaches)

pub slice_bounds-pairs-end-in-loop-i : goal.slice_bounds-pairs-end-in-loop-i
slice_bounds-pairs-end-in-loop-i c =
    let s = c.args.seen.now in
    let few = partners_room c.loop-i.i c.partners-m.result (all_members _ _ _ _ _ s.all) s.few s.matrix.accepted.few c.loop-i-test.true c.partners-m.ensures in
    omega (arith, few, c.loop-i.invariant.0, length-take {A = ℕ}, length-set {A = ℕ})

pub pairs-low-requires-clause-within : goal.pairs-low-requires-clause-within
pairs-low-requires-clause-within c =
    let s = c.args.seen.now in
    let few = partners_room c.loop-i.i c.partners-m.result (all_members _ _ _ _ _ s.all) s.few s.matrix.accepted.few c.loop-i-test.true c.partners-m.ensures in (
      omega (arith, s.few, s.within),
      omega (arith, s.few, ((all_members _ _ _ _ _ s.all).each c.loop-i.i c.loop-i-test.true).0),
      reach_cap c.reach-rz.ensures,
      omega (arith, few, c.loop-i.invariant.0, length-take {A = ℕ}, length-set {A = ℕ}),
    )

pub pairs-low-requires-clause-by_index : goal.pairs-low-requires-clause-by_index
pairs-low-requires-clause-by_index c =
    let s = c.args.seen.now in
    let m = s.matrix in
    let i = c.loop-i in
    partners_within m.n m.entries.now m.accepted s.k s.a s.c s.few s.within s.others.now i.reaches i.i c.partners-m.result (all_members _ _ _ _ _ s.all)
    i.invariant.0 c.loop-i-test.true c.partners-m.ensures c.reach-rz.ensures i.invariant.1

pub returns-then-best-eq0 : goal.returns-then-best-eq0
returns-then-best-eq0 c =
    let s = c.args.seen.now in
    let m = s.matrix in
    let i = c.loop-i in
    let next = swept_on m.n m.entries.now m.accepted s.k s.a s.c s.few s.within s.others.now i.reaches i.i c.partners-m.result (all_members _ _ _ _ _ s.all)
    i.invariant.0 c.loop-i-test.true c.partners-m.ensures c.reach-rz.ensures i.invariant.1 i.invariant.2 c.pairs-low.ensures c.lowered_over-best.ensures in
    swept_zero m.n m.entries.now m.accepted s.k s.a s.c s.few s.within s.others.now _ c.args.w (all_members _ _ _ _ _ s.all) next.1 (omega arith) c.if-best-eq0.true

pub loop-i-preserved : goal.loop-i-preserved
loop-i-preserved c =
    let s = c.args.seen.now in
    let m = s.matrix in
    let i = c.loop-i in
    let next = swept_on m.n m.entries.now m.accepted s.k s.a s.c s.few s.within s.others.now i.reaches i.i c.partners-m.result (all_members _ _ _ _ _ s.all)
    i.invariant.0 c.loop-i-test.true c.partners-m.ensures c.reach-rz.ensures i.invariant.1 i.invariant.2 c.pairs-low.ensures c.lowered_over-best.ensures in
    (simp length-set i.invariant.0, next.0, next.1)

pub returns : goal.returns
returns c =
    let s = c.args.seen.now in
    let m = s.matrix in
    swept_all m.n m.entries.now m.accepted s.k s.a s.c s.few s.within s.others.now _ c.args.w (all_members _ _ _ _ _ s.all) c.loop-i.invariant.2 (omega arith)
