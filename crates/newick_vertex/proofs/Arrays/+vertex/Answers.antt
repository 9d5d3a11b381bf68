-- `newick_vertex::Arrays::vertex` meets its contract: its number falls from call to call.
use native.Mathlib.Omega.{arith}
use mathlib.Core.Path.{ap}
use lib.ListN.{length}
use Rattle.newick_digits.proofs.Written.{wrote_then}
use Rattle.newick_vertex.proofs.Bare.{in_front}
use Rattle.newick_vertex.proofs.Stores.{left_rest, left_same, left_turn, left_none}
use Rattle.newick_vertex.proofs.Whole.{own, kids, bare_text, bracket_text, own_room, kid_room, end_room, kids_on, kids_past, kids_end}
use Rattle.newick_vertex.proofs.Arrays.+vertex.Goals as goal
use Rattle.newick_vertex.proofs.Arrays.+vertex.Goals.{then-link-v, else-link-v}

pub put_number-requires : goal.put_number-requires
put_number-requires t c =
    let a = c.args in let i = c.in-Some in
    omega (arith, c.requires.v_bound, ap length (bare_text a.self.now a.v i.i i.ensures.lone i.ensures.below))

pub returns-in-Some : goal.returns-in-Some
returns-in-Some t c =
    let a = c.args in let i = c.in-Some in
    rw (bare_text a.self.now a.v i.i i.ensures.lone i.ensures.below) c.put_number.ensures

pub taxa-requires : goal.taxa-requires
taxa-requires t c = own_room c.args.self.now c.args.v c.in_default.ensures.lone c.args.pen.now c.requires.v_bound

pub loop-c-init : goal.loop-c-init
loop-c-init t c = let a = c.args in left_rest (own a.self.now a.v) (kids a.self.now a.v 0) c.taxa.ensures c.leading-b.ensures

pub put-requires : goal.put-requires
put-requires t c =
    let a = c.args in let l = c.loop-c in
    omega (arith, kid_room a.self.now a.v c.in_default.ensures.lone c.requires.v_bound l.c l.invariant c.loop-c-test.true c.if-link-v.true)

pub vertex-requires : goal.vertex-requires
vertex-requires t c =
    let a = c.args in let l = c.loop-c in
    let low = (in_front a.self.now.links.now a.v l.c c.loop-c-test.true).0 in
    let room = kid_room a.self.now a.v c.in_default.ensures.lone c.requires.v_bound l.c l.invariant c.loop-c-test.true c.if-link-v.true in
    (omega (arith, c.decreases, low), (omega (arith, c.requires.v_le_m, low), omega (arith, room, c.put.ensures.place)))

pub weigh-requires : goal.weigh-requires
weigh-requires t c =
    let a = c.args in let l = c.loop-c in
    let room = kid_room a.self.now a.v c.in_default.ensures.lone c.requires.v_bound l.c l.invariant c.loop-c-test.true c.if-link-v.true in
    omega (arith, room, c.put.ensures.place, c.vertex.ensures.place)

pub loop-c-preserved : goal.loop-c-preserved
loop-c-preserved t c =
    let a = c.args in let u = a.self.now in let l = c.loop-c in
    elim c.if-link-v.branch [
      | then-link-v w ↦
          rw (w.pen-is, w.b-is) (left_turn l.invariant (kids_on u a.v l.c c.loop-c-test.true w.if-link-v.true) (wrote_then w.put.ensures (wrote_then w.vertex.ensures w.weigh.ensures)))
      | else-link-v w ↦ rw (w.pen-is, w.b-is) (left_same (kids_past u a.v l.c c.loop-c-test.true w.if-link-v.false) l.invariant)
    ]

pub put-requires-2 : goal.put-requires-2
put-requires-2 t c =
    let a = c.args in let u = a.self.now in
    end_room u a.v c.in_default.ensures.lone c.requires.v_bound (left_none c.loop-c.invariant (kids_end u a.v c.loop-c.c c.requires.v_le_m c.loop-c-test.false))

pub returns : goal.returns
returns t c =
    let a = c.args in let u = a.self.now in
    let all = left_none c.loop-c.invariant (kids_end u a.v c.loop-c.c c.requires.v_le_m c.loop-c-test.false) in
    rw (bracket_text u a.v c.in_default.ensures.lone) (wrote_then all c.put-2.ensures)
