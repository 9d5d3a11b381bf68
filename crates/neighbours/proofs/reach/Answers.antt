-- `reach` meets its contract: one x more is passed.
use Rattle.std.proofs.Common.{rules, arith, ℕ, ◌≤◌, ◌<◌, ◌≡◌, ◌∙◌, sym, subst, length, take, length-append}
use Rattle.std.proofs.lemmas.List.{length-take-le, get_or-take}
use Rattle.std.proofs.lemmas.Slice.Zip.{zip_turn}
use Rattle.matrix.specs.Distances.{distances}
use Rattle.neighbours.specs.Reach.{Pull}
use Rattle.neighbours.proofs.Reaches.{reach_turn}
use Rattle.neighbours.proofs.reach.Goals as goal

pub loop-xz-preserved : goal.loop-xz-preserved
loop-xz-preserved c =
    let s = c.args in
    let m = s.m.now in
    let row = c.row.result.now in
    let i = length c.loop-xz.yielded in
    let (lx, _, xz, p) = zip_turn (take s.k row) c.args.pull.now c.loop-xz.yielded _ _ c.next.new.self _ (search rules) (search rules) c.loop-xz.yielded_by
    (c.in-Some.xz, c.in-Some.p) c.in-Some.is c.next.ensures.steps in
    let few : s.k ≤ length row = omega (arith, c.requires.0, c.row.ensures.long) in
    let l : i < s.k = omega (arith, lx, length-take-le s.k row few) in
    let pull : Pull (distances m) s.k s.a s.c i c.in-Some.p.now = subst (λ (v : ℕ). Pull (distances m) s.k s.a s.c i v) (sym (p 0)) (c.requires.2 i l) in
    let at : c.in-Some.xz.now ≡ distances m i c.args.z =
    xz 0 ∙ get_or-take s.k row i 0 l ∙ (c.row.ensures.each i (omega (arith, c.requires.0))).0 ∙ m.accepted.same c.args.z i c.requires.1 (omega (arith, c.requires.0)) in
    simp length-append (reach_turn _ _ _ _ _ i c.loop-xz.invariant pull at (search rules))
