-- `matrix_trial::pairs` meets its contract: one taxon more is passed.
use Rattle.std.proofs.Common.{rules, length, length-append, get_or}
use Rattle.std.proofs.lemmas.Slice.Zip.{zip_turn}
use Rattle.matrix.specs.Distances.{distances}
use Rattle.matrix_trial.specs.Separated.{Pairs}
use Rattle.matrix_trial.proofs.Separated.{paired_turn}
use Rattle.matrix_trial.proofs.pairs.Goals as goal

pub loop-y-preserved : goal.loop-y-preserved
loop-y-preserved c =
    let a = c.args in
    let i = length c.loop-y.yielded in
    let (_, _, y, ry) = zip_turn a.taxa.now a.reaches.now c.loop-y.yielded _ _ c.next.new.self _ (search rules) (search rules) c.loop-y.yielded_by
    (c.in-Some.y, c.in-Some.ry) c.in-Some.is c.next.ensures.steps in
    let turn : Pairs (distances a.m.now) a.a (get_or a.taxa.now i 0) a.z (get_or a.reaches.now i 0) a.rz c.pair.result = rw (← y 0, ← ry 0) c.pair.ensures in
    simp length-append (paired_turn _ _ _ _ _ _ i c.loop-y.invariant turn (search rules))
