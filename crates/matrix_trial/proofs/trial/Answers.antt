-- `matrix_trial::trial` meets its contract: a taxon that is alone has its kept weight, and else the fours of a are looked at.
use Prim.Native.Nat.{min}
use native.Mathlib.Omega.{arith}
use mathlib.Core.Path.{◌≡◌, ◌∙◌}
use lib.ListN.{get_or}
use Rattle.std.proofs.Common.{rules}
use Rattle.statement.proofs.Single.{pow_single}
use Rattle.lone_weights.proofs.Trials.{lone_trial}
use Rattle.matrix_trial.proofs.Sides.{trial_one, trial_pairs}
use Rattle.matrix_trial.proofs.trial.Goals as goal
use Rattle.matrix_trial.proofs.trial.Goals.{else-k-gt2-via-then-k-gt2+else-others-eq1, else-k-gt2-via-else-k-gt2}

pub returns-in-Some : goal.returns-in-Some
returns-in-Some c =
    let a = c.args in
    let m = a.m.now in
    let (lv, three, is) = c.in-Some.ensures in
    let least : c.min.result ≡ min (get_or a.lone.now c.in-Some.v 0) a.w = search rules in
    least
    ∙ lone_trial m.n m.entries.now m.accepted a.k a.a a.c a.w c.in-Some.v _ c.requires.0 three lv (pow_single a.k a.c _ is) (c.requires.3 _ lv)

pub returns-then-others-eq1 : goal.returns-then-others-eq1
returns-then-others-eq1 c =
    let a = c.args in
    let m = a.m.now in
    trial_one m.n m.entries.now m.accepted a.k a.a a.c a.w c.requires.0 c.requires.1 _ _ c.others-others.ensures a.lone.now c.if-k-gt2.true c.if-others-eq1.true
    c.requires.3 (search rules)

pub returns : goal.returns
returns c =
    let a = c.args in
    let m = a.m.now in
    trial_pairs m.n m.entries.now m.accepted a.k a.a a.c a.w c.requires.0 c.requires.1 _ _ c.others-others.ensures
    (λ l one. elim c.else-k-gt2.branch [
      | else-k-gt2-via-then-k-gt2+else-others-eq1 w ↦ w.if-others-eq1.false one
      | else-k-gt2-via-else-k-gt2 w ↦ absurd (omega arith)
    ]) c.listed_trial.ensures
