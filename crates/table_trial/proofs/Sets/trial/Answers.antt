-- `table_trial::Sets::trial` meets its contract, by its ways out.
use mathlib.Core.Logic.{⊎_elim}
use Rattle.table_trial.proofs.Trials.{trial_fails, trial_holds, trial_few, trial_alone}
use Rattle.table_trial.proofs.Sets.trial.Goals as goal

pub returns-then-not-rows_hold : goal.returns-then-not-rows_hold
returns-then-not-rows_hold c = λ bytes prepared.
    let a = c.args in
    trial_fails a.x bytes a.x a.c a.w _ _ _ _ prepared c.others-taxa.ensures c.side_of-side.ensures (c.rows_hold.ensures.1 c.if-not-rows_hold.true)

pub returns-then-taxa-lt2 : goal.returns-then-taxa-lt2
returns-then-taxa-lt2 c = λ bytes prepared.
    let a = c.args in
    let few = trial_few a.x bytes a.x a.c a.w _ _ _ _ prepared c.others-taxa.ensures c.side_of-side.ensures in
    let single = trial_alone a.x bytes a.x a.c a.w _ _ _ _ prepared c.others-taxa.ensures c.side_of-side.ensures in
    ⊎_elim few (λ w. single w.1) c.then-taxa-lt2.either

pub returns : goal.returns
returns c = λ bytes prepared.
    let a = c.args in
    trial_holds a.x bytes a.x a.c a.w _ _ _ _ prepared c.others-taxa.ensures c.side_of-side.ensures (c.rows_hold.ensures.0 c.if-not-rows_hold.false)
    c.if-taxa-lt2.false c.if-side-eq0.false c.min.ensures
