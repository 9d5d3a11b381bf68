-- `table_trial::Sets::mark` meets its contract: each byte has its set.
use Rattle.std.proofs.Common.{arith, ℕ, ◌+◌, sym, ◌∙◌, ap}
use Rattle.table_trial.specs.Sets.{put}
use Rattle.table.proofs.Choose.{pair_below}
use Rattle.table_trial.proofs.Marks.{marked_one, marked_two, marked_three, marked_none}
use Rattle.table_trial.proofs.Sets.mark.Goals as goal

pub put-requires : goal.put-requires
put-requires c = let a = c.args in (omega (arith, c.requires.3, pair_below a.i a.j c.requires.0 (omega arith)), omega arith)

pub overflow_add-below : goal.overflow_add-below
overflow_add-below c = let a = c.args in omega (arith, c.requires.3, pair_below a.i a.j c.requires.0 (omega arith))

pub returns-in-1 : goal.returns-in-1
returns-in-1 c =
    let a = c.args in
    c.put.ensures ∙ ap (λ (m : ℕ). put a.self.now.pairs (m + a.i) a.l) c.requires.3 ∙ sym (marked_one a.i a.j a.l a.self.now.pairs a.byte c.in-1.is)

pub put-requires-in-2 : goal.put-requires-in-2
put-requires-in-2 c = let a = c.args in (omega (arith, c.requires.4, pair_below a.i a.l (omega arith) c.requires.2), omega arith)

pub overflow_add-above : goal.overflow_add-above
overflow_add-above c = let a = c.args in omega (arith, c.requires.4, pair_below a.i a.l (omega arith) c.requires.2)

pub returns-in-2 : goal.returns-in-2
returns-in-2 c =
    let a = c.args in
    c.put-in-2.ensures ∙ ap (λ (m : ℕ). put a.self.now.pairs (m + a.i) a.j) c.requires.4 ∙ sym (marked_two a.i a.j a.l a.self.now.pairs a.byte c.in-2.is)

pub put-requires-in-3 : goal.put-requires-in-3
put-requires-in-3 c = let a = c.args in (omega (arith, c.requires.4, pair_below a.j a.l c.requires.1 c.requires.2), omega arith)

pub overflow_add-above-in-3 : goal.overflow_add-above-in-3
overflow_add-above-in-3 c = let a = c.args in omega (arith, c.requires.4, pair_below a.j a.l c.requires.1 c.requires.2)

pub returns-in-3 : goal.returns-in-3
returns-in-3 c =
    let a = c.args in
    c.put-in-3.ensures ∙ ap (λ (m : ℕ). put a.self.now.pairs (m + a.j) a.i) c.requires.4 ∙ sym (marked_three a.i a.j a.l a.self.now.pairs a.byte c.in-3.is)

pub returns-in_default : goal.returns-in_default
returns-in_default c = sym (marked_none _ _ _ _ _ (λ e. absurd (omega arith)) (λ e. absurd (omega arith)) (λ e. absurd (omega arith)))
