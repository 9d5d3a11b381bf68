-- `typed::check` meets its contract, one test after the other.
use borrow.Author.Tests.{eqb-true, eqb-false, eq-eqb, both_ways}
use mathlib.Core.Path.{sym, ◌∙◌}
use Rattle.typed.proofs.Texts.{said_strange, said_large, said_few, said_many, said_full, said_half, said_count}
use Rattle.typed.proofs.check.Goals as goal
use Rattle.typed.proofs.check.Goals.{then-n-lt2-via-then-n-lt2, then-n-lt2-via-else-n-lt2+then-n-gt64, then-values-n, else-values-n}

pub returns-then-strange-text : goal.returns-then-strange-text
returns-then-strange-text c = said_strange _ _ c.first_fault-strange.ensures c.if-strange-text.true

pub returns-then-large-text : goal.returns-then-large-text
returns-then-large-text c =
    said_large _ _ c.first_fault-strange.ensures c.if-strange-text.false _ c.first_fault-large.ensures c.if-large-text.true

pub returns-then-n-lt2 : goal.returns-then-n-lt2
returns-then-n-lt2 c =
    let text = c.args.text.now in
    elim c.then-n-lt2.branch [
      | then-n-lt2-via-then-n-lt2 w ↦ said_few text _ c.first_fault-strange.ensures c.if-strange-text.false _ c.first_fault-large.ensures c.if-large-text.false
          _ c.number_of-n.ensures _ c.start_of.ensures w.if-n-lt2.true
      | then-n-lt2-via-else-n-lt2+then-n-gt64 w ↦ said_many text _ c.first_fault-strange.ensures c.if-strange-text.false _ c.first_fault-large.ensures c.if-large-text.false
          _ c.number_of-n.ensures _ c.start_of.ensures w.if-n-gt64.true
    ]

pub returns-then-values-half_of : goal.returns-then-values-half_of
returns-then-values-half_of c =
    let text = c.args.text.now in
    elim c.if-values-n.branch [
      | then-values-n w ↦ said_full text _ c.first_fault-strange.ensures c.if-strange-text.false _ c.first_fault-large.ensures c.if-large-text.false
          _ c.number_of-n.ensures c.if-n-lt2.false c.if-n-gt64.false _ c.found-values.ensures w.if-values-n.true
      | else-values-n w ↦ said_half text _ c.first_fault-strange.ensures c.if-strange-text.false _ c.first_fault-large.ensures c.if-large-text.false
          _ c.number_of-n.ensures c.if-n-lt2.false c.if-n-gt64.false _ c.found-values.ensures
          w.if-values-n.false (eqb-true _ _ (sym w.value-is ∙ c.if-values-half_of.true) ∙ w.half_of.ensures)
    ]

pub returns-else-values-half_of : goal.returns-else-values-half_of
returns-else-values-half_of c =
    let text = c.args.text.now in
    elim c.if-values-n.branch [
      | then-values-n w ↦ absurd (both_ways _ (sym w.value-is ∙ c.if-values-half_of.false) (eq-eqb _ _ w.if-values-n.true))
      | else-values-n w ↦ said_count text _ c.first_fault-strange.ensures c.if-strange-text.false _ c.first_fault-large.ensures c.if-large-text.false
          _ c.number_of-n.ensures c.if-n-lt2.false c.if-n-gt64.false _ c.found-values.ensures
          w.if-values-n.false (λ h. eqb-false _ _ (sym w.value-is ∙ c.if-values-half_of.false) (h ∙ sym w.half_of.ensures)) _ c.start_of-else-values-half_of.ensures
    ]
