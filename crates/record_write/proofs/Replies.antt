-- The writer's reply and what it leaves in the lent slice. Assumes nothing.
use Rattle.std.proofs.Common.{◌≡◌, ℕ, ◌≤◌, cond, not, eqb, List, [], ◌∷◌, length, sym, refl, ap, ◌∙◌}
use Rattle.std.specs.Prelude.{Result, Ok, Err}
use Rattle.statement.specs.declared.Splits.{Splits}
use Rattle.statement.specs.Outcomes.{Reading, Outcome, Done, Short, Refused}
use Rattle.statement.specs.declared.Refusal.{Refusal}
use Rattle.statement.specs.Refusals.{outcome_of, output_off, tree_checks}
use Rattle.statement.specs.Record.{kinds, is_kind, record_length}
use Rattle.statement.specs.Replies.{said, reading_said}
use Rattle.statement.specs.Calls.{unless_refused, refused_reading, read_tree, write_record}
use Rattle.statement.proofs.Refused.{none_left, accepted_exactly, append_checks, never_short}
use Rattle.statement.proofs.Accepted.{taxa_passed}
use Rattle.record_find.proofs.Found.{one_line}
use Rattle.record_write.specs.Parts.{input_checks}

-- the writer's tests, one after the other: the kind, the input's own, the slice
module _ (kind n : ℕ) (body : List ℕ) where
  pub writing_in_order : (out : List ℕ) → write_record kind n body out
      ≡ cond (not (is_kind kinds kind)) (Refused 17 0)
      (unless_refused (outcome_of (input_checks kind n body)) (outcome_of (input_checks kind n body))
      (cond (not (eqb (length out) (record_length (length body)))) (Refused 7 0) Done))
  unfolding write_record
  writing_in_order out =
      one_line 17 (not (is_kind kinds kind)) _
      ∙ ap (cond (not (is_kind kinds kind)) (Refused 17 0))
      (append_checks (input_checks kind n body) (output_off (length out) (record_length (length body)) ∷ [])
      ∙ ap (unless_refused (outcome_of (input_checks kind n body)) (outcome_of (input_checks kind n body)))
      (one_line 7 (not (eqb (length out) (record_length (length body)))) [] ∙ rw none_left))

  pub few : Done ≡ outcome_of (input_checks kind n body) → n ≤ 64
  few e = ((taxa_passed n).0 ((accepted_exactly (input_checks kind n body)).0 (sym e)).0).1

-- what reading a tree says is what its checks say
module _ (n : ℕ) (body : List ℕ) where
  outcome_read : (read_tree n body).outcome ≡ outcome_of (tree_checks n body)
  unfolding read_tree
  outcome_read = go (outcome_of (tree_checks n body)) (never_short (tree_checks n body)) _
    where
      go : (o : Outcome) → (o ≡ Short → ⊥) → (list : Splits) → (unless_refused {A = Reading} o (refused_reading o) (record { outcome = Done; list = list })).outcome ≡ o
      go Done h list = refl
      go Short h list = absurd (h refl)
      go (Refused number place) h list = refl

  pub read_said : (r : Result Splits Refusal) → reading_said r ≡ read_tree n body → said r ≡ outcome_of (tree_checks n body)
  read_said r e = go r ∙ ap (λ (t : Reading). t.outcome) e ∙ outcome_read
    where
      go : (r : Result Splits Refusal) → said r ≡ (reading_said r).outcome
      go (Ok list) = refl
      go (Err refusal) = refl
