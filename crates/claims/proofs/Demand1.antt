-- DEMAND 1, over the replies of the calls: refused exactly when the table says, with the listed reply, and no refusal alters a lent buffer.
-- Assumes nothing.
use Prim.Native.Nat.{ℕ, zero, suc, ◌+◌, ◌*◌, ◌-◌}
use native.Mathlib.Omega.{arith}
use mathlib.Core.Path.{◌≡◌, refl, sym, ◌∙◌, ap}
use mathlib.Core.Logic.{◌↔◌}
use mathlib.Core.Bool.{Bool, true, false, cond}
use mathlib.Core.List.{List, [], ◌∷◌, ◌++◌}
use lib.Dec.{leb}
use lib.ListN.{length}
use Rattle.statement.specs.declared.Splits.{Splits}
use Rattle.statement.specs.Outcomes.{Growth, Reading, Outcome, Done, Short, Refused}
use Rattle.statement.specs.Matrix.{distance, weight_limit}
use Rattle.statement.specs.Table.{table_weight}
use Rattle.statement.specs.Rows.{rows_of, list_of}
use Rattle.statement.specs.Growing.{Manner, by_matrix, by_table, larger, cost, grown, whole_run}
use Rattle.statement.specs.Tree.{tree_of, rows_of_tree, path_sums}
use Rattle.statement.specs.Bytes.{tree_body, tree_in, tree_length}
use Rattle.statement.specs.Refusals.{Check, outcome_of, list_off, matrix_checks, table_checks, tree_checks, output_checks}
use Rattle.statement.specs.Record.{record_checks, writing_checks, record_of}
use Rattle.statement.specs.Calls.{unless_refused, refused_run, refused_growth, refused_reading, run_matrix, run_table, grow_matrix, grow_table, write_tree, tree_written, read_tree, sum_paths, paths_written, find_record, write_record, record_written}
use Rattle.statement.proofs.Refused.{refused_exactly}
use Rattle.claims.specs.Demands.{ExactlyWhen, RefusedIs, Unaltered}

abbrev pub NotRefused : Outcome → Type 0
NotRefused o = (number place : ℕ) → o ≡ Refused number place → ⊥

pub done_not : NotRefused Done
done_not number place e = let z : ◌≡◌ {A = ℕ} 0 1 = cc in omega arith

short_not : NotRefused Short
short_not number place e = let z : ◌≡◌ {A = ℕ} 0 1 = cc in omega arith

-- A REPLY BY ITS CHECKS: what a refusal leaves says the refusal, and what the call gives is none
module _ {A : Type 0} (outcome_in : A → Outcome) (left : Outcome → A) (given : A) (says : (o : Outcome) → outcome_in (left o) ≡ o) (not : NotRefused (outcome_in given)) where
  refused_by : (o : Outcome) (number place : ℕ) → (outcome_in (unless_refused o (left o) given) ≡ Refused number place) ↔ (o ≡ Refused number place)
  refused_by Done number place = ((λ e. absurd (not number place e)), (λ e. absurd (done_not number place e)))
  refused_by Short number place = ((λ e. absurd (not number place e)), (λ e. absurd (short_not number place e)))
  refused_by (Refused m p) number place = ((λ e. sym (says (Refused m p)) ∙ e), (λ e. says (Refused m p) ∙ e))

  pub exactly : (checks : List Check) → ExactlyWhen (outcome_in (unless_refused (outcome_of checks) (left (outcome_of checks)) given)) checks
  exactly checks number place =
      let a = refused_by (outcome_of checks) number place in
      let b = refused_exactly checks number place in
      ((λ e. b.0 (a.0 e)), (λ g. a.1 (b.1 g)))

  pub listed : (o : Outcome) → RefusedIs outcome_in (unless_refused o (left o) given) left
  listed Done number place e = absurd (not number place e)
  listed Short number place e = absurd (not number place e)
  listed (Refused m p) number place e = ap left (sym (says (Refused m p)) ∙ e)

-- a buffer lent to a call
pub unaltered : (o : Outcome) (before written : List ℕ) → Unaltered o before (unless_refused o before written)
unaltered Done before written number place e = absurd (done_not number place e)
unaltered Short before written number place e = absurd (short_not number place e)
unaltered (Refused m p) before written number place e = refl

abbrev growth_outcome : Growth → Outcome
growth_outcome g = g.outcome

abbrev pub reading_outcome : Reading → Outcome
reading_outcome g = g.outcome

run_not : (g : Manner) (n : ℕ) → NotRefused (whole_run g n).outcome
unfolding whole_run
run_not g n = done_not

-- growth that is not refused is done or short
grown_not : (g : Manner) (f left spent : ℕ) (s : Splits) → NotRefused (grown g f left spent s).outcome
unfolding grown
grown_not g zero left spent s = done_not
grown_not g (suc f) left spent s =
    go (leb (cost g s) left)
    (grown_not g f (left - cost g s) (spent + cost g s) (larger g s))
  where
    go : (b : Bool) → NotRefused (grown g f (left - cost g s) (spent + cost g s) (larger g s)).outcome
        → NotRefused (cond b (grown g f (left - cost g s) (spent + cost g s) (larger g s)) (record { outcome = Short; list = s; trials = spent })).outcome
    go true h = h
    go false h = short_not

-- EACH CALL: refused exactly when, and the listed reply
pub run_matrix_law : (n : ℕ) (entries : List ℕ) → ExactlyWhen (run_matrix n entries).outcome (matrix_checks n entries) × RefusedIs growth_outcome (run_matrix n entries) refused_run
unfolding run_matrix
run_matrix_law n entries =
    let given = whole_run (by_matrix (distance n entries)) n in
    let not = run_not (by_matrix (distance n entries)) n in
    (exactly growth_outcome refused_run given (λ o. refl) not (matrix_checks n entries), listed growth_outcome refused_run given (λ o. refl) not (outcome_of (matrix_checks n entries)))

pub run_table_law : (n : ℕ) (bytes : List ℕ) → ExactlyWhen (run_table n bytes).outcome (table_checks n bytes) × RefusedIs growth_outcome (run_table n bytes) refused_run
unfolding run_table
run_table_law n bytes =
    let given = whole_run (by_table bytes) n in
    let not = run_not (by_table bytes) n in
    (exactly growth_outcome refused_run given (λ o. refl) not (table_checks n bytes), listed growth_outcome refused_run given (λ o. refl) not (outcome_of (table_checks n bytes)))

pub grow_matrix_law : (n : ℕ) (entries : List ℕ) (s : Splits) (allowance : ℕ) → let checks = matrix_checks n entries ++ (list_off weight_limit n s ∷ []) in
    ExactlyWhen (grow_matrix n entries s allowance).outcome checks × RefusedIs growth_outcome (grow_matrix n entries s allowance) (λ o. refused_growth o s)
unfolding grow_matrix
grow_matrix_law n entries s allowance =
    let checks = matrix_checks n entries ++ (list_off weight_limit n s ∷ []) in
    let given = grown (by_matrix (distance n entries)) (n - s.taxa) allowance 0 s in
    let not = grown_not (by_matrix (distance n entries)) (n - s.taxa) allowance 0 s in
    (exactly growth_outcome (λ o. refused_growth o s) given (λ o. refl) not checks, listed growth_outcome (λ o. refused_growth o s) given (λ o. refl) not (outcome_of checks))

pub grow_table_law : (n : ℕ) (bytes : List ℕ) (s : Splits) (allowance : ℕ) → let checks = table_checks n bytes ++ (list_off table_weight n s ∷ []) in
    ExactlyWhen (grow_table n bytes s allowance).outcome checks × RefusedIs growth_outcome (grow_table n bytes s allowance) (λ o. refused_growth o s)
unfolding grow_table
grow_table_law n bytes s allowance =
    let checks = table_checks n bytes ++ (list_off table_weight n s ∷ []) in
    let given = grown (by_table bytes) (n - s.taxa) allowance 0 s in
    let not = grown_not (by_table bytes) (n - s.taxa) allowance 0 s in
    (exactly growth_outcome (λ o. refused_growth o s) given (λ o. refl) not checks, listed growth_outcome (λ o. refused_growth o s) given (λ o. refl) not (outcome_of checks))

pub read_tree_law : (n : ℕ) (body : List ℕ) → ExactlyWhen (read_tree n body).outcome (tree_checks n body) × RefusedIs reading_outcome (read_tree n body) refused_reading
unfolding read_tree
read_tree_law n body =
    let given : Reading = record { outcome = Done; list = list_of n (rows_of_tree n (tree_in n body)) } in
    (exactly reading_outcome refused_reading given (λ o. refl) done_not (tree_checks n body), listed reading_outcome refused_reading given (λ o. refl) done_not (outcome_of (tree_checks n body)))

pub write_tree_law : (n : ℕ) (s : Splits) (out : List ℕ)
    → ExactlyWhen (write_tree n s out) (output_checks n s (length out) (tree_length n s.rows)) × Unaltered (write_tree n s out) out (tree_written n s out)
unfolding write_tree tree_written
write_tree_law n s out = (refused_exactly (output_checks n s (length out) (tree_length n s.rows)), unaltered (write_tree n s out) out (tree_body (tree_of n (rows_of s))))

pub sum_paths_law : (n : ℕ) (s : Splits) (out : List ℕ)
    → ExactlyWhen (sum_paths n s out) (output_checks n s (length out) (n * n)) × Unaltered (sum_paths n s out) out (paths_written n s out)
unfolding sum_paths paths_written
sum_paths_law n s out = (refused_exactly (output_checks n s (length out) (n * n)), unaltered (sum_paths n s out) out (path_sums n (tree_of n (rows_of s))))

pub find_record_law : (bytes : List ℕ) → ExactlyWhen (find_record bytes) (record_checks bytes)
unfolding find_record
find_record_law bytes = refused_exactly (record_checks bytes)

pub write_record_law : (kind n : ℕ) (body out : List ℕ)
    → ExactlyWhen (write_record kind n body out) (writing_checks kind n body (length out)) × Unaltered (write_record kind n body out) out (record_written kind n body out)
unfolding write_record record_written
write_record_law kind n body out = (refused_exactly (writing_checks kind n body (length out)), unaltered (write_record kind n body out) out (record_of kind n body))
