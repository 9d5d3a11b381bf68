-- THE REPLY OF EACH CALL, on all inputs. Document 01: "Every callable entry states its reply and the later contents of lent slices on all inputs".
use Rattle.std.specs.Prelude.{ℕ, ◌+◌, ◌*◌, ◌-◌, ◌≡◌, cond, List, [], ◌∷◌, ◌++◌, ltb, eqb, length, drop}
use Rattle.statement.specs.declared.Splits.{Splits}
use Rattle.statement.specs.Outcomes.{Growth, Reading, Outcome, Done, Short, Refused}
use Rattle.statement.specs.Steps.{Step}
use Rattle.statement.specs.Steps as step
use Rattle.statement.specs.Matrix.{distance, weight_limit}
use Rattle.statement.specs.Table.{table_weight}
use Rattle.statement.specs.Rows.{rows_of, list_of}
use Rattle.statement.specs.Growing.{by_matrix, by_table, grown, whole_run}
use Rattle.statement.specs.Tree.{tree_of, rows_of_tree, path_sums}
use Rattle.statement.specs.Bytes.{from_bytes, tree_body, tree_in, tree_length}
use Rattle.statement.specs.Sentence.{Parsed, Parses, rows_read}
use Rattle.statement.specs.NewickText.{newick_of, newick_length}
use Rattle.statement.specs.Refusals.{outcome_of, list_off, matrix_checks, table_checks, tree_checks, output_checks, list_checks, newick_checks}
use Rattle.statement.specs.Record.{record_checks, record_length, length_in, record_of, writing_checks, matrix_kind, table_kind, kind_in, taxa_in, taken_checks, body_in}

-- by the outcome of the checks: what a refusal leaves, else what the call gives
abbrev pub unless_refused : {A : Type 0} → Outcome → A → A → A
unless_refused Done left given = given
unless_refused Short left given = given
unless_refused (Refused number place) left given = left

-- the empty list, over k taxa
abbrev pub empty_list : ℕ → Splits
empty_list k = list_of k []

-- THE WHOLE RUN. A refused run hands back an empty list with k = 0, and 0 trials
abbrev pub refused_run : Outcome → Growth
refused_run o = record { outcome = o; list = empty_list 0; trials = 0 }

unfoldable pub run_matrix : ℕ → List ℕ → Growth
run_matrix n entries =
    let o = outcome_of (matrix_checks n entries) in
    unless_refused o (refused_run o) (whole_run (by_matrix (distance n entries)) n)

unfoldable pub run_table : ℕ → List ℕ → Growth
run_table n bytes =
    let o = outcome_of (table_checks n bytes) in
    unless_refused o (refused_run o) (whole_run (by_table bytes) n)

-- GROWTH with an allowance. A refused growth hands back the given list and 0 trials
abbrev pub refused_growth : Outcome → Splits → Growth
refused_growth o s = record { outcome = o; list = s; trials = 0 }

unfoldable pub grow_matrix : ℕ → List ℕ → Splits → ℕ → Growth
grow_matrix n entries s allowance =
    let o = outcome_of (matrix_checks n entries ++ (list_off weight_limit n s ∷ [])) in
    unless_refused o (refused_growth o s) (grown (by_matrix (distance n entries)) (n - s.taxa) allowance 0 s)

unfoldable pub grow_table : ℕ → List ℕ → Splits → ℕ → Growth
grow_table n bytes s allowance =
    let o = outcome_of (table_checks n bytes ++ (list_off table_weight n s ∷ [])) in
    unless_refused o (refused_growth o s) (grown (by_table bytes) (n - s.taxa) allowance 0 s)

-- THE TREE of a list, written into a lent slice: the outcome, and what the slice then holds
unfoldable pub write_tree : ℕ → Splits → List ℕ → Outcome
write_tree n s out = outcome_of (output_checks n s (length out) (tree_length n s.rows))

unfoldable pub tree_written : ℕ → Splits → List ℕ → List ℕ
tree_written n s out = unless_refused (write_tree n s out) out (tree_body (tree_of n (rows_of s)))

-- a tree read. A refused reading hands back an empty list with k = 0
abbrev pub refused_reading : Outcome → Reading
refused_reading o = record { outcome = o; list = empty_list 0 }

unfoldable pub read_tree : ℕ → List ℕ → Reading
read_tree n body =
    let o = outcome_of (tree_checks n body) in
    unless_refused o (refused_reading o) (record { outcome = Done; list = list_of n (rows_of_tree n (tree_in n body)) })

-- PATH SUMS into a lent slice of n by n
unfoldable pub sum_paths : ℕ → Splits → List ℕ → Outcome
sum_paths n s out = outcome_of (output_checks n s (length out) (n * n))

unfoldable pub paths_written : ℕ → Splits → List ℕ → List ℕ
paths_written n s out = unless_refused (sum_paths n s out) out (path_sums n (tree_of n (rows_of s)))

-- NEWICK TEXT (document 02, §2). The length of the text of a list with k = n, for the slice to lend: the outcome, and what a lent number then holds
unfoldable pub measure_newick : ℕ → Splits → Outcome
measure_newick n s = outcome_of (list_checks n s)

unfoldable pub newick_measured : ℕ → Splits → ℕ → ℕ
newick_measured n s before = unless_refused (measure_newick n s) before (newick_length n (rows_of s))

-- the text, written into a lent slice
unfoldable pub write_newick : ℕ → Splits → List ℕ → Outcome
write_newick n s out = outcome_of (output_checks n s (length out) (newick_length n (rows_of s)))

unfoldable pub newick_written : ℕ → Splits → List ℕ → List ℕ
newick_written n s out = unless_refused (write_newick n s out) out (newick_of n (rows_of s))

-- a text read, by what it is to a reader. A refused reading hands back an empty list with k = 0
abbrev pub reading_of : ℕ → Parsed → Reading
reading_of n p =
    let o = outcome_of (newick_checks n p) in
    unless_refused o (refused_reading o) (record { outcome = Done; list = list_of n (rows_read n p) })

-- THE REPLY TO A TEXT is the reading of what the text is to a reader. Every text is one thing to the grammar, so there is one reply
pub record NewickReply (n : ℕ) (text : List ℕ) (r : Reading) : Type 0 where
  pub what : Parsed
  pub parses : Parses text what
  pub reply : r ≡ reading_of n what

-- A RECORD found: its number and place (its body is body_in), and a record written into a lent slice
unfoldable pub find_record : List ℕ → Outcome
find_record bytes = outcome_of (record_checks bytes)

unfoldable pub write_record : ℕ → ℕ → List ℕ → List ℕ → Outcome
write_record kind n body out = outcome_of (writing_checks kind n body (length out))

unfoldable pub record_written : ℕ → ℕ → List ℕ → List ℕ → List ℕ
record_written kind n body out = unless_refused (write_record kind n body out) out (record_of kind n body)

-- THE WALKER at a place of its file: at or past the end of the bytes it says "end", and at a refused record it does not move
abbrev pub step_by : Outcome → Step → Step
step_by Done found = found
step_by Short found = found
step_by (Refused number place) found = step.Refused number place

unfoldable pub step_at : List ℕ → ℕ → Step
step_at file place =
    let rest = drop place file in
    cond (ltb place (length file))
    (step_by (find_record rest) (step.Found (place + 8) (length_in rest) (place + record_length (length_in rest))))
    step.End

-- THE MAIN JOB: a record is found, of a kind that is taken (matrix or table), and its body run; the body's own checks belong to the run
unfoldable pub run_record : List ℕ → Growth
run_record bytes =
    let o = outcome_of (taken_checks (matrix_kind ∷ table_kind ∷ []) bytes) in
    unless_refused o (refused_run o)
    (cond (eqb (kind_in bytes) 1) (run_matrix (taxa_in bytes) (from_bytes (body_in bytes))) (run_table (taxa_in bytes) (body_in bytes)))
