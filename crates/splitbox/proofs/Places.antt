-- Number and place of any refusal of any call share a reply: the number is below 254, the place below 2 ^ 48. Assumes nothing.
use Prim.Native.Nat.{ℕ, zero, suc, ◌*◌, ◌^◌, ◌≤◌, ◌<◌}
use native.Mathlib.Omega.{arith}
use native.Mathlib.Nat.{mul-le-mul, le_trans}
use mathlib.Core.Path.{◌≡◌, refl}
use mathlib.Core.Logic.{inl, inr}
use mathlib.Core.Bool.{Bool, true, false, cond, ◌&&◌}
use mathlib.Core.List.{List, [], ◌∷◌, ◌++◌}
use lib.Dec.{ltb, eqb}
use lib.ListN.{length, take, drop, get_or, length-drop}
use Rattle.statement.specs.declared.Splits.{Splits}
use Rattle.statement.specs.Outcomes.{Growth, Outcome, Done, Short, Refused}
use Rattle.statement.specs.Matrix.{weight_limit}
use Rattle.statement.specs.Table.{choose, table_weight}
use Rattle.statement.specs.Rows.{rows_of}
use Rattle.statement.specs.Tree.{root}
use Rattle.statement.specs.NewickText.{newick_length}
use Rattle.statement.specs.Bytes.{tree_in, from_bytes, tree_length}
use Rattle.statement.specs.Refusals.{Check, outcome_of, Passed, Given, length_off, output_off, kind_off, byte_off, tree_fits, list_off, matrix_checks, table_checks, tree_checks, output_checks, list_checks, entry_checks, vertex_checks}
use Rattle.statement.specs.Record.{Kind, kinds, is_kind, fits_kind, body_checks, matrix_kind, table_kind, record_length, kind_in, taxa_in, record_checks, taken_checks, body_in, writing_checks}
use Rattle.statement.specs.Calls.{unless_refused, refused_run, run_matrix, run_table, grow_matrix, grow_table, read_tree, write_tree, measure_newick, write_newick, sum_paths, find_record, write_record, run_record}
use Rattle.statement.proofs.Tests.{both_is, less_is, not_is}
use Rattle.statement.proofs.Accepted.{taxa_passed, length_passed}
use Rattle.statement.proofs.Refused.{refused_exactly}
use Rattle.record_write.proofs.RoundTrip.{tree_short, table_short, body_short}
use Rattle.splitbox.specs.Face.{Shares}
use Rattle.claims.specs.Demands.{ExactlyWhen}
use Rattle.claims.proofs.Demand1.{run_matrix_law, run_table_law, grow_matrix_law, grow_table_law, read_tree_law, write_tree_law, sum_paths_law, find_record_law, write_record_law}
use Rattle.newick_claims.proofs.Replies.{newick_length_law, write_newick_law}

-- a line with a small number that looks at few places, given that those before it are passed
abbrev Line : Check → Type 0
Line c = (1 ≤ c.number) × (c.number < 254) × (c.places ≤ 2 ^ 48)

line : {number places : ℕ} → ltb 0 number && ltb number 254 ≡ true → places ≤ 2 ^ 48 → (1 ≤ number) × (number < 254) × (places ≤ 2 ^ 48)
line {number} e few = let (low, high) = (both_is (less_is 0 number) (less_is number 254)).0 e in (low, high, few)

abbrev Few : List Check → Type 0
Few [] = Unit {0}
Few (c ∷ cs) = Line c × (Passed c → Few cs)

given_few : (cs : List Check) (number place : ℕ) → Few cs → Given cs number place → (1 ≤ number) × (number < 254) × (place < 2 ^ 48)
given_few [] number place few given = absurd given
given_few (c ∷ cs) number place few (inl fails) =
    let (low, high, places) = few.0 in (omega (arith, fails.named), omega (arith, fails.named), omega (arith, fails.within))
given_few (c ∷ cs) number place few (inr given) = given_few cs number place (few.1 given.0) given.1

-- NUMBER AND PLACE SHARE A REPLY where the refusals of an outcome are exactly those of such an order
shares_by : (o : Outcome) (cs : List Check) → ExactlyWhen o cs → Few cs → Shares o
shares_by Done cs exactly few = tt
shares_by Short cs exactly few = tt
shares_by (Refused number place) cs exactly few = given_few cs number place few ((exactly number place).0 refl)

-- a line whose place is always 0, and one with some more

few_both : (cs ds : List Check) → Few cs → Few ds → Few (cs ++ ds)
few_both [] ds few more = more
few_both (c ∷ cs) ds few more = (few.0, (λ p. few_both cs ds (few.1 p) more))

fitting : (fits : Bool) → Passed (length_off fits) → fits ≡ true
fitting fits p = (not_is ((λ e. e), (λ e. e))).0 (p 0 (omega arith))

-- THE ORDERS. A matrix's own checks look at each entry, a table's at each byte
few_entries : (n : ℕ) (entries : List ℕ) → n ≤ 64 → Few (entry_checks n entries)
few_entries n entries l =
    let small : n * n ≤ 2 ^ 48 = le_trans (mul-le-mul l l) (omega arith) in (line refl small, (λ p. (line refl small, (λ q. (line refl small, (λ r. tt))))))

few_matrix : (n : ℕ) (entries : List ℕ) → Few (matrix_checks n entries)
few_matrix n entries = (line refl (omega arith), (λ p. (line refl (omega arith), (λ q. few_entries n entries ((taxa_passed n).0 p).1))))

few_table : (n : ℕ) (bytes : List ℕ) → Few (table_checks n bytes)
few_table n bytes =
    (line refl (omega arith), (λ p. (line refl (omega arith), (λ q. (line refl (omega (arith, table_short n ((taxa_passed n).0 p).1, (length_passed (length bytes) (choose n 4)).0 q)), (λ r. tt))))))

-- a tree's at each vertex
take_short : (m : ℕ) (xs : List ℕ) → length (take m xs) ≤ length xs
take_short zero xs = omega arith
take_short (suc m) [] = omega arith
take_short (suc m) (x ∷ xs) = omega (arith, take_short m xs)

few_edges : (n : ℕ) (body : List ℕ) → length body < 2 ^ 32 → root (tree_in n body) ≤ 2 ^ 48
unfolding tree_in
few_edges n body l = omega (arith, take_short (get_or body 0 0) (drop 1 body), length-drop 1 body)

few_vertices : (n : ℕ) (body : List ℕ) → length body < 2 ^ 32 → Few (vertex_checks n body)
few_vertices n body l =
    let few = few_edges n body l in
    (line refl (omega arith), (λ p. (line refl few, (λ q. (line refl few, (λ r. (line refl (omega arith), (λ s. (line refl few, (λ t. (line refl few, (λ u. tt))))))))))))

few_tree : (n : ℕ) (body : List ℕ) → Few (tree_checks n body)
few_tree n body =
    (line refl (omega arith), (λ p. (line refl (omega arith), (λ q. few_vertices n body (tree_short n (length body) ((taxa_passed n).0 p).1 (fitting (tree_fits n (length body)) q))))))

-- a body's own checks, by its kind
few_body : (kind n : ℕ) (body : List ℕ) → n ≤ 64 → length body < 2 ^ 32 → Few (body_checks kinds kind n body)
few_body kind n body few short = go (eqb kind 1) (eqb kind 2) (eqb kind 3)
  where
    go : (a b c : Bool) → Few (cond a (entry_checks n (from_bytes body)) (cond b (byte_off body ∷ []) (cond c (vertex_checks n body) [])))
    go true b c = few_entries n (from_bytes body) few
    go false true c = (line refl (omega arith), (λ p. tt))
    go false false true = few_vertices n body short
    go false false false = tt

-- the others look at one place
few_output : (n : ℕ) (s : Splits) (len wanted : ℕ) → Few (output_checks n s len wanted)
few_output n s len wanted = (line refl (omega arith), (λ p. (line refl (omega arith), (λ q. (line refl (omega arith), (λ r. tt))))))

few_record : (bytes : List ℕ) → Few (record_checks bytes)
few_record bytes =
    (line refl (omega arith), (λ p. (line refl (omega arith), (λ q. (line refl (omega arith), (λ r. (line refl (omega arith), (λ s. (line refl (omega arith), (λ t. (line refl (omega arith), (λ u. (line refl (omega arith), (λ v. tt))))))))))))))

few_taken : (taken : List Kind) (bytes : List ℕ) → Few (taken_checks taken bytes)
few_taken taken bytes = few_both (record_checks bytes) (kind_off (is_kind taken (kind_in bytes)) ∷ []) (few_record bytes) (line refl (omega arith), (λ p. tt))

few_writing : (kind n : ℕ) (body : List ℕ) (room : ℕ) → Few (writing_checks kind n body room)
few_writing kind n body room = (
  omega arith,
  (λ p. (
    omega arith,
    (λ q. (
      omega arith,
      (λ r.
          let few = ((taxa_passed n).0 q).1 in
          few_both (body_checks kinds kind n body) (output_off room (record_length (length body)) ∷ [])
          (few_body kind n body few (body_short kind n (length body) few (fitting (fits_kind kinds kind n (length body)) r))) (line refl (omega arith), (λ s. tt))),
    )),
  )),
)

-- THE CALLS

pub matrix_run_fits : (n : ℕ) (entries : List ℕ) → Shares (run_matrix n entries).outcome
matrix_run_fits n entries = shares_by _ (matrix_checks n entries) (run_matrix_law n entries).0 (few_matrix n entries)

pub table_run_fits : (n : ℕ) (bytes : List ℕ) → Shares (run_table n bytes).outcome
table_run_fits n bytes = shares_by _ (table_checks n bytes) (run_table_law n bytes).0 (few_table n bytes)

pub matrix_growth_fits : (n : ℕ) (entries : List ℕ) (s : Splits) (allowance : ℕ) → Shares (grow_matrix n entries s allowance).outcome
matrix_growth_fits n entries s allowance =
    let last = list_off weight_limit n s ∷ [] in
    shares_by _ (matrix_checks n entries ++ last) (grow_matrix_law n entries s allowance).0 (few_both (matrix_checks n entries) last (few_matrix n entries) (line refl (omega arith), (λ p. tt)))

pub table_growth_fits : (n : ℕ) (bytes : List ℕ) (s : Splits) (allowance : ℕ) → Shares (grow_table n bytes s allowance).outcome
table_growth_fits n bytes s allowance =
    let last = list_off table_weight n s ∷ [] in
    shares_by _ (table_checks n bytes ++ last) (grow_table_law n bytes s allowance).0 (few_both (table_checks n bytes) last (few_table n bytes) (line refl (omega arith), (λ p. tt)))

pub reading_fits : (n : ℕ) (body : List ℕ) → Shares (read_tree n body).outcome
reading_fits n body = shares_by _ (tree_checks n body) (read_tree_law n body).0 (few_tree n body)

pub tree_fits_law : (n : ℕ) (s : Splits) (out : List ℕ) → Shares (write_tree n s out)
tree_fits_law n s out = shares_by _ (output_checks n s (length out) (tree_length n s.rows)) (write_tree_law n s out).0 (few_output n s (length out) (tree_length n s.rows))

pub newick_length_fits : (n : ℕ) (s : Splits) → Shares (measure_newick n s)
newick_length_fits n s = shares_by _ (list_checks n s) (newick_length_law n s) (line refl (omega arith), (λ p. (line refl (omega arith), (λ q. tt))))

pub newick_fits : (n : ℕ) (s : Splits) (out : List ℕ) → Shares (write_newick n s out)
newick_fits n s out =
    shares_by _ (output_checks n s (length out) (newick_length n (rows_of s))) (write_newick_law n s out).0 (few_output n s (length out) (newick_length n (rows_of s)))

pub paths_fit : (n : ℕ) (s : Splits) (out : List ℕ) → Shares (sum_paths n s out)
paths_fit n s out = shares_by _ (output_checks n s (length out) (n * n)) (sum_paths_law n s out).0 (few_output n s (length out) (n * n))

pub finding_fits : (bytes : List ℕ) → Shares (find_record bytes)
finding_fits bytes = shares_by _ (record_checks bytes) (find_record_law bytes) (few_record bytes)

pub taken_fits : (taken : List Kind) (bytes : List ℕ) → Shares (outcome_of (taken_checks taken bytes))
taken_fits taken bytes = shares_by _ (taken_checks taken bytes) (refused_exactly (taken_checks taken bytes)) (few_taken taken bytes)

pub writing_fits : (kind n : ℕ) (body out : List ℕ) → Shares (write_record kind n body out)
writing_fits kind n body out =
    shares_by _ (writing_checks kind n body (length out)) (write_record_law kind n body out).0 (few_writing kind n body (length out))

pub job_fits : (bytes : List ℕ) → Shares (run_record bytes).outcome
unfolding run_record
job_fits bytes = go (outcome_of (taken_checks (matrix_kind ∷ table_kind ∷ []) bytes)) (taken_fits (matrix_kind ∷ table_kind ∷ []) bytes) (eqb (kind_in bytes) 1)
  where
    run : Bool → Growth
    run b = cond b (run_matrix (taxa_in bytes) (from_bytes (body_in bytes))) (run_table (taxa_in bytes) (body_in bytes))

    ran : (b : Bool) → Shares (run b).outcome
    ran true = matrix_run_fits (taxa_in bytes) (from_bytes (body_in bytes))
    ran false = table_run_fits (taxa_in bytes) (body_in bytes)

    go : (o : Outcome) → Shares o → (b : Bool) → Shares (unless_refused o (refused_run o) (run b)).outcome
    go Done h b = ran b
    go Short h b = ran b
    go (Refused number place) h b = h
