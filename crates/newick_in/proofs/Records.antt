-- The laws behind the record of a text: the list of an accepted text covers its taxa, and its tree is written.
-- Assumes nothing.
use Prim.Native.Nat.{ℕ}
use mathlib.Core.Path.{◌≡◌, sym, ◌∙◌, ap, subst}
use mathlib.Core.List.{List, []}
use Rattle.std.specs.Prelude.{Ok, Err}
use lib.ListN.{length}
use Rattle.statement.specs.declared.Splits.{Splits}
use Rattle.statement.specs.Outcomes.{Reading, Done}
use Rattle.statement.specs.declared.Refusal.{Refusal}
use Rattle.statement.specs.Matrix.{weight_limit}
use Rattle.statement.specs.Rows.{rows_of}
use Rattle.statement.specs.Tree.{tree_of}
use Rattle.statement.specs.Bytes.{tree_body, tree_length}
use Rattle.statement.specs.Calls.{write_tree, tree_written}
use Rattle.statement.specs.Replies.{refused_for, reading_said}
use Rattle.statement.proofs.WellFormed.{well_formed_is}
use Rattle.statement.proofs.Outputs.{output_accepted}
use Rattle.newick_meaning.specs.Parse.{read_newick}
use Rattle.newick_reading.proofs.Accepted.{accepted, read_well}
use Rattle.newick_in.specs.Records.{Covers, record_of_list, record_of_text}

-- the tree is written where the slice has its length
pub tree_taken : (n : ℕ) (s : Splits) (out : List ℕ) → length s.clusters ≡ 125 → length s.weights ≡ 125 → Covers n s
    → length out ≡ tree_length n s.rows → write_tree n s out ≡ Done
unfolding write_tree
tree_taken n s out hc hw h size =
    (output_accepted n s (length out) (tree_length n s.rows)).1
    (record { two = h.two; few = h.few; well = (well_formed_is weight_limit n s hc hw h.few).1 h.well; whole = h.whole; size = size })

pub body_written_law : (n : ℕ) (s : Splits) (out : List ℕ) → write_tree n s out ≡ Done → tree_written n s out ≡ tree_body (tree_of n (rows_of s))
unfolding tree_written
body_written_law n s out e = rw e

-- an accepted text's list covers its taxa
text_covers : (n : ℕ) (text : List ℕ) → (read_newick n text).outcome ≡ Done → Covers n (read_newick n text).list
text_covers n text e =
    let (f, q, a, l) = accepted n text e in
    let w = read_well n text e in
    record { two = a.two; few = a.few; well = w.0; whole = w.1 }

pub text_record : (n : ℕ) (text : List ℕ) → (read_newick n text).outcome ≡ Done → record_of_list n (read_newick n text).list ≡ record_of_text n text
unfolding record_of_text
text_record n text e = rw e

-- as a text is read: the list that it reads as, and its record; none where it is refused
pub read_covers : (n : ℕ) (text : List ℕ) (s : Splits) → reading_said (Ok s) ≡ read_newick n text → Covers n s
read_covers n text s e =
    subst (Covers n) (sym (ap (λ (r : Reading). r.list) e)) (text_covers n text (sym (ap (λ (r : Reading). r.outcome) e)))

pub read_record : (n : ℕ) (text : List ℕ) (s : Splits) → reading_said (Ok s) ≡ read_newick n text → record_of_list n s ≡ record_of_text n text
read_record n text s e =
    ap (record_of_list n) (ap (λ (r : Reading). r.list) e) ∙ text_record n text (sym (ap (λ (r : Reading). r.outcome) e))

pub read_refused : (n : ℕ) (text : List ℕ) (r : Refusal) → reading_said (Err r) ≡ read_newick n text → [] ≡ record_of_text n text
unfolding record_of_text
read_refused n text r e =
    let o : (read_newick n text).outcome ≡ refused_for r = sym (ap (λ (s : Reading). s.outcome) e) in
    rw o
