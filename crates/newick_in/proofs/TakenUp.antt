-- The record of an accepted text is taken up again: found, and its tree read as the text was. Assumes nothing.
use Prim.Native.Nat.{ℕ, ◌≤◌}
use mathlib.Core.Path.{◌≡◌, refl, sym, ◌∙◌, ap, ap₂, subst}
use mathlib.Core.Bool.{true}
use mathlib.Core.List.{List, ◌++◌, map}
use lib.ListN.{length}
use Rattle.statement.specs.declared.Splits.{Splits}
use Rattle.statement.specs.Outcomes.{Reading, Outcome, Done}
use Rattle.statement.specs.Matrix.{weight_limit}
use Rattle.statement.specs.Rows.{Row, list_of}
use Rattle.statement.specs.Tree.{tree_of, sort_rows}
use Rattle.statement.specs.Bytes.{tree_body}
use Rattle.statement.specs.Refusals.{tree_fits}
use Rattle.statement.specs.Record.{kinds, fits_kind, record_of, summed, kind_in, taxa_in, body_in}
use Rattle.statement.specs.Calls.{find_record, read_tree}
use Rattle.statement.proofs.Lists.{rows_of_list}
use Rattle.statement.proofs.Enlarged.{WellRows}
use Rattle.tree_write.proofs.RoundTrip.{written_passes, written_read}
use Rattle.record_find.proofs.Found.{good_passed}
use Rattle.record_write.proofs.RoundTrip.{round_trip_found, round_trip_body}
use Rattle.statement.specs.Sentence.{edges_of, row_of}
use Rattle.newick_meaning.specs.Parse.{read_newick}
use Rattle.newick_reading.proofs.Accepted.{accepted, read_rows}
use Rattle.newick_in.specs.Records.{record_of_list, record_of_text, TakenUp}
use Rattle.newick_in.proofs.Records.{text_record}

-- the record of a tree says its kind and its number of taxa
kind_said : (n : ℕ) (body rest : List ℕ) → kind_in (record_of 3 n body ++ rest) ≡ 3
unfolding record_of summed
kind_said n body rest = refl

taxa_said : (n : ℕ) (body rest : List ℕ) → taxa_in (record_of 3 n body ++ rest) ≡ n
unfolding record_of summed
taxa_said n body rest = refl

-- a reading by its parts
reading_is : (r : Reading) (s : Splits) → r.outcome ≡ Done → r.list ≡ s → r ≡ record { outcome = Done; list = s }
reading_is r s e l = ap₂ (λ (o : Outcome) (t : Splits). record { outcome = o; list = t }) e l

-- the record of the tree of well-formed rows, with anything behind it
module _ (n : ℕ) (rows : List Row) (rest : List ℕ) (two : 2 ≤ n) (few : n ≤ 64) (well : WellRows weight_limit n rows) where
  fits : fits_kind kinds 3 n (length (tree_body (tree_of n rows))) ≡ true
  fits = (good_passed 2 (tree_fits n (length (tree_body (tree_of n rows))))).0 (written_passes n rows two few well).1.0

  tree_found : find_record (record_of 3 n (tree_body (tree_of n rows)) ++ rest) ≡ Done
  tree_found = round_trip_found 3 n (tree_body (tree_of n rows)) rest refl two few fits

  tree_read : read_tree (taxa_in (record_of 3 n (tree_body (tree_of n rows)) ++ rest)) (body_in (record_of 3 n (tree_body (tree_of n rows)) ++ rest))
      ≡ record { outcome = Done; list = list_of n rows }
  tree_read =
      ap₂ read_tree (taxa_said n (tree_body (tree_of n rows)) rest) (round_trip_body 3 n (tree_body (tree_of n rows)) rest refl two few fits)
      ∙ written_read n rows two few well

pub taken_up : (n : ℕ) (text rest : List ℕ) → (read_newick n text).outcome ≡ Done → TakenUp n text rest
taken_up n text rest e =
    let (f, q, a, l) = accepted n text e in
    let rows = sort_rows (map (row_of n) (edges_of f)) in
    let well = read_rows n f a in
    let is : record_of 3 n (tree_body (tree_of n rows)) ≡ record_of_text n text =
    ap (λ (rs : List Row). record_of 3 n (tree_body (tree_of n rs))) (sym (rows_of_list n rows)) ∙ ap (record_of_list n) (sym l) ∙ text_record n text e in
    record {
      found = subst (λ (b : List ℕ). find_record (b ++ rest) ≡ Done) is (tree_found n rows rest a.two a.few well);
      kind = subst (λ (b : List ℕ). kind_in (b ++ rest) ≡ 3) is (kind_said n (tree_body (tree_of n rows)) rest);
      read =
          subst (λ (b : List ℕ). read_tree (taxa_in (b ++ rest)) (body_in (b ++ rest)) ≡ record { outcome = Done; list = list_of n rows }) is
          (tree_read n rows rest a.two a.few well)
          ∙ sym (reading_is (read_newick n text) (list_of n rows) e l);
    }
