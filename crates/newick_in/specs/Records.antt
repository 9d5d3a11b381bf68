-- THE RECORD OF A TEXT: that of the tree of the list that it reads as; none where it is refused.
use Rattle.std.specs.Prelude.{ℕ, ◌≤◌, ◌≡◌, List, [], ◌++◌, length, take}
use Rattle.statement.specs.declared.Splits.{Splits}
use Rattle.statement.specs.Outcomes.{Done}
use Rattle.statement.specs.Matrix.{weight_limit}
use Rattle.statement.specs.Rows.{rows_of, WellFormed}
use Rattle.statement.specs.Tree.{tree_of}
use Rattle.statement.specs.Bytes.{tree_body}
use Rattle.statement.specs.Record.{record_of, kind_in, taxa_in, body_in}
use Rattle.statement.specs.Calls.{unless_refused, find_record, read_tree}
use Rattle.newick_meaning.specs.Parse.{read_newick}

-- a well-formed list over all of its n taxa
pub record Covers (n : ℕ) (s : Splits) : Type 0 where
  pub two : 2 ≤ n
  pub few : n ≤ 64
  pub well : WellFormed weight_limit n s
  pub whole : s.taxa ≡ n

-- `&xs[..n]` is in bounds, and has n bytes
abbrev pub IsPrefixLen : ℕ → List ℕ → Type 0
IsPrefixLen n xs = (n ≤ length xs) × (n ≡ length (take n xs))

abbrev pub record_of_list : ℕ → Splits → List ℕ
record_of_list n s = record_of 3 n (tree_body (tree_of n (rows_of s)))

unfoldable pub record_of_text : ℕ → List ℕ → List ℕ
record_of_text n text = unless_refused (read_newick n text).outcome [] (record_of_list n (read_newick n text).list)

-- THAT RECORD IS TAKEN UP AGAIN, whatever follows it: it is found, it is a tree's, and the tree in it reads as the text does
pub record TakenUp (n : ℕ) (text rest : List ℕ) : Type 0 where
  pub found : find_record (record_of_text n text ++ rest) ≡ Done
  pub kind : kind_in (record_of_text n text ++ rest) ≡ 3
  pub read : read_tree (taxa_in (record_of_text n text ++ rest)) (body_in (record_of_text n text ++ rest)) ≡ read_newick n text
