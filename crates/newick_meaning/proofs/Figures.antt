-- FIGURES: what the definitions say of some texts. Assumes nothing.
use Prim.Native.Nat.{ℕ}
use native.Mathlib.Omega.{arith}
use mathlib.Core.Path.{◌≡◌, refl, ap}
use mathlib.Core.Bool.{true}
use mathlib.Core.List.{[], ◌∷◌}
use Rattle.statement.specs.Outcomes.{Refused}
use Rattle.statement.specs.Cluster.{group_of}
use Rattle.statement.specs.Lowest.{lowest_from}
use Rattle.statement.specs.Rows.{row, rows_of, list_of, filled}
use Rattle.statement.specs.Tree.{insert_row, sort_rows}
use Rattle.statement.specs.Refusals.{outcome_of, places_of, strays, twins, missing}
use Rattle.statement.specs.Decimal.{digit, on_from}
use Rattle.newick_text.specs.Automaton.{run}
use Rattle.statement.specs.Sentence.{none, Numeral, nought, lead, leaf, group, leaf_then, group_then, size, taxa_of, leaves_at, edges_at, split_made, kept_edges, clusters_of}
use Rattle.statement.specs.Calls.{reading_of}
use Rattle.newick_meaning.specs.Parse.{read_newick}
use Rattle.newick_meaning.proofs.Unique.{sentence_read}
use Rattle.newick_meaning.proofs.Parses.{parsed_bad}

-- a digit other than 0
single : (c : ℕ) → digit c ≡ true → (c ≡ 48 → ⊥) → Numeral
single c p q = lead c p q none

one : Numeral
one = single 49 refl (λ e. omega arith)

two : Numeral
two = single 50 refl (λ e. omega arith)

three : Numeral
three = single 51 refl (λ e. omega arith)

four : Numeral
four = single 52 refl (λ e. omega arith)

five : Numeral
five = single 53 refl (λ e. omega arith)

six : Numeral
six = single 54 refl (λ e. omega arith)

-- (0:5,1:3); for 2 taxa
pub twice : (read_newick 2 (40 ∷ 48 ∷ 58 ∷ 53 ∷ 44 ∷ 49 ∷ 58 ∷ 51 ∷ 41 ∷ 59 ∷ [])).outcome ≡ Refused 13 3
unfolding one two three four five six single outcome_of lowest_from group_of on_from size taxa_of leaves_at edges_at split_made kept_edges places_of strays clusters_of twins missing
twice = ap (λ r. r.outcome) (sentence_read 2 (leaf_then nought five (leaf one three)) _ [] tt refl)

-- ((0:1,1:2):3,(2:4,3:5):6); for 4 taxa
pub halves : (read_newick 4 (40 ∷ 40 ∷ 48 ∷ 58 ∷ 49 ∷ 44 ∷ 49 ∷ 58 ∷ 50 ∷ 41 ∷ 58 ∷ 51 ∷ 44 ∷ 40 ∷ 50 ∷ 58 ∷ 52 ∷ 44 ∷ 51 ∷ 58 ∷ 53 ∷ 41 ∷ 58 ∷ 54 ∷ 41 ∷ 59 ∷ [])).outcome ≡ Refused 13 11
unfolding one two three four five six single outcome_of lowest_from group_of on_from size taxa_of leaves_at edges_at split_made kept_edges places_of strays clusters_of twins missing
halves = ap (λ r. r.outcome) (sentence_read 4 (group_then (leaf_then nought one (leaf one two)) three (group (leaf_then two four (leaf three five)) six)) _ [] (tt, tt) refl)

-- ((0:1,1:2,2:3):5); for 3 taxa
pub rooted_alone : (read_newick 3 (40 ∷ 40 ∷ 48 ∷ 58 ∷ 49 ∷ 44 ∷ 49 ∷ 58 ∷ 50 ∷ 44 ∷ 50 ∷ 58 ∷ 51 ∷ 41 ∷ 58 ∷ 53 ∷ 41 ∷ 59 ∷ [])).outcome ≡ Refused 12 15
unfolding one two three four five six single outcome_of lowest_from group_of on_from size taxa_of leaves_at edges_at split_made kept_edges places_of strays clusters_of twins missing
rooted_alone = ap (λ r. r.outcome) (sentence_read 3 (group (leaf_then nought one (leaf_then one two (leaf two three))) five) _ [] tt refl)

-- (0:1,1:1,1:0); for 3 taxa
pub repeated : (read_newick 3 (40 ∷ 48 ∷ 58 ∷ 49 ∷ 44 ∷ 49 ∷ 58 ∷ 49 ∷ 44 ∷ 49 ∷ 58 ∷ 48 ∷ 41 ∷ 59 ∷ [])).outcome ≡ Refused 20 9
unfolding one two three four five six single outcome_of lowest_from group_of on_from size taxa_of leaves_at edges_at split_made kept_edges places_of strays clusters_of twins missing
repeated = ap (λ r. r.outcome) (sentence_read 3 (leaf_then nought one (leaf_then one one (leaf one nought))) _ [] tt refl)

-- (0:1,1:1); for 3 taxa
pub lacking : (read_newick 3 (40 ∷ 48 ∷ 58 ∷ 49 ∷ 44 ∷ 49 ∷ 58 ∷ 49 ∷ 41 ∷ 59 ∷ [])).outcome ≡ Refused 20 9
unfolding one two three four five six single outcome_of lowest_from group_of on_from size taxa_of leaves_at edges_at split_made kept_edges places_of strays clusters_of twins missing
lacking = ap (λ r. r.outcome) (sentence_read 3 (leaf_then nought one (leaf one one)) _ [] tt refl)

-- (0:0,(1:2,2:3):4); for 3 taxa: its rows
pub listed : rows_of (read_newick 3 (40 ∷ 48 ∷ 58 ∷ 48 ∷ 44 ∷ 40 ∷ 49 ∷ 58 ∷ 50 ∷ 44 ∷ 50 ∷ 58 ∷ 51 ∷ 41 ∷ 58 ∷ 52 ∷ 41 ∷ 59 ∷ [])).list ≡ row 2 2 ∷ row 4 3 ∷ row 6 4 ∷ []
unfolding one two three four five six single outcome_of lowest_from group_of on_from size taxa_of leaves_at edges_at split_made kept_edges places_of strays clusters_of twins missing list_of filled rows_of insert_row sort_rows
listed = ap (λ r. rows_of r.list) (sentence_read 3 (leaf_then nought nought (group (leaf_then one two (leaf two three)) four)) _ [] tt refl)

-- (0,1:1);: 19 at 2, whatever comes behind it; and no text: 19 at 0
pub weightless : (read_newick 2 (40 ∷ 48 ∷ 44 ∷ 49 ∷ 58 ∷ 49 ∷ 41 ∷ 59 ∷ [])).outcome ≡ Refused 19 2
unfolding read_newick run outcome_of lowest_from
weightless = ap (λ p. (reading_of 2 p).outcome) (parsed_bad (40 ∷ 48 ∷ 44 ∷ 49 ∷ 58 ∷ 49 ∷ 41 ∷ 59 ∷ []) 2 (omega arith) refl)

pub nothing : (read_newick 2 []).outcome ≡ Refused 19 0
unfolding read_newick run outcome_of lowest_from
nothing = ap (λ p. (reading_of 2 p).outcome) (parsed_bad [] 0 (omega arith) refl)
