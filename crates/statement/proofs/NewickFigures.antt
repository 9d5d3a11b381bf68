-- WORKED TEXTS, each way to write a vertex. Document 02, §2. Assumes nothing.
use mathlib.Core.Path.{◌≡◌, refl}
use mathlib.Core.List.{[], ◌∷◌}
use Rattle.statement.specs.Lowest.{lowest_from}
use Rattle.statement.specs.Rows.{row}
use Rattle.statement.specs.Tree.{link_of, home_of}
use Rattle.statement.specs.Decimal.{decimal}
use Rattle.statement.specs.NewickText.{those_from, led, vertex_in, vertex_text, newick_of}

-- (0:0,1:0); : no row: every taxon is at home at the root
pub nothing_listed : newick_of 2 ([]) ≡ 40 ∷ 48 ∷ 58 ∷ 48 ∷ 44 ∷ 49 ∷ 58 ∷ 48 ∷ 41 ∷ 59 ∷ []
unfolding newick_of vertex_text vertex_in led those_from link_of home_of lowest_from decimal
nothing_listed = refl

-- (0:0,(1:5,2:70):12); : two bare leaves in brackets
pub two_leaves : newick_of 3 (row 2 5 ∷ row 4 70 ∷ row 6 12 ∷ []) ≡ 40 ∷ 48 ∷ 58 ∷ 48 ∷ 44 ∷ 40 ∷ 49 ∷ 58 ∷ 53 ∷ 44 ∷ 50 ∷ 58 ∷ 55 ∷ 48 ∷ 41 ∷ 58 ∷ 49 ∷ 50 ∷ 41 ∷ 59 ∷ []
unfolding newick_of vertex_text vertex_in led those_from link_of home_of lowest_from decimal
two_leaves = refl

-- (0:0,3:0,(1:0,2:0):5); : a childless vertex with two taxa has brackets
pub shared_home : newick_of 4 (row 6 5 ∷ []) ≡ 40 ∷ 48 ∷ 58 ∷ 48 ∷ 44 ∷ 51 ∷ 58 ∷ 48 ∷ 44 ∷ 40 ∷ 49 ∷ 58 ∷ 48 ∷ 44 ∷ 50 ∷ 58 ∷ 48 ∷ 41 ∷ 58 ∷ 53 ∷ 41 ∷ 59 ∷ []
unfolding newick_of vertex_text vertex_in led those_from link_of home_of lowest_from decimal
shared_home = refl

-- (0:0,(2:0,1:3):4); : a vertex's own taxon comes before its child
pub taxon_and_child : newick_of 3 (row 2 3 ∷ row 6 4 ∷ []) ≡ 40 ∷ 48 ∷ 58 ∷ 48 ∷ 44 ∷ 40 ∷ 50 ∷ 58 ∷ 48 ∷ 44 ∷ 49 ∷ 58 ∷ 51 ∷ 41 ∷ 58 ∷ 52 ∷ 41 ∷ 59 ∷ []
unfolding newick_of vertex_text vertex_in led those_from link_of home_of lowest_from decimal
taxon_and_child = refl
