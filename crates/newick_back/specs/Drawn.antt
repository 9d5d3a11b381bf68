-- WHAT THE WRITER'S TEXT HOLDS, by the tree: the taxa at and below a vertex, and the edges between its brackets, both in text order.
use Rattle.std.specs.Prelude.{ℕ, zero, suc, cond, List, [], ◌∷◌, ◌++◌}
use Rattle.statement.specs.Rows.{Row, row}
use Rattle.statement.specs.NewickText.{Shape, homed, children, unbracketed}
use Rattle.newick_back.specs.Held.{mask}

-- lists one after the other
unfoldable pub gathered : {A : Type 0} → (ℕ → List A) → List ℕ → List A
gathered f [] = []
gathered f (x ∷ xs) = f x ++ gathered f xs

-- a list at each vertex from those at its children, whose numbers are lower: so many deep; one more than its own number is enough
unfoldable pub deep : {A : Type 0} → ((ℕ → List A) → ℕ → List A) → ℕ → ℕ → List A
deep step zero v = []
deep step (suc k) v = step (deep step k) v

unfoldable pub at_vertex : {A : Type 0} → ((ℕ → List A) → ℕ → List A) → ℕ → List A
at_vertex step v = deep step (suc v) v

-- the taxa at a vertex and below it
abbrev pub taxa_step : Shape → (ℕ → List ℕ) → ℕ → List ℕ
taxa_step t g v = homed t v ++ gathered g (children t v)

abbrev pub taxa_in : Shape → ℕ → List ℕ
taxa_in t v = at_vertex (taxa_step t) v

-- the edge above a vertex, and that of a leaf of length 0
abbrev pub edge_at : Shape → ℕ → Row
edge_at t c = row (mask (taxa_in t c)) (t.weight c)

abbrev pub leaf_edge : ℕ → Row
leaf_edge i = row (mask (i ∷ [])) 0

-- the edges between the brackets of a vertex; one without brackets has none
abbrev pub edges_step : Shape → (ℕ → List Row) → ℕ → List Row
edges_step t g v =
    cond (unbracketed t v) [] (gathered (λ i. leaf_edge i ∷ []) (homed t v) ++ gathered (λ c. g c ++ (edge_at t c ∷ [])) (children t v))

abbrev pub edges_in : Shape → ℕ → List Row
edges_in t v = at_vertex (edges_step t) v
