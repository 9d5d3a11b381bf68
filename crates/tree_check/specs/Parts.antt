-- What the checks before the clusters look at: a tree's parts, each by itself.
use Rattle.std.specs.Prelude.{ℕ, Bool, ◌||◌, List, [], ◌∷◌, ltb, eqb, length, get_or}
use Rattle.statement.specs.Matrix.{weight_limit}
use Rattle.statement.specs.Tree.{Tree}
use Rattle.statement.specs.Bytes.{tree_in}
use Rattle.statement.specs.Refusals.{Check, taxa_off, length_off, tree_fits, tree_off, weight_off, walk_off, home_off}

-- the tree with these links and homes, for what does not ask about weights
abbrev pub placed : List ℕ → List ℕ → Tree
placed links homes = record { links = links; homes = homes; weights = [] }

-- and with these links, for what asks about walks only
abbrev pub linked : List ℕ → Tree
linked links = placed links []

-- the weight at v is 0 or above 2,000,000
abbrev pub bad_weight : List ℕ → ℕ → Bool
bad_weight weights v = eqb (get_or weights v 0) 0 || ltb weight_limit (get_or weights v 0)

-- the checks of a tree's body that need no clusters, in document 01's order: 1, 2, 9, 14, 10, 11
abbrev pub first_checks : ℕ → List ℕ → List Check
first_checks n body =
    let t = tree_in n body in
    taxa_off n ∷ length_off (tree_fits n (length body)) ∷ tree_off n body ∷ weight_off t ∷ walk_off t ∷ home_off t ∷ []
