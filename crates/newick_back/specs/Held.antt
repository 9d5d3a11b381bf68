-- THE EDGES OF A TEXT, by its derivation, with the group of the taxa below them, in text order. An edge stands where its weight stands.
use Rattle.std.specs.Prelude.{ℕ, ◌+◌, ◌^◌, cond, List, [], ◌∷◌, ◌++◌, ltb}
use Rattle.statement.specs.Rows.{Row, row}
use Rattle.statement.specs.Sentence.{Children, leaf, group, leaf_then, group_then, value, taxa_of}

-- the number of a group, from its taxa
unfoldable pub mask : List ℕ → ℕ
mask [] = 0
mask (x ∷ xs) = 2 ^ x + mask xs

-- an edge: the group beyond it, and its weight
unfoldable pub rows_below : Children → List Row
rows_below (leaf x w) = row (mask (value x ∷ [])) (value w) ∷ []
rows_below (group f w) = rows_below f ++ (row (mask (taxa_of f)) (value w) ∷ [])
rows_below (leaf_then x w r) = row (mask (value x ∷ [])) (value w) ∷ rows_below r
rows_below (group_then f w r) = (rows_below f ++ (row (mask (taxa_of f)) (value w) ∷ [])) ++ rows_below r

-- those that are not of length 0
unfoldable pub positive : List Row → List Row
positive [] = []
positive (r ∷ rs) = cond (ltb 0 r.weight) (r ∷ positive rs) (positive rs)
