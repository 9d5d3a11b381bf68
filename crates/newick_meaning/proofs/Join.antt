-- THE CHILDREN OF TWO VERTICES TOGETHER have the taxa of both. Assumes nothing.
use Prim.Native.Nat.{ℕ}
use mathlib.Core.Path.{◌≡◌, refl, sym, ◌∙◌, ap}
use mathlib.Core.List.{List, ◌∷◌, ◌++◌, append_assoc}
use Rattle.statement.specs.Sentence.{Children, leaf, group, leaf_then, group_then, value, taxa_of}
use Rattle.statement.specs.Moves.{join}

pub join_taxa : (f g : Children) → taxa_of (join f g) ≡ taxa_of f ++ taxa_of g
unfolding join taxa_of
join_taxa (leaf x w) g = refl
join_taxa (group f w) g = refl
join_taxa (leaf_then x w r) g = ap (λ (l : List ℕ). value x ∷ l) (join_taxa r g)
join_taxa (group_then f w r) g = ap (λ (l : List ℕ). taxa_of f ++ l) (join_taxa r g) ∙ sym (append_assoc (taxa_of f) (taxa_of r) (taxa_of g))
