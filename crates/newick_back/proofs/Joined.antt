-- Derivations one after the other. Assumes nothing.
use Prim.Native.Nat.{ℕ, zero, suc, ◌≤◌}
use native.Mathlib.Decide.{le_ind}
use mathlib.Core.Path.{◌≡◌, refl, sym, ◌∙◌, ap}
use mathlib.Core.List.{List, [], ◌∷◌, ◌++◌, append_assoc}
use Rattle.statement.specs.Rows.{Row, row}
use Rattle.statement.specs.Sentence.{Children, leaf, group, leaf_then, group_then, numeral_text, children_text, Fits, value}
use Rattle.statement.specs.Moves.{join}
use Rattle.newick_back.specs.Held.{mask, rows_below}

pub join_text : (f g : Children) (s : List ℕ) → children_text (join f g) s ≡ children_text f (44 ∷ children_text g s)
unfolding join
join_text (leaf x w) g s = refl
join_text (group f w) g s = refl
join_text (leaf_then x w r) g s = ap (λ (u : List ℕ). numeral_text x (58 ∷ numeral_text w (44 ∷ u))) (join_text r g s)
join_text (group_then f w r) g s = ap (λ (u : List ℕ). 40 ∷ children_text f (41 ∷ 58 ∷ numeral_text w (44 ∷ u))) (join_text r g s)

pub join_fits : (f g : Children) (l : ℕ) → Fits f l → Fits g l → Fits (join f g) l
unfolding join
join_fits (leaf x w) g l h k = k
join_fits (group f w) g zero h k = absurd h
join_fits (group f w) g (suc l) h k = (h, k)
join_fits (leaf_then x w r) g l h k = join_fits r g l h k
join_fits (group_then f w r) g zero h k = absurd h
join_fits (group_then f w r) g (suc l) h k = (h.0, join_fits r g (suc l) h.1 k)

fits_suc : (f : Children) (l : ℕ) → Fits f l → Fits f (suc l)
fits_suc (leaf x w) l h = tt
fits_suc (group f w) zero h = absurd h
fits_suc (group f w) (suc l) h = fits_suc f l h
fits_suc (leaf_then x w r) l h = fits_suc r l h
fits_suc (group_then f w r) zero h = absurd h
fits_suc (group_then f w r) (suc l) h = (fits_suc f l h.0, fits_suc r (suc l) h.1)

pub fits_more : (f : Children) (l m : ℕ) → l ≤ m → Fits f l → Fits f m
fits_more f l m h k = le_ind (λ (n : ℕ). Fits f n) k (λ n _ e. fits_suc f n e) m h

pub join_edges : (f g : Children) → rows_below (join f g) ≡ rows_below f ++ rows_below g
unfolding join rows_below
join_edges (leaf x w) g = refl
join_edges (group f w) g = refl
join_edges (leaf_then x w r) g = ap (λ (l : List Row). row (mask (value x ∷ [])) (value w) ∷ l) (join_edges r g)
join_edges (group_then f w r) g = ap (λ (l : List Row). rows_below (group f w) ++ l) (join_edges r g) ∙ sym (append_assoc (rows_below (group f w)) (rows_below r) (rows_below g))
