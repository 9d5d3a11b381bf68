-- A list that covers k taxa with given rows has these rows. Assumes nothing.
use Prim.Native.Nat.{ℕ, ◌-◌}
use mathlib.Core.Path.{◌≡◌, refl, ◌∙◌, ap, ap₂}
use mathlib.Core.List.{List, [], ◌∷◌}
use lib.ListN.{length, replicate, length-map}
use lib.Seq.{take_at}
use Rattle.statement.specs.Rows.{Row, clusters, weights, rows_from, rows_of, filled, list_of}

zip_parts : (rows : List Row) → rows_from (clusters rows) (weights rows) ≡ rows
zip_parts [] = refl
zip_parts (r ∷ rs) = ap (λ (l : List Row). r ∷ l) (zip_parts rs)

pub rows_of_list : (k : ℕ) (rows : List Row) → rows_of (list_of k rows) ≡ rows
unfolding rows_of list_of filled
rows_of_list k rows =
    ap₂ rows_from (take_at (clusters rows) (replicate (125 - length (clusters rows)) 0) (length rows) (length-map rows (λ r. r.cluster)))
    (take_at (weights rows) (replicate (125 - length (weights rows)) 0) (length rows) (length-map rows (λ r. r.weight)))
    ∙ zip_parts rows
