-- Laws of a list and its rows: a row pushed, the rows of the list made of them, and the rows read one after the other. Assumes nothing.
use Prim.Native.Nat.{ℕ, suc, ◌+◌, ◌-◌, ◌≤◌, ◌<◌}
use native.Mathlib.Omega.{arith}
use mathlib.Core.Path.{◌≡◌, refl, sym, ◌∙◌, ap, ap₂}
use mathlib.Core.List.{List, [], ◌∷◌, ◌++◌, map, append_assoc, append-nil, map-append}
use lib.ListN.{length, get_or, drop, set, replicate, length-append, length-map, drop_of_length-le, get_or-map}
use lib.Seq.{set_at, drop-cons}
use Rattle.statement.specs.declared.Splits.{Splits}
use Rattle.statement.specs.Rows.{Row, row, clusters, weights, rows_of, filled, list_of}
pub use Rattle.statement.proofs.WellFormed.{Roomy, rows_length}
use Rattle.statement.proofs.WellFormed.{clusters_front, weights_front}
use Rattle.splits_list.specs.Pushed.{pushed, appended}

-- a store at the first spare place is one row more
filled_set : (f : Row → ℕ) (rows : List Row) (r : Row) → length rows < 125 → set (filled (map f rows)) (length rows) (f r) ≡ filled (map f (rows ++ (r ∷ [])))
unfolding filled
filled_set f rows r h =
    let xs = map f rows in
    let spare = 125 - length (xs ++ (f r ∷ [])) in
    let more : 125 - length xs ≡ suc spare = omega (arith, length-append xs (f r ∷ []), length-map rows f) in
    ap (λ (m : ℕ). set (xs ++ replicate m 0) (length rows) (f r)) more
    ∙ set_at xs 0 (replicate spare 0) (f r) (length rows) (length-map rows f)
    ∙ sym (append_assoc xs (f r ∷ []) (replicate spare 0))
    ∙ ap (λ (ys : List ℕ). ys ++ replicate (125 - length ys) 0) (sym (map-append f rows (r ∷ [])))

pub pushed_list_of : (k : ℕ) (rows : List Row) (c w : ℕ) → length rows < 125 → pushed (list_of k rows) c w ≡ list_of k (rows ++ (row c w ∷ []))
unfolding list_of
pushed_list_of k rows c w h = λ i. record {
  taxa = k;
  rows = sym (length-append rows (row c w ∷ [])) i;
  clusters = filled_set (λ r. r.cluster) rows (row c w) h i;
  weights = filled_set (λ r. r.weight) rows (row c w) h i;
}

-- ROWS READ one after the other, of a list in its room
module _ (s : Splits) (room : Roomy s) (i : ℕ) (l : i < s.rows) where
  pub cluster_at_law : get_or (clusters (rows_of s)) i 0 ≡ get_or s.clusters i 0
  cluster_at_law = (clusters_front s room).at i l

  pub weight_at_law : get_or (weights (rows_of s)) i 0 ≡ get_or s.weights i 0
  weight_at_law = (weights_front s room).at i l

  pub rows_at : drop i (rows_of s) ≡ row (get_or s.clusters i 0) (get_or s.weights i 0) ∷ drop (suc i) (rows_of s)
  rows_at =
      drop-cons (rows_of s) i (row 0 0) (omega (arith, rows_length s room))
      ∙ ap₂ (λ (c w : ℕ). row c w ∷ drop (suc i) (rows_of s))
      (sym (get_or-map (λ r. r.cluster) (rows_of s) i (row 0 0)) ∙ cluster_at_law)
      (sym (get_or-map (λ r. r.weight) (rows_of s) i (row 0 0)) ∙ weight_at_law)

pub rows_end : (s : Splits) → Roomy s → drop s.rows (rows_of s) ≡ []
rows_end s room = drop_of_length-le (rows_of s) {i = s.rows} (omega (arith, rows_length s room))

-- rows pushed after others
pub appended_append : (s : Splits) (xs ys : List Row) → appended s (xs ++ ys) ≡ appended (appended s xs) ys
appended_append s [] ys = refl
appended_append s (x ∷ xs) ys = appended_append (pushed s x.cluster x.weight) xs ys

pub appended_rows : (s : Splits) (xs : List Row) → (appended s xs).rows ≡ s.rows + length xs
appended_rows s [] = omega arith
appended_rows s (x ∷ xs) = omega (arith, appended_rows (pushed s x.cluster x.weight) xs)

pub appended_list : (k : ℕ) (xs ys : List Row) → length xs + length ys ≤ 125 → appended (list_of k xs) ys ≡ list_of k (xs ++ ys)
appended_list k xs [] h = ap (list_of k) (sym (append-nil xs))
appended_list k xs (y ∷ ys) h =
    ap (λ (s : Splits). appended s ys) (pushed_list_of k xs y.cluster y.weight (omega arith))
    ∙ appended_list k (xs ++ (y ∷ [])) ys (omega (arith, length-append xs (y ∷ []))) ∙ ap (list_of k) (append_assoc xs (y ∷ []) ys)
