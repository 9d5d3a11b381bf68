-- The rows that are marked, as the code looks for them; and the rows as the code sorts them. Assumes nothing.
use Prim.Native.Nat.{ℕ, zero, suc, ◌+◌, ◌-◌, ◌≤◌, ◌<◌}
use native.Mathlib.Omega.{arith}
use mathlib.Core.Path.{◌≡◌, refl, ◌∙◌, ap, ap₂}
use mathlib.Core.Bool.{Bool, true, false, cond, not}
use mathlib.Core.List.{List, [], ◌∷◌, map}
use lib.Dec.{eqb}
use lib.ListN.{length, get_or, replicate, length-map, get_or-append}
use Rattle.statement.specs.Rows.{Row, row, filled}
use Rattle.statement.specs.Tree.{numbers, sort_rows}
use Rattle.row_sort.specs.Sorted.{row_at, sorted_of}
use Rattle.newick_noted.proofs.Taxa.{head_or}
use Rattle.newick_noted.proofs.Play.{Entry}
use Rattle.newick_noted.proofs.Rows.{Held, again, add_to, add_all, pos_by, Placed}
use Rattle.newick_noted.proofs.Once.{many_places}

abbrev pub is_many : ℕ → Bool
is_many x = not (eqb x 0)

abbrev pub PlacedH : List Held → Type 0
PlacedH [] = Unit {0}
PlacedH (r ∷ R) = (0 < r.place) × PlacedH R

placed_add : (R : List Held) (e : Entry) → 0 < e.place → PlacedH R → PlacedH (add_to R e)
unfolding add_to
placed_add [] e l p = (l, tt)
placed_add (r ∷ R) e l p = go (eqb r.cluster e.cluster) (placed_add R e l p.1)
  where
    go : (b : Bool) → PlacedH (add_to R e) → PlacedH (cond b (again r ∷ R) (r ∷ add_to R e))
    go true k = p
    go false k = (p.0, k)

pub placed_all : (es : List Entry) (R : List Held) → Placed es → PlacedH R → PlacedH (add_all R es)
unfolding add_all
placed_all [] R l p = p
placed_all (e ∷ es) R l p = placed_all es (add_to R e) l.1 (placed_add R e l.0 p)

-- some row is marked, or none
pub many_found : (R : List Held) → PlacedH R → pos_by is_many (map (λ r. r.many) R) < length R
    → (get_or (map (λ r. r.place) R) (pos_by is_many (map (λ r. r.many) R)) 0 ≡ head_or 0 (many_places R)) × (head_or 0 (many_places R) ≡ 0 → ⊥)
unfolding head_or
many_found [] p h = absurd (omega arith)
many_found (r ∷ R) p h = go (eqb r.many 0) h (λ k. many_found R p.1 k)
  where
    at : ℕ
    at = pos_by is_many (map (λ r. r.many) R)

    go : (b : Bool) → cond (not b) 0 (suc (pos_by is_many (map (λ r. r.many) R))) < suc (length R)
        → (pos_by is_many (map (λ r. r.many) R) < length R
        → (get_or (map (λ r. r.place) R) (pos_by is_many (map (λ r. r.many) R)) 0 ≡ head_or 0 (many_places R)) × (head_or 0 (many_places R) ≡ 0 → ⊥))
        → (get_or (r.place ∷ map (λ r. r.place) R) (cond (not b) 0 (suc (pos_by is_many (map (λ r. r.many) R)))) 0 ≡ head_or 0 (cond b (many_places R) (r.place ∷ many_places R)))
        × (head_or 0 (cond b (many_places R) (r.place ∷ many_places R)) ≡ 0 → ⊥)
    go true h ih = ih (omega arith)
    go false h ih = (refl, λ e. omega (arith, p.0))

pub many_none : (R : List Held) → length R ≤ pos_by is_many (map (λ r. r.many) R) → many_places R ≡ []
many_none [] h = refl
many_none (r ∷ R) h = go (eqb r.many 0) h (λ k. many_none R k)
  where
    go : (b : Bool) → suc (length R) ≤ cond (not b) 0 (suc (pos_by is_many (map (λ r. r.many) R)))
        → (length R ≤ pos_by is_many (map (λ r. r.many) R) → many_places R ≡ []) → cond b (many_places R) (r.place ∷ many_places R) ≡ []
    go true h ih = ih (omega arith)
    go false h ih = absurd (omega arith)

-- A COLUMN of the table
pub column_at : (g : Held → ℕ) (R : List Held) (i : ℕ) → i < length R → get_or (filled (map g R)) i 0 ≡ get_or (map g R) i 0
unfolding filled
column_at g R i l = get_or-append (map g R) (replicate (125 - length (map g R)) 0) 0 i (omega (arith, length-map R g))

no_row : Held
no_row = record { cluster = 0; weight = 0; place = 0; many = 0 }

get_d_col : (g : Held → ℕ) (R : List Held) (i : ℕ) (d : Held) → i < length R → get_or (map g R) i 0 ≡ g (get_or R i d)
get_d_col g [] i d l = absurd (omega arith)
get_d_col g (r ∷ R) zero d l = refl
get_d_col g (r ∷ R) (suc i) d l = get_d_col g R i d (omega arith)

columns : (g : ℕ → Row) (h : Held → Row) (i : ℕ) (R : List Held) (d : Held) → ((k : ℕ) → k < length R → g (i + k) ≡ h (get_or R k d)) → map g (numbers i (length R)) ≡ map h R
unfolding numbers
columns g h i [] d e = refl
columns g h i (r ∷ R) d e =
    ap₂ (λ (x : Row) (s : List Row). x ∷ s) (ap g (omega arith) ∙ e 0 (omega arith))
    (columns g h (suc i) R d (λ k l. ap g (omega arith) ∙ e (suc k) (omega arith)))

-- THE ROWS of the table
pub rows_of : (R : List Held) → sorted_of (row_at (filled (map (λ r. r.cluster) R)) (filled (map (λ r. r.weight) R))) (length R) ≡ sort_rows (map (λ r. row r.cluster r.weight) R)
unfolding sorted_of
rows_of R =
    ap sort_rows (columns (row_at (filled (map (λ r. r.cluster) R)) (filled (map (λ r. r.weight) R))) (λ r. row r.cluster r.weight) 0 R no_row at)
  where
    at : (k : ℕ) → k < length R
        → row_at (filled (map (λ r. r.cluster) R)) (filled (map (λ r. r.weight) R)) (0 + k) ≡ row (get_or R k no_row).cluster (get_or R k no_row).weight
    at k l =
        let z : 0 + k ≡ k = omega arith in
        ap (row_at (filled (map (λ r. r.cluster) R)) (filled (map (λ r. r.weight) R))) z
        ∙ ap₂ row (column_at (λ r. r.cluster) R k l ∙ get_d_col (λ r. r.cluster) R k no_row l) (column_at (λ r. r.weight) R k l ∙ get_d_col (λ r. r.weight) R k no_row l)
