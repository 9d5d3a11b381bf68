-- Rows and lists of splits. Document 01, "Scores and splits": Row; "Growing and the allowance": the list's fixed room, well-formed.
use Rattle.std.specs.Prelude.{ℕ, suc, ◌*◌, ◌-◌, ◌^◌, ◌≤◌, ◌≡◌, ◌⊎◌, ◌↔◌, Bool, cond, not, ◌&&◌, ◌||◌, List, [], ◌∷◌, ◌++◌, map, ltb, leb, eqb, length, take, get_or, replicate}
use Rattle.statement.specs.declared.Splits.{Splits}
use Rattle.statement.specs.Cluster.{bit, Out, Conflict}
use Rattle.statement.specs.Lowest.{somewhere, nowhere}

-- Row: a cluster with its weight
pub record Row : Type 0 where
  pub cluster : ℕ
  pub weight : ℕ

abbrev pub row : ℕ → ℕ → Row
row c w = record { cluster = c; weight = w }

abbrev pub clusters : List Row → List ℕ
clusters rows = map (λ r. r.cluster) rows

abbrev pub weights : List Row → List ℕ
weights rows = map (λ r. r.weight) rows

-- the number c is one of a list
abbrev pub Mem : ℕ → List ℕ → Type 0
Mem c [] = ⊥
Mem c (x ∷ xs) = (c ≡ x) ⊎ Mem c xs

-- some row has the cluster c
abbrev pub Listed : ℕ → List Row → Type 0
Listed c rows = Mem c (clusters rows)

-- its weight; 0 where there is none
abbrev pub weight_in : List Row → ℕ → ℕ
weight_in [] c = 0
weight_in (r ∷ rs) c = cond (eqb r.cluster c) r.weight (weight_in rs c)

-- strictly ascending, from low on and below high
abbrev pub Ascending : ℕ → ℕ → List ℕ → Type 0
Ascending low high [] = low ≤ high
Ascending low high (x ∷ xs) = (low ≤ x) × Ascending (suc x) high xs

-- THE FULL ANSWER for the first k taxa: ascending rows (so each once), which hold each supported split and no other, with its weight
pub record FullAnswer (Supported : ℕ → Type 0) (Weighs : ℕ → ℕ → Type 0) (k : ℕ) (rows : List Row) : Type 0 where
  pub up : Ascending 1 (2 ^ k) (clusters rows)
  pub exact : (c : ℕ) → Listed c rows ↔ Supported c
  pub weigh : (c : ℕ) → Listed c rows → Weighs c (weight_in rows c)

-- THE LIST, with its fixed room of 125 rows

-- a list from its four parts
abbrev pub list_in : ℕ → ℕ → List ℕ → List ℕ → Splits
list_in taxa rows clusters weights = record { taxa = taxa; rows = rows; clusters = clusters; weights = weights }

-- two lists of numbers as rows
abbrev pub rows_from : List ℕ → List ℕ → List Row
rows_from [] ws = []
rows_from (c ∷ cs) [] = []
rows_from (c ∷ cs) (w ∷ ws) = row c w ∷ rows_from cs ws

-- the rows of a list; spare rows aren't looked at
unfoldable pub rows_of : Splits → List Row
rows_of s = rows_from (take s.rows s.clusters) (take s.rows s.weights)

-- filled up with zeros to 125 places
unfoldable pub filled : List ℕ → List ℕ
filled xs = xs ++ replicate (125 - length xs) 0

-- the list that covers k taxa with these rows, its spare rows zero
unfoldable pub list_of : ℕ → List Row → Splits
list_of k rows = record { taxa = k; rows = length rows; clusters = filled (clusters rows); weights = filled (weights rows) }

-- two lists are the same when k, the row count and the rows are
pub record Same (s t : Splits) : Type 0 where
  pub taxa : s.taxa ≡ t.taxa
  pub count : s.rows ≡ t.rows
  pub rows : rows_of s ≡ rows_of t

-- WELL-FORMED, for weights up to most: 1 ≤ k ≤ n; at most 2k-3 rows (none for k = 1); ascending clusters, non-empty, without taxon 0,
-- within the first k taxa; weight 1 to most; no conflict
pub record WellFormed (most n : ℕ) (s : Splits) : Type 0 where
  pub one : 1 ≤ s.taxa
  pub taxa : s.taxa ≤ n
  pub few : s.rows ≤ 2 * s.taxa - 3
  pub up : Ascending 1 (2 ^ s.taxa) (clusters (rows_of s))
  pub free : (c : ℕ) → Listed c (rows_of s) → Out c 0
  pub weigh : (w : ℕ) → Mem w (weights (rows_of s)) → (1 ≤ w) × (w ≤ most)
  pub clean : (a b : ℕ) → Listed a (rows_of s) → Listed b (rows_of s) → Conflict s.taxa a b → ⊥

-- the same as a test. Some taxon below k is in a or out of it as p says, and in b or out of it as q says
abbrev pub meets : ℕ → ℕ → ℕ → ℕ → ℕ → Bool
meets k a p b q = somewhere (λ i. eqb (bit a i) p && eqb (bit b i) q) k

unfoldable pub conflicts : ℕ → ℕ → ℕ → Bool
conflicts k a b = meets k a 1 b 1 && meets k a 1 b 0 && meets k a 0 b 1 && meets k a 0 b 0

-- the row c, w by itself, in a list over k taxa
unfoldable pub fits : ℕ → ℕ → ℕ → ℕ → Bool
fits most k c w = ltb 0 c && ltb c (2 ^ k) && eqb (bit c 0) 0 && ltb 0 w && leb w most

-- row i against row j before it: not above it, or in conflict with it
unfoldable pub clashes : ℕ → List ℕ → ℕ → ℕ → Bool
clashes k cs i j = leb (get_or cs i 0) (get_or cs j 0) || conflicts k (get_or cs j 0) (get_or cs i 0)

unfoldable pub bad_row : ℕ → Splits → ℕ → Bool
bad_row most s i = not (fits most s.taxa (get_or s.clusters i 0) (get_or s.weights i 0)) || somewhere (clashes s.taxa s.clusters i) i

unfoldable pub well_formed : ℕ → ℕ → Splits → Bool
well_formed most n s = leb 1 s.taxa && leb s.taxa n && leb s.rows (2 * s.taxa - 3) && nowhere (bad_row most s) s.rows
