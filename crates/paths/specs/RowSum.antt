-- Path sums by rows: the edges on the path between two taxa are the rows that part them.
use Rattle.std.specs.Prelude.{ℕ, ◌+◌, ◌*◌, ◌≤◌, ◌<◌, ◌≡◌, cond, List, [], ◌∷◌, eqb, length, get_or}
use Rattle.statement.specs.Cluster.{bit}
use Rattle.statement.specs.Rows.{Row}

-- what each row adds, added up
unfoldable pub sum_over : (Row → ℕ) → List Row → ℕ
sum_over f [] = 0
sum_over f (r ∷ rs) = f r + sum_over f rs

-- a row's weight, where its cluster holds exactly one of the taxa i and j
abbrev pub parting : ℕ → ℕ → Row → ℕ
parting i j r = cond (eqb (bit r.cluster i) (bit r.cluster j)) 0 r.weight

abbrev pub row_sum : List Row → ℕ → ℕ → ℕ
row_sum rows i j = sum_over (parting i j) rows

-- PATH SUMS of n taxa, n by n: that of two taxa sums the rows that part them, is the same both ways, and never above 250,000,000; a taxon has
-- no path to itself
pub record PathSums (n : ℕ) (rows : List Row) (sums : List ℕ) : Type 0 where
  pub size : length sums ≡ n * n
  pub by_rows : (i j : ℕ) → i < n → j < n → get_or sums (i * n + j) 0 ≡ row_sum rows i j
  pub same : (i j : ℕ) → i < n → j < n → get_or sums (i * n + j) 0 ≡ get_or sums (j * n + i) 0
  pub none : (i : ℕ) → i < n → get_or sums (i * n + i) 0 ≡ 0
  pub small : (i j : ℕ) → i < n → j < n → get_or sums (i * n + j) 0 ≤ 250000000
