-- What the loops of the writer speak of: rows by the array that holds their clusters, and the vertices as a body lists them.
use Rattle.std.specs.Prelude.{ℕ, ◌<◌, ◌≡◌, List, ◌++◌, length, get_or}
use Rattle.statement.specs.Rows.{Row}
use Rattle.statement.specs.Tree.{Tree, cluster_at}

-- the rows are m, and have the first m numbers of an array as their clusters
pub record ClustersOf (rows : List Row) (cs : List ℕ) (m : ℕ) : Type 0 where
  pub count : length rows ≡ m
  pub at : (j : ℕ) → j < m → cluster_at rows j ≡ get_or cs j 0

-- m links, then n homes
abbrev pub vertices : Tree → List ℕ
vertices t = t.links ++ t.homes
