-- The arrays that hold a list's tree while its text is written.
use Rattle.std.specs.Prelude.{ℕ, ◌<◌, ◌≡◌, List, get_or}
use Rattle.statement.specs.declared.Splits.{Splits}
use Rattle.statement.specs.Rows.{Row}
use Rattle.statement.specs.Tree.{link_of, home_of}
use Rattle.tree_write.specs.Vertices.{ClustersOf}

-- the links and the homes of the list s
pub record Linked (n : ℕ) (s : Splits) (ls hs : List ℕ) : Type 0 where
  pub links : (rows : List Row) → ClustersOf rows s.clusters s.rows → (j : ℕ) → j < s.rows → get_or ls j 0 ≡ link_of n rows j
  pub homes : (rows : List Row) → ClustersOf rows s.clusters s.rows → (j : ℕ) → j < n → get_or hs j 0 ≡ home_of rows j
