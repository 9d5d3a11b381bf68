-- The same tree in another numbering of its vertices. Document 01, "The tree": a tree is read in any numbering, and written in row order.
use Rattle.std.specs.Prelude.{ℕ, ◌<◌, ◌≡◌, List, eqb, length}
use Rattle.statement.specs.Lowest.{lowest}
use Rattle.statement.specs.Rows.{Row}
use Rattle.statement.specs.Tree.{Tree, root, up, cluster_at, cluster_of}
use Rattle.tree_read.specs.Accepted.{home_in, weight_at}

-- `number` gives each vertex of t its number in t': each number once, the root's to the root; links, weights and homes are carried along
pub record SameTree (n : ℕ) (t t' : Tree) (number : ℕ → ℕ) : Type 0 where
  pub edges : root t' ≡ root t
  pub within : (v : ℕ) → v < root t → number v < root t'
  pub apart : (u v : ℕ) → u < root t → v < root t → number u ≡ number v → u ≡ v
  pub every : (p : ℕ) → p < root t' → (v : ℕ) × (v < root t) × (number v ≡ p)
  pub top : number (root t) ≡ root t'
  pub links : (v : ℕ) → v < root t → up t' (number v) ≡ number (up t v)
  pub weights : (v : ℕ) → v < root t → weight_at t' (number v) ≡ weight_at t v
  pub homes : (taxon : ℕ) → taxon < n → home_in t' taxon ≡ number (home_in t taxon)

-- the row that has a vertex's cluster
abbrev pub row_place : ℕ → Tree → List Row → ℕ → ℕ
row_place n t rows v = lowest (λ p. eqb (cluster_at rows p) (cluster_of t v n)) (length rows)
