-- A tree that passes its checks. Document 01, "Refusal numbers", 9 to 14, read the other way round.
use Rattle.std.specs.Prelude.{ℕ, ◌+◌, ◌*◌, ◌≤◌, ◌<◌, ◌≡◌, ◌≢◌, get_or}
use Rattle.statement.specs.Matrix.{weight_limit}
use Rattle.statement.specs.Tree.{Tree, root, up, walk, cluster_of}

-- some number of steps leads up from a to b
abbrev pub Leads : Tree → ℕ → ℕ → Type 0
Leads t a b = (s : ℕ) × (walk t s a ≡ b)

abbrev pub home_in : Tree → ℕ → ℕ
home_in t taxon = get_or t.homes taxon 0

abbrev pub weight_at : Tree → ℕ → ℕ
weight_at t v = get_or t.weights v 0

-- at most 2n-3 edges; every link and home is a vertex; weights 1 to 2,000,000; every walk reaches the root; taxon 0 is at home there; every edge
-- has a taxon beyond it, and no two have the same taxa
pub record AcceptedTree (n : ℕ) (t : Tree) : Type 0 where
  pub two : 2 ≤ n
  pub few : n ≤ 64
  pub edges : root t + 3 ≤ 2 * n
  pub linked : (v : ℕ) → v < root t → up t v ≤ root t
  pub housed : (taxon : ℕ) → taxon < n → home_in t taxon ≤ root t
  pub weighed : (v : ℕ) → v < root t → (1 ≤ weight_at t v) × (weight_at t v ≤ weight_limit)
  pub rooted : (v : ℕ) → v < root t → Leads t v (root t)
  pub first : home_in t 0 ≡ root t
  pub some : (v : ℕ) → v < root t → cluster_of t v n ≢ 0
  pub apart : (u v : ℕ) → u < root t → v < root t → cluster_of t u n ≡ cluster_of t v n → u ≡ v
