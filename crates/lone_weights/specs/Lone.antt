-- The kept weights of the splits of one taxon by itself, one for each of the first k taxa.
use Rattle.std.specs.Prelude.{ℕ, ◌≤◌, ◌<◌, ◌≢◌, ◌↔◌, List, get_or, pos, ◌≤ℤ◌}
use Rattle.statement.specs.Matrix.{score, weight_limit}

-- t is at most each score of vv|yz, for two other taxa y and z of the first k
abbrev pub Scores : (ℕ → ℕ → ℕ) → ℕ → ℕ → ℕ → Type 0
Scores d k v t = (y z : ℕ) → y < k → z < k → y ≢ v → z ≢ v → y ≢ z → pos t ≤ℤ score d v v y z

-- r is the lesser of the most that a split can weigh and these scores; 0 where one of them is not above zero
pub record Lone (d : ℕ → ℕ → ℕ) (k v r : ℕ) : Type 0 where
  pub least : (t : ℕ) → 1 ≤ t → (t ≤ r) ↔ ((t ≤ weight_limit) × Scores d k v t)

-- the first m numbers are those of the first m taxa
abbrev pub Kept : (ℕ → ℕ → ℕ) → ℕ → ℕ → List ℕ → Type 0
Kept d k m xs = (v : ℕ) → v < m → Lone d k v (get_or xs v 0)
