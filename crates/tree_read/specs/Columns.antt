-- The clusters of a tree's edges, a taxon at a time, and their weights.
use Rattle.std.specs.Prelude.{ℕ, Bool, ◌+◌, ◌<◌, ◌≡◌, cond, not, ◌&&◌, List, [], ◌∷◌, eqb, length, get_or}
use Rattle.statement.specs.Bytes.{from_bytes}
use Rattle.statement.specs.Lowest.{somewhere}
use Rattle.statement.specs.Refusals.{Check}
use Rattle.statement.specs.Tree.{walk, cluster_of}
use Rattle.tree_check.specs.Parts.{linked, placed}

-- b is added at each vertex among the first so many places of the walk up from home
pub record Marked (links : List ℕ) (home b places : ℕ) (before after : List ℕ) : Type 0 where
  pub long : length after ≡ 125
  pub each : (v : ℕ) → v < length links
      → get_or after v 0 ≡ get_or before v 0 + cond (somewhere (λ s. eqb (walk (linked links) s home) v) places) b 0

-- the clusters of the edges
pub record Clusters (links homes clusters : List ℕ) : Type 0 where
  pub long : length clusters ≡ 125
  pub each : (v : ℕ) → v < length links → get_or clusters v 0 ≡ cluster_of (placed links homes) v (length homes)

-- the weights of m edges
abbrev pub Weights : List ℕ → ℕ → List ℕ → Type 0
Weights bytes m weights = (v : ℕ) → v < m → get_or weights v 0 ≡ get_or (from_bytes bytes) v 0

-- of the clusters of the edges, another one is that of v
abbrev pub twinned : List ℕ → ℕ → Bool
twinned cs v = somewhere (λ w. not (eqb v w) && eqb (get_or cs v 0) (get_or cs w 0)) (length cs)

-- the checks 12 and 13 of them
abbrev pub cluster_checks : List ℕ → List Check
cluster_checks cs =
    record { number = 12; places = length cs; bad = λ v. eqb (get_or cs v 0) 0 } ∷ record { number = 13; places = length cs; bad = twinned cs } ∷ []
