-- The nearest neighbour, and a trial that some four fails.
use Rattle.std.specs.Prelude.{ℕ, ◌≤◌, ◌<◌, ◌≢◌, List, get_or, pos, ◌≤ℤ◌}
use Rattle.statement.specs.Cluster.{bit, Pair}
use Rattle.statement.specs.Matrix.{score}
use Rattle.statement.proofs.Parts.{Parted}

-- r is the nearest to k of the first m taxa, the lowest of several
pub record Nearest (d : ℕ → ℕ → ℕ) (k m r : ℕ) : Type 0 where
  pub below : r < m
  pub least : (i : ℕ) → i < m → d k r ≤ d k i
  pub lowest : (i : ℕ) → i < r → d k r < d k i

-- the first m listed taxa are on the other side than a
abbrev pub Others : ℕ → ℕ → ℕ → List ℕ → ℕ → Type 0
Others k a c taxa m = (j : ℕ) → j < m → (get_or taxa j 0 < k) × (bit c (get_or taxa j 0) ≢ bit c a)

-- not every score of a four ax|yz is above zero
abbrev pub Fails : (ℕ → ℕ → ℕ) → ℕ → ℕ → ℕ → Type 0
Fails d k a c = ((x y z : ℕ) → x < k → y < k → z < k → Parted c a x y z → Pair k c a x → Pair k c y z → pos 1 ≤ℤ score d a x y z) → ⊥
