-- The two sides of a split beside a taxon a: the taxa on the other side listed one by one, and those on a's own side as a number.
use Rattle.std.specs.Prelude.{ℕ, ◌^◌, ◌≤◌, ◌<◌, ◌≡◌, ◌≢◌, cond, List, eqb, get_or}
use Rattle.statement.specs.Cluster.{bit}

-- the first `count` numbers of `taxa` are the taxa, of the first m, that are on the other side than a, ascending
pub record Members (m a c : ℕ) (taxa : List ℕ) (count : ℕ) : Type 0 where
  pub few : count ≤ m
  pub each : (j : ℕ) → j < count → (get_or taxa j 0 < m) × (bit c (get_or taxa j 0) ≢ bit c a)
  pub all : (y : ℕ) → y < m → bit c y ≢ bit c a → (j : ℕ) × (j < count) × (get_or taxa j 0 ≡ y)
  pub up : (i j : ℕ) → i < count → j < i → get_or taxa j 0 < get_or taxa i 0

-- r is the number of the group of the taxa below a that are on a's side
pub record Side (a c r : ℕ) : Type 0 where
  pub below : r < 2 ^ a
  pub has : (u : ℕ) → u < a → bit r u ≡ cond (eqb (bit c u) (bit c a)) 1 0
