-- For a taxon a and a split c of the first k taxa: what the taxa x of its side pull, and for a taxon z of the other side the least over x of xz less ax,
-- its reach. What is below zero is raised by a million.
use Rattle.std.specs.Prelude.{ℕ, ◌+◌, ◌≤◌, ◌<◌, ◌≡◌, ◌↔◌, List, get_or}
use Rattle.statement.specs.Cluster.{bit, Pair}

-- a, x is a pair that a's group gives: x is another taxon of it, or a where it is the only one
abbrev pub Own : ℕ → ℕ → ℕ → ℕ → Type 0
Own k a c x = (bit c x ≡ bit c a) × Pair k c a x

-- p is a million less ax where a, x is such a pair; else it is too much for a least
pub record Pull (d : ℕ → ℕ → ℕ) (k a c x p : ℕ) : Type 0 where
  pub on : Own k a c x → p + d a x ≡ 1000000
  pub off : (Own k a c x → ⊥) → p ≡ 3000000

-- for the first m taxa
abbrev pub Pulls : (ℕ → ℕ → ℕ) → ℕ → ℕ → ℕ → ℕ → List ℕ → Type 0
Pulls d k m a c pull = (x : ℕ) → x < m → Pull d k a c x (get_or pull x 0)

-- r is the reach of z by the first m taxa: the least of xz less ax over those x that are a pair with a, raised
pub record Reach (d : ℕ → ℕ → ℕ) (k m a c z r : ℕ) : Type 0 where
  pub least : (s : ℕ) → (s ≤ r) ↔ ((s ≤ 2000000) × ((x : ℕ) → x < m → Own k a c x → s + d a x ≤ d x z + 1000000))
