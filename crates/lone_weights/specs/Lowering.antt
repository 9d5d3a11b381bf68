-- How a kept weight is lowered: by the scores of vv|yz, with z given, over one row of taxa y. What is below zero is raised by a million.
use Rattle.std.specs.Prelude.{ℕ, ◌+◌, ◌≤◌, ◌<◌, ◌≡◌, ◌≢◌, ◌↔◌}
use Rattle.statement.specs.Matrix.{weight_limit}

-- p is vy less zy; where y is v it is too much for a least
pub record Term (d : ℕ → ℕ → ℕ) (v z y p : ℕ) : Type 0 where
  pub on : y ≢ v → p + d z y ≡ d v y + 1000000
  pub off : y ≡ v → p ≡ 3000000

-- r is the least of these over the first m taxa y
pub record Row (d : ℕ → ℕ → ℕ) (v z m r : ℕ) : Type 0 where
  pub least : (s : ℕ) → (s ≤ r) ↔ ((s ≤ 3000000) × ((y : ℕ) → y < m → y ≢ v → s + d z y ≤ d v y + 1000000))

-- t is at most the scores of vv|yz for the first m taxa y but v
abbrev pub Beside : (ℕ → ℕ → ℕ) → ℕ → ℕ → ℕ → ℕ → Type 0
Beside d v z m t = (y : ℕ) → y < m → y ≢ v → t + d z y ≤ d v y + d v z

-- r is the weight `best` lowered by them
pub record Lowered (d : ℕ → ℕ → ℕ) (v z m best r : ℕ) : Type 0 where
  pub least : (t : ℕ) → 1 ≤ t → (t ≤ r) ↔ ((t ≤ best) × Beside d v z m t)

-- best is the most that a split can weigh, lowered by the scores of jj|yz for y below z, for the first m taxa z
pub record Begun (d : ℕ → ℕ → ℕ) (j m best : ℕ) : Type 0 where
  pub least : (t : ℕ) → 1 ≤ t → (t ≤ best) ↔ ((t ≤ weight_limit) × ((z : ℕ) → z < m → Beside d j z z t))
