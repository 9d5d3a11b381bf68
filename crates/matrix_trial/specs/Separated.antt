-- The separated trial of a split c of the first k taxa, over its fours ax|yz, where a, x and y, z are pairs that their groups give: for each z of the
-- other side its reach; then the least over y and z of ay and the reach of z, less yz. What is below zero is raised by a million.
use Rattle.std.specs.Prelude.{ℕ, ◌+◌, ◌≤◌, ◌<◌, ◌≡◌, ◌≢◌, ◌↔◌, List, get_or}
use Rattle.neighbours.specs.Reach.{Own, Reach}

-- s less two million is at most the score of ax|yz, for every x, by the reaches ry and rz
abbrev pub Under : (ℕ → ℕ → ℕ) → ℕ → ℕ → ℕ → ℕ → ℕ → ℕ → Type 0
Under d a y z ry rz s = (s + d z y ≤ d a y + rz + 1000000) × (s + d z y ≤ d a z + ry + 1000000)

-- r is the most of these s
abbrev pub Pairs : (ℕ → ℕ → ℕ) → ℕ → ℕ → ℕ → ℕ → ℕ → ℕ → Type 0
Pairs d a y z ry rz r = (s : ℕ) → (s ≤ r) ↔ Under d a y z ry rz s

-- r is the least of these over the first m listed taxa y
pub record Paired (d : ℕ → ℕ → ℕ) (a z rz : ℕ) (taxa reaches : List ℕ) (m r : ℕ) : Type 0 where
  pub least : (s : ℕ) → (s ≤ r) ↔ ((s ≤ 4000000) × ((j : ℕ) → j < m → Under d a (get_or taxa j 0) z (get_or reaches j 0) rz s))

-- the first m reaches are those of the first m listed taxa
abbrev pub Reached : (ℕ → ℕ → ℕ) → ℕ → ℕ → ℕ → List ℕ → List ℕ → ℕ → Type 0
Reached d k a c taxa reaches m = (j : ℕ) → j < m → Reach d k k a c (get_or taxa j 0) (get_or reaches j 0)

-- t is at most both halves of the score of ax|yz
abbrev pub Halves : (ℕ → ℕ → ℕ) → ℕ → ℕ → ℕ → ℕ → ℕ → Type 0
Halves d a x y z t = (t + d a x + d y z ≤ d a y + d x z) × (t + d a x + d y z ≤ d a z + d x y)

-- and for every x that is a pair with a
abbrev pub AllX : (ℕ → ℕ → ℕ) → ℕ → ℕ → ℕ → ℕ → ℕ → ℕ → Type 0
AllX d k a c y z t = (x : ℕ) → x < k → Own k a c x → Halves d a x y z t

-- of `count` listed taxa, the one at j is a pair with the one at i and stands no later
abbrev pub Paired_up : ℕ → ℕ → ℕ → Type 0
Paired_up count i j = (j ≤ i) × (j ≡ i → count ≡ 1)

-- they are the first m
pub record Partners (count i m : ℕ) : Type 0 where
  pub one : count ≡ 1 → m ≡ i + 1
  pub more : count ≢ 1 → m ≡ i

-- best is the least of w and the scores of the fours ax|yz with z of the first m listed taxa and y a partner of it, as far as it is above zero
pub record Swept (d : ℕ → ℕ → ℕ) (k a c : ℕ) (taxa : List ℕ) (count w m best : ℕ) : Type 0 where
  pub least : (t : ℕ) → 1 ≤ t
      → (t ≤ best) ↔ ((t ≤ w) × ((i j : ℕ) → i < m → Paired_up count i j → AllX d k a c (get_or taxa i 0) (get_or taxa j 0) t))
