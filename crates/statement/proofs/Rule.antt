-- A rule scores the pairings wx|yz of taxa below n, and says which are asked. Two instances: the matrix and the table. Assumes nothing.
use Prim.Native.Nat.{ℕ, suc, ◌%◌, ◌^◌, ◌≤◌, ◌<◌}
use mathlib.Core.Path.{◌≡◌}
use mathlib.Core.Logic.{◌≢◌, ◌⊎◌, ◌↔◌}
use mathlib.Core.Bool.{Bool, false}
use lib.Dec.{T}
use lib.IntN.{ℤ, pos}
use lib.Signed.{◌≤ℤ◌}
use Rattle.statement.specs.Cluster.{bit, In, Out, Split}

pub record Distinct (w x y z : ℕ) : Type 0 where
  pub wx : w ≢ x
  pub wy : w ≢ y
  pub wz : w ≢ z
  pub xy : x ≢ y
  pub xz : x ≢ z
  pub yz : y ≢ z

-- A split of the first k taxa is its number c. `asked k c u u' v v'`: whether uu'|vv' is one of its fours; `cap k c`: the most that it can weigh;
-- `anew k p`: whether what grows from p is weighed over all its fours, whatever p weighed (document 01: never)
pub record Rule : Type 1 where
  pub taxa : ℕ
  pub score : ℕ → ℕ → ℕ → ℕ → ℤ
  pub asked : ℕ → ℕ → ℕ → ℕ → ℕ → ℕ → Type 0
  pub cap : ℕ → ℕ → ℕ
  pub anew : ℕ → ℕ → Bool

-- the pairing wx|yz, where the split c of k taxa asks it, scores t or more; above zero is t = 1
abbrev pub Ok : Rule → ℕ → ℕ → ℕ → ℕ → ℕ → ℕ → ℕ → Type 0
Ok r t k c w x y z = r.asked k c w x y z → pos t ≤ℤ r.score w x y z

-- CARRIED: the extension c over k + 1 taxa asks, without the newcomer, what its parent c % 2 ^ k asked, under the same cap
pub record Carried (r : Rule) (k c : ℕ) : Type 0 where
  pub same : (w x y z : ℕ) → w < k → x < k → y < k → z < k → r.asked k (c % 2 ^ k) w x y z ↔ r.asked (suc k) c w x y z
  pub cap : r.cap k (c % 2 ^ k) ≡ r.cap (suc k) c

-- what is asked of a rule's numbers, for taxa below n: order within a pair and of the pairs is nothing, four different taxa are always asked,
-- of their three pairings at most one is above zero, and what is not weighed anew is carried
pub record Laws (r : Rule) : Type 0 where
  pub swap : (k c w x y z : ℕ) → w < r.taxa → x < r.taxa → y < r.taxa → z < r.taxa → r.asked k c w x y z → r.asked k c x w y z × (r.score x w y z ≡ r.score w x y z)
  pub flip : (k c w x y z : ℕ) → w < r.taxa → x < r.taxa → y < r.taxa → z < r.taxa → r.asked k c w x y z → r.asked k c y z w x × (r.score y z w x ≡ r.score w x y z)
  pub all : (k c w x y z : ℕ) → Distinct w x y z → r.asked k c w x y z
  pub one : (w x y z : ℕ) → w < r.taxa → x < r.taxa → y < r.taxa → z < r.taxa → Distinct w x y z → pos 1 ≤ℤ r.score w x y z → pos 1 ≤ℤ r.score w y x z → ⊥
  pub cap : (k c : ℕ) → 1 ≤ r.cap k c
  pub carried : (k c : ℕ) → 0 < k → Split k (c % 2 ^ k) → r.anew k (c % 2 ^ k) ≡ false → Carried r k c

-- every asked four uu'|vv' of the split c of k taxa, among the first m of them, scores t or more
abbrev pub Among : Rule → ℕ → ℕ → ℕ → ℕ → Type 0
Among r t m k c = (u u' v v' : ℕ) → u < m → u' < m → v < m → v' < m → Out c u → Out c u' → In c v → In c v' → Ok r t k c u u' v v'

abbrev pub Fours : Rule → ℕ → ℕ → ℕ → Type 0
Fours r t k c = Among r t k k c

-- of an extension c over k + 1 taxa: its fours without the newcomer k
abbrev pub Old : Rule → ℕ → ℕ → ℕ → Type 0
Old r t k c = Among r t k (suc k) c

-- and its fours kx|yz that hold the newcomer: x on its side (it may be k), y and z on the other
abbrev pub New : Rule → ℕ → ℕ → ℕ → Type 0
New r t k c = (x y z : ℕ) → x ≤ k → y < k → z < k → bit c x ≡ bit c k → bit c y ≢ bit c k → bit c z ≢ bit c k → Ok r t (suc k) c k x y z

pub record Supported (r : Rule) (k c : ℕ) : Type 0 where
  pub split : Split k c
  pub fours : Fours r 1 k c

-- THE LEAST, by a threshold: a number from lo on is at most m where it is at most cap and nothing is under it
pub record Meet (lo cap m : ℕ) (Q : ℕ → Type 0) : Type 0 where
  pub least : (t : ℕ) → lo ≤ t → (t ≤ m) ↔ ((t ≤ cap) × Q t)

-- w is the least of the cap and the asked scores, or 0 where one is not above zero
abbrev pub Weight : Rule → ℕ → ℕ → ℕ → Type 0
Weight r k c w = Meet 1 (r.cap k c) w (λ t. Fours r t k c)

-- a trial: the least of a given cap and the new scores, or 0
abbrev pub Trial : Rule → ℕ → ℕ → ℕ → ℕ → Type 0
Trial r k c cap v = Meet 1 cap v (λ t. New r t k c)

-- some asked four of the split scores w
abbrev pub Reached : Rule → ℕ → ℕ → ℕ → Type 0
Reached r k c w =
    (u u' v v' : ℕ) × (u < k) × (u' < k) × (v < k) × (v' < k) × Out c u × Out c u' × In c v × In c v' × r.asked k c u u' v v' × (r.score u u' v v' ≡ pos w)

-- no four of the split is asked
abbrev pub Bare : Rule → ℕ → ℕ → Type 0
Bare r k c = (u u' v v' : ℕ) → u < k → u' < k → v < k → v' < k → Out c u → Out c u' → In c v → In c v' → r.asked k c u u' v v' → ⊥

-- THE WEIGHT, in the documents' words: 1 where no four is asked, else the least score of those asked
pub record WeightOf (r : Rule) (k c w : ℕ) : Type 0 where
  pub over : Fours r w k c
  pub reached : (Bare r k c × (w ≡ 1)) ⊎ Reached r k c w

-- what a cap must keep for Weight to be WeightOf: it never decides
pub record Caps (r : Rule) (k c : ℕ) : Type 0 where
  pub bare : Bare r k c → r.cap k c ≡ 1
  pub high : (u u' v v' : ℕ) → u < k → u' < k → v < k → v' < k → Out c u → Out c u' → In c v → In c v' → r.asked k c u u' v v'
      → pos (suc (r.cap k c)) ≤ℤ r.score u u' v v' → ⊥

-- GROWTH. What the extension c of a parent must keep, and which parents there are
pub record Kept (r : Rule) (k c : ℕ) : Type 0 where
  pub new : New r 1 k c
  pub all : T (r.anew k (c % 2 ^ k)) → Fours r 1 (suc k) c

pub record Parent (r : Rule) (k p : ℕ) : Type 0 where
  pub split : Split k p
  pub held : T (r.anew k p) ⊎ Fours r 1 k p

-- what growth gives the candidate c, where its parent weighs wt (c % 2 ^ k)
pub record Value (r : Rule) (k : ℕ) (wt : ℕ → ℕ) (c v : ℕ) : Type 0 where
  pub alone : c % 2 ^ k ≡ 0 → Trial r k c (r.cap (suc k) c) v
  pub old : 0 < c % 2 ^ k → r.anew k (c % 2 ^ k) ≡ false → Trial r k c (wt (c % 2 ^ k)) v
  pub anew : 0 < c % 2 ^ k → T (r.anew k (c % 2 ^ k)) → Weight r (suc k) c v
