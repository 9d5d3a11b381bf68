-- Document 01, "Scores and splits": Matrix, Score. Document 02 §7: Matrix rule.
use Rattle.std.specs.Prelude.{ℕ, ◌+◌, ◌*◌, ◌≤◌, ◌<◌, min, ◌≡◌, List, length, get_or, ℤ, pos, ◌≤ℤ◌, ◌<ℤ◌}
use Rattle.std.proofs.Math.IntN.{sub_ℕ}
use Rattle.statement.specs.Cluster.{Split, Across, Pair}

-- Matrix: n by n, row by row
abbrev pub distance : ℕ → List ℕ → ℕ → ℕ → ℕ
distance n entries i j = get_or entries (i * n + j) 0

-- no distance is above this
abbrev pub distance_limit : ℕ
distance_limit = 1000000

-- d(i,i) = 0, d(i,j) = d(j,i), each at most 1,000,000; the triangle rule is not demanded
pub record AcceptedMatrix (n : ℕ) (entries : List ℕ) : Type 0 where
  pub two : 2 ≤ n
  pub few : n ≤ 64
  pub size : length entries ≡ n * n
  pub diagonal : (i : ℕ) → i < n → distance n entries i i ≡ 0
  pub limit : (i j : ℕ) → i < n → j < n → distance n entries i j ≤ distance_limit
  pub same : (i j : ℕ) → i < n → j < n → distance n entries i j ≡ distance n entries j i

-- no score, and so no weight, is above this
abbrev pub weight_limit : ℕ
weight_limit = 2000000

-- Score, doubled: for a pairing wx|yz the lesser of wy + xz and wz + xy, less (wx + yz)
abbrev pub score : (ℕ → ℕ → ℕ) → ℕ → ℕ → ℕ → ℕ → ℤ
score d w x y z = sub_ℕ (min (d w y + d x z) (d w z + d x y)) (d w x + d y z)

-- Matrix rule (document 02 §7): a group of two or more gives only pairs of different taxa, a group of one its taxon twice. uu'|vv' is a four of the
-- split where u, u' is a pair of taxon 0's group and v, v' one of the cluster
pub record Asked (k c u u' v v' : ℕ) : Type 0 where
  pub across : Across k c u u' v v'
  pub pair : Pair k c u u'
  pub pair' : Pair k c v v'

-- the least score of some fours; and a split with every score of some fours above zero
pub record LeastScore (d : ℕ → ℕ → ℕ) (Four : ℕ → ℕ → ℕ → ℕ → Type 0) (w : ℤ) : Type 0 where
  pub least : (u u' v v' : ℕ) → Four u u' v v' → w ≤ℤ score d u u' v v'
  pub reached : (u u' v v' : ℕ) × Four u u' v v' × (score d u u' v v' ≡ w)

pub record AllAbove (d : ℕ → ℕ → ℕ) (Four : ℕ → ℕ → ℕ → ℕ → Type 0) (k c : ℕ) : Type 0 where
  pub split : Split k c
  pub fours : (u u' v v' : ℕ) → Four u u' v v' → pos 0 <ℤ score d u u' v v'

-- the weight of a split is the least score of its fours, and a split is supported when every such score is above zero
abbrev pub MatrixWeight : (ℕ → ℕ → ℕ) → ℕ → ℕ → ℤ → Type 0
MatrixWeight d k c w = LeastScore d (Asked k c) w

abbrev pub MatrixSupported : (ℕ → ℕ → ℕ) → ℕ → ℕ → Type 0
MatrixSupported d k c = AllAbove d (Asked k c) k c

-- THE RULE BEFORE §7: u may equal u' and v may equal v' in any group. It is the same for matrices that keep the triangle rule
abbrev pub RepeatWeight : (ℕ → ℕ → ℕ) → ℕ → ℕ → ℤ → Type 0
RepeatWeight d k c w = LeastScore d (Across k c) w

abbrev pub RepeatSupported : (ℕ → ℕ → ℕ) → ℕ → ℕ → Type 0
RepeatSupported d k c = AllAbove d (Across k c) k c

-- the triangle rule: no way round by a third taxon is shorter
abbrev pub Triangle : ℕ → (ℕ → ℕ → ℕ) → Type 0
Triangle n d = (i j l : ℕ) → i < n → j < n → l < n → d i j ≤ d i l + d l j
