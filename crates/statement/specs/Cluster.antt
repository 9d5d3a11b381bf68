-- Taxa are the numbers 0 to n - 1. A group of taxa is a number too: bit i says whether taxon i is in it.
-- Document 01, "Scores and splits": Row, Conflict. Document 02 §7: pairs of a group.
use Rattle.std.specs.Prelude.{ℕ, zero, suc, ◌+◌, ◌/◌, ◌%◌, ◌^◌, ◌<◌, ◌≡◌, Bool, cond}

-- 1 where taxon i is in the group c, else 0
abbrev pub bit : ℕ → ℕ → ℕ
bit c i = c / 2 ^ i % 2

abbrev pub In : ℕ → ℕ → Type 0
In c i = bit c i ≡ 1

abbrev pub Out : ℕ → ℕ → Type 0
Out c i = bit c i ≡ 0

-- the number of the group of those of the first n taxa that pass a test
unfoldable pub group_of : (ℕ → Bool) → ℕ → ℕ
group_of test zero = 0
group_of test (suc n) = group_of test n + cond (test n) (2 ^ n) 0

-- Row: a split of the first k taxa is written as the number of its group without taxon 0, its cluster; both groups are non-empty
pub record Split (k c : ℕ) : Type 0 where
  pub some : 0 < c
  pub below : c < 2 ^ k
  pub free : Out c 0

-- Conflict: all four intersections of the groups of two splits are non-empty
pub record Conflict (k a b : ℕ) : Type 0 where
  pub ii : (i : ℕ) × (i < k) × In a i × In b i
  pub io : (i : ℕ) × (i < k) × In a i × Out b i
  pub oi : (i : ℕ) × (i < k) × Out a i × In b i
  pub oo : (i : ℕ) × (i < k) × Out a i × Out b i

-- u is the only taxon of its group, in the split c of the first k taxa
pub record Single (k c u : ℕ) : Type 0 where
  pub only : (i : ℕ) → i < k → bit c i ≡ bit c u → i ≡ u

-- a trivial split: one of its groups is a single taxon
abbrev pub Trivial : ℕ → ℕ → Type 0
Trivial k c = (u : ℕ) × (u < k) × Single k c u

-- a pair that a group gives: two different taxa, or twice a taxon that is the only one of its group
abbrev pub Pair : ℕ → ℕ → ℕ → ℕ → Type 0
Pair k c u u' = u ≡ u' → Single k c u

-- u and u' are in the group of taxon 0, v and v' in the cluster: a four that a rule may ask about
pub record Across (k c u u' v v' : ℕ) : Type 0 where
  pub u_below : u < k
  pub u'_below : u' < k
  pub v_below : v < k
  pub v'_below : v' < k
  pub u_out : Out c u
  pub u'_out : Out c u'
  pub v_in : In c v
  pub v'_in : In c v'
