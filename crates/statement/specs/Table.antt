-- Document 01, "Scores and splits": Table rule.
use Rattle.std.specs.Prelude.{ℕ, zero, suc, ◌+◌, ◌≤◌, ◌<◌, min, max, ◌≡◌, ◌≢◌, Bool, true, cond, List, ltb, eqb, length, get_or}
use Rattle.statement.specs.Cluster.{Split, Across}

-- C(p,q), which is 0 if p < q
unfoldable pub choose : ℕ → ℕ → ℕ
choose p zero = 1
choose zero (suc q) = 0
choose (suc p) (suc q) = choose p q + choose p (suc q)

-- the place of the four a<b<c<d
abbrev pub place : ℕ → ℕ → ℕ → ℕ → ℕ
place a b c d = a + choose b 2 + choose c 3 + choose d 4

-- one byte for each four, none above 3
pub record AcceptedTable (n : ℕ) (bytes : List ℕ) : Type 0 where
  pub two : 2 ≤ n
  pub few : n ≤ 64
  pub size : length bytes ≡ choose n 4
  pub limit : (i : ℕ) → i < length bytes → get_or bytes i 0 ≤ 3

-- a pairing's place, and which of the three pairings of its four it is: for a<b<c<d, 1 is ab|cd, 2 is ac|bd, 3 is ad|bc
pub record Pairing : Type 0 where
  pub place : ℕ
  pub byte : ℕ

-- wx|yz, for w<x, y<z and w<y: what stands between x, y and z tells which pairing of the ascending four this is
unfoldable pub ordered : ℕ → ℕ → ℕ → ℕ → Pairing
ordered w x y z =
    cond (ltb x y) (record { place = place w x y z; byte = 1 })
    (cond (ltb x z) (record { place = place w y x z; byte = 2 })
    (record { place = place w y z x; byte = 3 }))

-- ab|cd, for a<b and c<d: the pair with the lower taxon first
unfoldable pub lower_first : ℕ → ℕ → ℕ → ℕ → Pairing
lower_first a b c d = cond (ltb a c) (ordered a b c d) (ordered c d a b)

-- wx|yz, for four different taxa in any order
abbrev pub pairing : ℕ → ℕ → ℕ → ℕ → Pairing
pairing w x y z = lower_first (min w x) (max w x) (min y z) (max y z)

-- the pairing wx|yz stands in the table
abbrev pub stands : List ℕ → ℕ → ℕ → ℕ → ℕ → Bool
stands bytes w x y z = eqb (get_or bytes (pairing w x y z).place 0) (pairing w x y z).byte

-- Table rule: only four different taxa count; a split is supported when each u, u' in U (different) and v, v' in V (different) have uu'|vv' in the table
pub record TableSupported (bytes : List ℕ) (k c : ℕ) : Type 0 where
  pub split : Split k c
  pub fours : (u u' v v' : ℕ) → Across k c u u' v v' → u ≢ u' → v ≢ v' → stands bytes u u' v v' ≡ true

-- every weight is 1
abbrev pub table_weight : ℕ
table_weight = 1
