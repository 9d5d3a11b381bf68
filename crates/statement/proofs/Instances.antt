-- The rules as instances of the generic one: the matrix (document 02 §7), the matrix by the rule before that, and a rule by fours, of which the byte
-- table is one. Assumes nothing.
use Prim.Native.Nat.{ℕ, zero, suc, ◌+◌, ◌^◌, min}
use mathlib.Core.Bool.{Bool, true, false, cond}
use mathlib.Core.List.{List}
use lib.Dec.{ltb, eqb}
use lib.ListN.{get_or}
use lib.IntN.{ℤ, pos}
use Rattle.statement.specs.Cluster.{Pair}
use Rattle.statement.specs.Matrix.{score, weight_limit}
use Rattle.statement.specs.Table.{choose, table_weight}
use Rattle.statement.proofs.Rule.{Rule, Distinct}

-- a test for trivial splits: the cluster is a single taxon, or all taxa but taxon 0
unfoldable pub pow_below : ℕ → ℕ → Bool
pow_below zero c = false
pow_below (suc i) c = cond (eqb c (2 ^ i)) true (pow_below i c)

unfoldable pub trivial : ℕ → ℕ → Bool
trivial k c = cond (eqb (c + 2) (2 ^ k)) true (pow_below k c)

-- the pairs that a group gives are asked, and what extends a trivial split is weighed anew
abbrev pub matrix_rule : ℕ → (ℕ → ℕ → ℕ) → Rule
matrix_rule n d = record { taxa = n; score = score d; asked = λ k c w x y z. Pair k c w x × Pair k c y z; cap = λ k c. weight_limit; anew = trivial }

-- before §7 every four is asked, repeats too
abbrev pub repeat_rule : ℕ → (ℕ → ℕ → ℕ) → Rule
repeat_rule n d = record { taxa = n; score = score d; asked = λ k c w x y z. Unit {0}; cap = λ k c. weight_limit; anew = λ k p. false }

-- Of four different taxa, `rank` says how many are under t, and the byte is the rank of the least one's partner.
abbrev pub less : ℕ → ℕ → ℕ
less a b = cond (ltb a b) 1 0

abbrev pub rank : ℕ → ℕ → ℕ → ℕ → ℕ → ℕ
rank w x y z t = less w t + less x t + less y t + less z t

abbrev pub least : ℕ → ℕ → ℕ → ℕ → ℕ
least w x y z = min (min w x) (min y z)

unfoldable pub partner : (ℕ → ℕ) → ℕ → ℕ → ℕ → ℕ → ℕ → ℕ
partner f m w x y z = cond (eqb w m) (f x) (cond (eqb x m) (f w) (cond (eqb y m) (f z) (f y)))

abbrev pub code : ℕ → ℕ → ℕ → ℕ → ℕ
code w x y z = partner (rank w x y z) (least w x y z) w x y z

-- C(t, rank + 1) for each of the four: a + C(b,2) + C(c,3) + C(d,4) for the four in ascending order
abbrev pub place_by : (ℕ → ℕ) → ℕ → ℕ → ℕ → ℕ → ℕ
place_by f w x y z = choose w (suc (f w)) + choose x (suc (f x)) + choose y (suc (f y)) + choose z (suc (f z))

abbrev pub placed : ℕ → ℕ → ℕ → ℕ → ℕ
placed w x y z = place_by (rank w x y z) w x y z

-- A rule by fours: a number for each place and code. Only four different taxa count. (Weighted fours, request §11, are one more instance.)
abbrev pub four_rule : ℕ → (ℕ → ℕ → ℤ) → (ℕ → ℕ → ℕ) → (ℕ → ℕ → Bool) → Rule
four_rule n f cap anew = record { taxa = n; score = λ w x y z. f (placed w x y z) (code w x y z); asked = λ k c. Distinct; cap = cap; anew = anew }

-- the byte table
abbrev pub table_at : List ℕ → ℕ → ℕ → ℤ
table_at bytes p c = pos (cond (eqb (get_or bytes p 0) c) 1 0)

abbrev pub table_rule : ℕ → List ℕ → Rule
table_rule n bytes = four_rule n (table_at bytes) (λ k c. table_weight) (λ k p. false)
