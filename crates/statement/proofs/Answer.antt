-- Ascending lists of clusters, the full answer of a rule, and what is kept of the candidates, over clusters alone. Assumes nothing.
use Prim.Native.Nat.{ℕ, zero, suc, ◌+◌, ◌-◌, ◌^◌}
use mathlib.Core.Logic.{◌↔◌}
use mathlib.Core.Bool.{Bool, cond}
use mathlib.Core.List.{List, [], ◌∷◌, ◌++◌, map}
use lib.Dec.{ltb, eqb}
use Rattle.statement.specs.Cluster.{Out, Conflict}
use Rattle.statement.specs.Rows.{Ascending, Mem}
use Rattle.statement.proofs.Rule.{Rule, Supported, Weight}

-- ascending clusters of the first k taxa, without taxon 0 and without conflict
pub record Clean (k : ℕ) (rows : List ℕ) : Type 0 where
  pub up : Ascending 1 (2 ^ k) rows
  pub free : (c : ℕ) → Mem c rows → Out c 0
  pub clean : (a b : ℕ) → Mem a rows → Mem b rows → Conflict k a b → ⊥

-- the full answer of a rule for the first k taxa
pub record Full (r : Rule) (k : ℕ) (rows : List ℕ) : Type 0 where
  pub up : Ascending 1 (2 ^ k) rows
  pub exact : (c : ℕ) → Mem c rows ↔ Supported r k c

-- with its weights
pub record Weighed (r : Rule) (k : ℕ) (rows : List ℕ) (wt : ℕ → ℕ) : Type 0 where
  pub full : Full r k rows
  pub weights : (c : ℕ) → Mem c rows → Weight r k c (wt c)

unfoldable pub keep_if : (ℕ → Bool) → List ℕ → List ℕ
keep_if p [] = []
keep_if p (x ∷ xs) = cond (p x) (x ∷ keep_if p xs) (keep_if p xs)

-- the clusters of the candidates: each old split with the newcomer outside; the newcomer alone; each with the newcomer inside
abbrev pub extensions : ℕ → List ℕ → List ℕ
extensions k rows = rows ++ 2 ^ k ∷ map (λ c. 2 ^ k + c) rows

-- the clusters of with_singles and with_trivial
unfoldable pub ins : ℕ → List ℕ → List ℕ
ins x [] = x ∷ []
ins x (y ∷ ys) = cond (ltb x y) (x ∷ y ∷ ys) (cond (eqb x y) (y ∷ ys) (y ∷ ins x ys))

unfoldable pub fill_to : ℕ → List ℕ → List ℕ
fill_to zero rows = rows
fill_to (suc zero) rows = rows
fill_to (suc (suc i)) rows = ins (2 ^ suc i) (fill_to (suc i) rows)

unfoldable pub fill : ℕ → List ℕ → List ℕ
fill zero rows = rows
fill (suc zero) rows = rows
fill (suc (suc k)) rows = ins (2 ^ suc (suc k) - 2) (fill_to (suc (suc k)) rows)
