-- What stands at a vertex is made of what stands at its children. Assumes nothing.
use Prim.Native.Nat.{ℕ, zero, suc, ◌+◌, ◌≤◌, ◌<◌}
use native.Mathlib.Omega.{arith}
use mathlib.Core.Path.{◌≡◌, refl, ap, ap₂}
use mathlib.Core.Bool.{Bool, true, false, cond}
use mathlib.Core.List.{List, [], ◌∷◌, ◌++◌}
use lib.Dec.{eqb}
use Rattle.statement.specs.Rows.{Row}
use Rattle.statement.specs.NewickText.{Shape, those_from, homed, children, unbracketed}
use Rattle.newick_back.specs.Drawn.{gathered, deep, at_vertex, taxa_step, taxa_in, edge_at, leaf_edge, edges_step, edges_in}

gathered_those : {A : Type 0} (f g : ℕ → List A) (p : ℕ → Bool) (i m : ℕ) → ((j : ℕ) → i ≤ j → j < i + m → f j ≡ g j)
    → gathered f (those_from p i m) ≡ gathered g (those_from p i m)
unfolding those_from gathered
gathered_those f g p i zero e = refl
gathered_those {A} f g p i (suc m) e = go (p i) (e i (omega arith) (omega arith)) (gathered_those f g p (suc i) m (λ j a l. e j (omega arith) (omega arith)))
  where
    go : (b : Bool) → f i ≡ g i → gathered f (those_from p (suc i) m) ≡ gathered g (those_from p (suc i) m)
        → gathered f (cond b (i ∷ those_from p (suc i) m) (those_from p (suc i) m)) ≡ gathered g (cond b (i ∷ those_from p (suc i) m) (those_from p (suc i) m))
    go true h k = ap₂ (λ (xs ys : List A). xs ++ ys) h k
    go false h k = k

module _ {A : Type 0} (step : (ℕ → List A) → ℕ → List A) (low : (g h : ℕ → List A) (v : ℕ) → ((c : ℕ) → c < v → g c ≡ h c) → step g v ≡ step h v) where
  deep_same : (j k v : ℕ) → v < j → v < k → deep step j v ≡ deep step k v
  unfolding deep
  deep_same zero k v l r = absurd (omega arith)
  deep_same (suc j) zero v l r = absurd (omega arith)
  deep_same (suc j) (suc k) v l r = low (deep step j) (deep step k) v (λ c q. deep_same j k c (omega arith) (omega arith))

  at_is : (v : ℕ) → at_vertex step v ≡ step (at_vertex step) v
  unfolding at_vertex deep
  at_is v = low (deep step v) (λ c. deep step (suc c) c) v (λ c l. deep_same v (suc c) c l (omega arith))

module _ (t : Shape) where
  pub taxa_is : (v : ℕ) → taxa_in t v ≡ homed t v ++ gathered (taxa_in t) (children t v)
  taxa_is = at_is (taxa_step t)
      (λ g h v e. ap (λ (l : List ℕ). homed t v ++ l) (gathered_those g h (λ c. eqb (t.link c) v) 0 v (λ c _ l. e c (omega arith))))

  pub edges_is : (v : ℕ) → edges_in t v ≡ edges_step t (edges_in t) v
  edges_is = at_is (edges_step t)
      (λ g h v e. ap (λ (l : List Row). cond (unbracketed t v) [] (gathered (λ i. leaf_edge i ∷ []) (homed t v) ++ l))
      (gathered_those (λ c. g c ++ (edge_at t c ∷ [])) (λ c. h c ++ (edge_at t c ∷ [])) (λ c. eqb (t.link c) v) 0 v
      (λ c _ l. ap (λ (xs : List Row). xs ++ (edge_at t c ∷ [])) (e c (omega arith)))))
