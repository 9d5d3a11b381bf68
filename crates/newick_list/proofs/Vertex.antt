-- The text of a vertex is made of its children's, and only the links, weights and homes within the tree count. Assumes nothing.
use Prim.Native.Nat.{ℕ, zero, suc, ◌≤◌, ◌<◌}
use native.Mathlib.Omega.{arith}
use mathlib.Core.Path.{◌≡◌, refl, ◌∙◌, ap, ap₂}
use mathlib.Core.Bool.{cond, ◌&&◌}
use mathlib.Core.List.{List, ◌∷◌, ◌++◌, map}
use lib.Dec.{ltb, eqb}
use lib.ListN.{length, get_or}
use Rattle.statement.specs.Decimal.{decimal}
use Rattle.statement.specs.NewickText.{Shape, those_from, homed, children, bracketed, leaf_text, child_text, items, vertex_by, vertex_in, vertex_text}
use Rattle.newick_list.proofs.Those.{those_same, map_those}

-- two shapes that agree on the first b vertices and on their homes
pub record Agree (t u : Shape) (b : ℕ) : Type 0 where
  pub taxa : t.taxa ≡ u.taxa
  pub edges : t.edges ≡ u.edges
  pub home : (i : ℕ) → i < t.taxa → t.home i ≡ u.home i
  pub link : (c : ℕ) → c < b → t.link c ≡ u.link c
  pub weight : (c : ℕ) → c < b → t.weight c ≡ u.weight c

module _ (t u : Shape) (b : ℕ) (same : Agree t u b) where
  homed_same : (v : ℕ) → homed t v ≡ homed u v
  homed_same v =
      those_same (λ i. eqb (t.home i) v) (λ i. eqb (u.home i) v) 0 t.taxa (λ i _ l. ap (λ (h : ℕ). eqb h v) (same.home i (omega arith)))
      ∙ ap (those_from (λ i. eqb (u.home i) v) 0) same.taxa

  children_same : (v : ℕ) → v ≤ b → children t v ≡ children u v
  children_same v l = those_same (λ c. eqb (t.link c) v) (λ c. eqb (u.link c) v) 0 v (λ c _ k. ap (λ (h : ℕ). eqb h v) (same.link c (omega arith)))

  by_parts : (hs ks hs' ks' : List ℕ) (m m' v : ℕ) (xs xs' : List (List ℕ)) → hs ≡ hs' → ks ≡ ks' → m ≡ m' → xs ≡ xs'
      → cond (ltb v m && eqb (length hs) 1 && eqb (length ks) 0) (decimal (get_or hs 0 0)) (bracketed xs)
      ≡ cond (ltb v m' && eqb (length hs') 1 && eqb (length ks') 0) (decimal (get_or hs' 0 0)) (bracketed xs')
  by_parts hs ks hs' ks' m m' v xs xs' a b c d = rw (a, b, c, d)

  vertex_by_same : (g h : ℕ → List ℕ) (v : ℕ) → v ≤ b → ((c : ℕ) → c < v → g c ≡ h c) → vertex_by t g v ≡ vertex_by u h v
  vertex_by_same g h v l e =
      by_parts (homed t v) (children t v) (homed u v) (children u v) t.edges u.edges v (items t g v) (items u h v)
      (homed_same v) (children_same v l) same.edges
      (ap₂ (λ (xs ys : List (List ℕ)). xs ++ ys) (ap (map leaf_text) (homed_same v))
      (map_those (child_text t g) (child_text u h) (λ c. eqb (t.link c) v) 0 v
      (λ c _ k. ap₂ (λ (x : List ℕ) (w : ℕ). x ++ (58 ∷ decimal w)) (e c (omega arith)) (same.weight c (omega arith)))
      ∙ ap (map (child_text u h)) (children_same v l)))

  deep_same : (j k v : ℕ) → v < j → v < k → v ≤ b → vertex_in t j v ≡ vertex_in u k v
  unfolding vertex_in
  deep_same zero k v l r h = absurd (omega arith)
  deep_same (suc j) zero v l r h = absurd (omega arith)
  deep_same (suc j) (suc k) v l r h =
      vertex_by_same (vertex_in t j) (vertex_in u k) v h (λ c q. deep_same j k c (omega arith) (omega arith) (omega arith))

  pub text_same : (v : ℕ) → v ≤ b → vertex_text t v ≡ vertex_text u v
  unfolding vertex_text
  text_same v l = deep_same (suc v) (suc v) v (omega arith) (omega arith) l

pub itself : (t : Shape) (b : ℕ) → Agree t t b
itself t b = record { taxa = refl; edges = refl; home = λ i l. refl; link = λ c l. refl; weight = λ c l. refl }

pub vertex_is : (t : Shape) (v : ℕ) → vertex_text t v ≡ vertex_by t (vertex_text t) v
unfolding vertex_text vertex_in
vertex_is t v =
    vertex_by_same t t v (itself t v) (vertex_in t v) (λ c. vertex_in t (suc c) c) v (omega arith)
    (λ c l. deep_same t t v (itself t v) v (suc c) c l (omega arith) (omega arith))
