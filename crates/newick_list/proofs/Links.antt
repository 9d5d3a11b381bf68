-- The tree of ascending rows is a tree: every link is a later row or the root, so the text misses no child. And its root has brackets. Assumes nothing.
use Prim.Native.Nat.{ℕ, zero, suc, ◌+◌, ◌-◌, ◌^◌, ◌≤◌, ◌<◌}
use native.Mathlib.Omega.{arith}
use mathlib.Core.Path.{◌≡◌, refl, ◌∙◌, ap}
use mathlib.Core.Bool.{Bool, false, cond}
use mathlib.Core.List.{List, [], ◌∷◌}
use lib.Dec.{eqb}
use lib.ListN.{length}
use borrow.Author.Tests.{ne_eqb}
use Rattle.statement.specs.Rows.{Row, clusters, Ascending}
use Rattle.statement.proofs.Walks.{link_later}
use Rattle.statement.specs.Tree.{link_of}
use Rattle.statement.specs.NewickText.{Shape, shape_of, those_from, children, bracketed, items, vertex_text}
use Rattle.newick_list.proofs.Room.{Way, bare, brackets, way, alone_is}
use Rattle.newick_list.proofs.Sums.{Rooted}

pub rooted : (n : ℕ) (rows : List Row) → Ascending 1 (2 ^ n) (clusters rows) → Rooted (shape_of n rows)
rooted n rows up = record { later = λ c l. (link_later n rows up c l).0; top = λ c l. (link_later n rows up c l).1 }

-- where none passes from some number on, the numbers before it are enough
none_from : (p : ℕ → Bool) (i k : ℕ) → ((j : ℕ) → i ≤ j → j < i + k → p j ≡ false) → those_from p i k ≡ []
unfolding those_from
none_from p i zero h = refl
none_from p i (suc k) h = rw (h i (omega arith) (omega arith)) (none_from p (suc i) k (λ j a l. h j (omega arith) (omega arith)))

cut : (p : ℕ → Bool) (i a k : ℕ) → ((j : ℕ) → i + a ≤ j → j < i + a + k → p j ≡ false) → those_from p i (a + k) ≡ those_from p i a
unfolding those_from
cut p i zero k h = ap (those_from p i) (let e : 0 + k ≡ k = omega arith in e) ∙ none_from p i k (λ j a l. h j (omega arith) (omega arith))
cut p i (suc a) k h =
    ap (those_from p i) (let e : suc a + k ≡ suc (a + k) = omega arith in e)
    ∙ ap (λ (l : List ℕ). cond (p i) (i ∷ l) l) (cut p (suc i) a k (λ j b l. h j (omega arith) (omega arith)))

-- A VERTEX'S CHILDREN are all rows that are linked to it
pub children_all : (n : ℕ) (rows : List Row) → Ascending 1 (2 ^ n) (clusters rows) → (v : ℕ) → v ≤ length rows
    → those_from (λ c. eqb (link_of n rows c) v) 0 (length rows) ≡ children (shape_of n rows) v
children_all n rows up v l =
    ap (those_from (λ c. eqb (link_of n rows c) v) 0) (let e : length rows ≡ v + (length rows - v) = omega arith in e)
    ∙ cut (λ c. eqb (link_of n rows c) v) 0 v (length rows - v)
    (λ c a b. ne_eqb (link_of n rows c) v (λ e. omega (arith, (link_later n rows up c (omega arith)).0)))

-- THE ROOT has brackets
pub root_bracketed : (t : Shape) → vertex_text t t.edges ≡ bracketed (items t (vertex_text t) t.edges)
root_bracketed t = go (way t t.edges)
  where
    go : Way t t.edges → vertex_text t t.edges ≡ bracketed (items t (vertex_text t) t.edges)
    go (bare i b) = absurd (omega (arith, (alone_is t t.edges).0 b.lone))
    go (brackets e off) = e
