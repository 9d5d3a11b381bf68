-- Walks, a step at a time, and that only the links matter to them. Assumes nothing.
use Prim.Native.Nat.{ℕ, zero, suc, ◌+◌}
use native.Mathlib.Numerals.{add-one}
use mathlib.Core.Path.{◌≡◌, refl, sym, ◌∙◌, ap}
use mathlib.Core.Bool.{not}
use mathlib.Core.List.{List, []}
use lib.Dec.{eqb}
use lib.ListN.{get_or}
use Rattle.statement.specs.Cluster.{group_of}
use Rattle.statement.specs.Lowest.{somewhere}
use Rattle.statement.specs.Tree.{Tree, root, up, walk, on_walk, cluster_of}
use Rattle.statement.specs.Refusals.{walk_off}
use Rattle.tree_check.specs.Parts.{placed, linked}

-- the last step of a walk
walk_last : (t : Tree) (s v : ℕ) → walk t (suc s) v ≡ up t (walk t s v)
unfolding walk
walk_last t zero v = refl
walk_last t (suc s) v = walk_last t s (up t v)

pub walk_next : (t : Tree) (s v x y : ℕ) → x ≡ walk t s v → y ≡ up t x → y ≡ walk t (s + 1) v
walk_next t s v x y e q = q ∙ ap (up t) e ∙ sym (walk_last t s v) ∙ ap (λ (k : ℕ). walk t k v) (sym (add-one s))

module _ (t : Tree) (homes : List ℕ) where
  same_walk : (s v : ℕ) → walk t s v ≡ walk (placed t.links homes) s v
  unfolding walk
  same_walk zero v = refl
  same_walk (suc s) v = same_walk s (up t v)

  pub same_on_walk : (a b : ℕ) → on_walk t a b ≡ on_walk (placed t.links homes) a b
  same_on_walk a b = λ i. somewhere (λ s. eqb (same_walk s a i) b) (suc (root t))

-- so the check of the walks is one of the links, and a cluster is one of links and homes
pub walks_of_links : (t : Tree) → walk_off t ≡ walk_off (linked t.links)
walks_of_links t = λ i. record { number = 10; places = root t; bad = λ v. not (same_on_walk t [] v (root t) i) }

pub same_cluster : (t : Tree) (v n : ℕ) → cluster_of t v n ≡ cluster_of (placed t.links t.homes) v n
unfolding cluster_of
same_cluster t v n = λ i. group_of (λ taxon. same_on_walk t t.homes (get_or t.homes taxon 0) v i) n
