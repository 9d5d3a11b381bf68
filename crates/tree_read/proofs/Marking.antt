-- Clusters made a taxon at a time: its group is added at each edge that the walk from its home passes, once. Assumes nothing.
use Prim.Native.Nat.{ℕ, ◌+◌, ◌^◌, ◌≤◌, ◌<◌}
use native.Mathlib.Omega.{arith}
use native.Mathlib.Decide.{ℕ_discrete, dec_lt}
use native.Mathlib.Numerals.{add-one}
use mathlib.Core.Path.{◌≡◌, refl, sym, ◌∙◌, ap}
use mathlib.Core.Logic.{◌≢◌}
use mathlib.Core.Bool.{Bool, true, false, cond, ◌&&◌}
use mathlib.Core.List.{List, []}
use lib.Dec.{ltb, eqb}
use lib.ListN.{length, get_or, set, length-set}
use lib.Seq.{get_or-set_same, get_or-set_other}
use borrow.Author.Count.{below_more}
use borrow.Author.Tests.{eq-eqb, ne_eqb, lt-ltb, le-ltb}
use Rattle.statement.specs.Cluster.{group_of}
use Rattle.statement.specs.Lowest.{somewhere}
use Rattle.statement.specs.Tree.{Tree, walk, on_walk, cluster_of}
use Rattle.statement.proofs.Groups.{group_below}
use Rattle.statement.proofs.Lowest.{some_at, some_of, none_of, none_at}
use Rattle.tree_check.specs.Parts.{linked, placed}
use Rattle.tree_check.proofs.Walked.{same_on_walk}
use Rattle.tree_read.specs.Columns.{Marked}

-- one place more, where the test fails
some_miss : (p : ℕ → Bool) (k : ℕ) → p k ≡ false → somewhere p (k + 1) ≡ somewhere p k
some_miss p k here = go (somewhere p k) refl
  where
    go : (b : Bool) → somewhere p k ≡ b → somewhere p (k + 1) ≡ b
    go true e = let (i, l, q) = some_of p k e in some_at p (k + 1) i (omega arith) q
    go false e = none_at p (k + 1) (below_more (λ i. p i ≡ false) k (none_of p k e) here)

-- the walk from home passes v within its first s places
abbrev passes : List ℕ → ℕ → ℕ → ℕ → Bool
passes links home v s = somewhere (λ j. eqb (walk (linked links) j home) v) s

pub mark_none : (links : List ℕ) (home group : ℕ) (before : List ℕ) → length before ≡ 125 → Marked links home group 0 before before
mark_none links home group before l =
    record { long = l; each = λ v h. rw (none_at (λ j. eqb (walk (linked links) j home) v) 0 (λ i k. absurd (omega arith))) (omega arith) }

-- the walk is at x after s steps
module _ {links : List ℕ} {home group s x : ℕ} {before after : List ℕ} (is : x ≡ walk (linked links) s home)
    (marked : Marked links home group s before after) where
  elsewhere : (v : ℕ) → v ≢ x → passes links home v (s + 1) ≡ passes links home v s
  elsewhere v n = some_miss (λ j. eqb (walk (linked links) j home) v) s (ne_eqb _ _ (λ e. n (sym e ∙ sym is)))

  here : passes links home x (s + 1) ≡ true
  here = some_at (λ j. eqb (walk (linked links) j home) x) (s + 1) s (omega arith) (eq-eqb _ _ (sym is))

  same_elsewhere : (v : ℕ) → v < length links → v ≢ x → get_or after v 0 ≡ get_or before v 0 + cond (passes links home v (s + 1)) group 0
  same_elsewhere v l n = rw (elsewhere v n) (marked.each v l)

  mark_root : length links ≤ x → Marked links home group (s + 1) before after
  mark_root h = record { long = marked.long; each = λ v l. same_elsewhere v l (λ e. omega arith) }

  module _ (edge : x < length links) (small : get_or before x 0 < group) where
    -- the cluster at x tells whether it was passed already
    marked_yet : (b : Bool) → get_or after x 0 ≡ get_or before x 0 + cond b group 0 → group ≤ get_or after x 0 → get_or after x 0 ≡ get_or before x 0 + group
    marked_yet true e h = e
    marked_yet false e h = absurd (omega arith)

    unmarked : (b : Bool) → get_or after x 0 ≡ get_or before x 0 + cond b group 0 → get_or after x 0 < group → get_or after x 0 ≡ get_or before x 0
    unmarked true e h = absurd (omega arith)
    unmarked false e h = omega arith

    -- so where x has its group and every other edge is as it was
    settled : (now : List ℕ) → length now ≡ 125 → ((v : ℕ) → v ≢ x → get_or now v 0 ≡ get_or after v 0)
        → get_or now x 0 ≡ get_or before x 0 + group → Marked links home group (s + 1) before now
    settled now long others at = record { long = long; each = λ v l. go v l (ℕ_discrete v x) }
      where
        go : (v : ℕ) → v < length links → Dec (v ≡ x) → get_or now v 0 ≡ get_or before v 0 + cond (passes links home v (s + 1)) group 0
        go v l (no n) = others v n ∙ same_elsewhere v l n
        go v l (yes e) = rw (e, here) at

    mark_kept : group ≤ get_or after x 0 → Marked links home group (s + 1) before after
    mark_kept h = settled after marked.long (λ v n. refl) (marked_yet (passes links home x s) (marked.each x edge) h)

    mark_put : x < 125 → get_or after x 0 < group → Marked links home group (s + 1) before (set after x (get_or after x 0 + group))
    mark_put r h =
        settled (set after x (get_or after x 0 + group)) (length-set after x _ ∙ marked.long) (λ v n. get_or-set_other after x v _ 0 n)
        (get_or-set_same after x _ 0 (omega (arith, marked.long)) ∙ ap (λ (c : ℕ). c + group) (unmarked (passes links home x s) (marked.each x edge) h))

  -- one step of the code
  pub mark_on : length links ≤ 125 → ((v : ℕ) → v < length links → get_or before v 0 < group) → (now : List ℕ)
      → now ≡ cond (ltb x (length links) && ltb (get_or after x 0) group) (set after x (get_or after x 0 + group)) after
      → Marked links home group (s + 1) before now
  mark_on short small now e = go (dec_lt x (length links)) (dec_lt (get_or after x 0) group)
    where
      go : Dec (x < length links) → Dec (get_or after x 0 < group) → Marked links home group (s + 1) before now
      go (yes l) (yes h) = rw (e, lt-ltb x (length links) l, lt-ltb (get_or after x 0) group h) (mark_put l (small x l) (omega arith) h)
      go (yes l) (no h) = rw (e, lt-ltb x (length links) l, le-ltb (get_or after x 0) group (omega arith)) (mark_kept l (small x l) (omega arith))
      go (no l) d = rw (e, le-ltb x (length links) (omega arith)) (mark_root (omega arith))

-- THE CLUSTERS, with one taxon more
pub cluster_below : (t : Tree) (v n : ℕ) → cluster_of t v n < 2 ^ n
unfolding cluster_of
cluster_below t v n = group_below (λ taxon. on_walk t (get_or t.homes taxon 0) v) n

pub cluster_none : (t : Tree) (v : ℕ) → cluster_of t v 0 ≡ 0
unfolding cluster_of group_of
cluster_none t v = refl

pub cluster_more : (links homes : List ℕ) (v i c d home group : ℕ) → c ≡ cluster_of (placed links homes) v i → home ≡ get_or homes i 0
    → group ≡ 2 ^ i → d ≡ c + cond (on_walk (linked links) home v) group 0 → d ≡ cluster_of (placed links homes) v (i + 1)
unfolding cluster_of group_of
cluster_more links homes v i c d home group is at one q =
    rw (add-one i, same_on_walk (placed links homes) [] (get_or homes i 0) v, ← at, ← one, ← is) q
