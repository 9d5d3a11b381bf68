-- THE LIST OF THE TREE OF A LIST is that list: a taxon is homed at or below a vertex exactly where it is in the vertex's cluster, so each edge
-- has the cluster of its row. Document 01, "The tree". Assumes nothing.
use Prim.Native.Nat.{ℕ, zero, suc, ◌+◌, ◌^◌, ◌≤◌, ◌<◌}
use native.Mathlib.Omega.{arith}
use native.Mathlib.Decide.{dec_lt}
use mathlib.Core.Path.{◌≡◌, refl, sym, ◌∙◌, ap, ap₂}
use mathlib.Core.Logic.{◌⊎◌, inl, inr}
use mathlib.Core.Bool.{Bool, cond}
use mathlib.Core.List.{List, [], ◌∷◌, map}
use lib.Dec.{eqb}
use lib.ListN.{length, get_or, get_or-map}
use borrow.Author.Tests.{eq-eqb, ne_eqb, le-leb}
use Rattle.statement.specs.Cluster.{bit, In, Out}
use Rattle.statement.specs.Rows.{Row, row, clusters, Ascending}
use Rattle.statement.specs.Tree.{numbers, root, cluster_at, link_of, home_of, tree_of, up, walk, on_walk, cluster_of, insert_row, sort_rows, rows_of_tree}
use Rattle.statement.proofs.Bits.{zero_or_one, bit_ext}
use Rattle.statement.proofs.Groups.{group_below, group_bit, Strictly}
use Rattle.statement.proofs.Lowest.{some_at, none_at}
use Rattle.statement.proofs.Walks.{root_is, home_is, up_is, up_root, cluster_range, ascending, link_later}
use Rattle.statement.proofs.Answer.{Clean}
use Rattle.tree_write.proofs.Smallest.{link_smallest, home_smallest, nested}

module _ (n : ℕ) (rows : List Row) (clean : Clean n (clusters rows)) where
  module _ (i : ℕ) (li : i < n) where
    -- a vertex below which taxon i may be at home: the root, or one whose cluster holds i
    abbrev Holder : ℕ → Type 0
    Holder v = v < length rows → In (cluster_at rows v) i

    up_holds : (v : ℕ) → Holder v → Holder (up (tree_of n rows) v)
    up_holds v h lu = at (dec_lt v (length rows))
      where
        at : Dec (v < length rows) → In (cluster_at rows (up (tree_of n rows) v)) i
        at (yes l) =
            let e = up_is n rows v l in
            rw e (((link_smallest n rows clean v l).holds (omega arith)).part i li (h l))
        at (no l) = absurd (omega (arith, up_root n rows v (omega arith)))

    walk_holds : (s v : ℕ) → Holder v → Holder (walk (tree_of n rows) s v)
    unfolding walk
    walk_holds zero v h = h
    walk_holds (suc s) v h = walk_holds s (up (tree_of n rows) v) (up_holds v h)

    -- a step to the link, then s steps more
    one_more : (s a v : ℕ) → a < length rows → walk (tree_of n rows) s (link_of n rows a) ≡ v → walk (tree_of n rows) (suc s) a ≡ v
    unfolding walk
    one_more s a v l e = rw (up_is n rows a l) e

    -- the walk up from a vertex whose cluster holds i comes by every later one that does
    passes : (f a v : ℕ) → v ≤ a + f → a ≤ v → v < length rows → In (cluster_at rows a) i → In (cluster_at rows v) i
        → (s : ℕ) × (s + a ≤ v) × (walk (tree_of n rows) s a ≡ v)
    unfolding walk
    passes zero a v w le lv ha hv = (0, omega arith, omega arith)
    passes (suc f) a v w le lv ha hv = go (dec_lt a v) (λ b. passes f b v)
      where
        go : Dec (a < v)
            → ((b : ℕ) → v ≤ b + f → b ≤ v → v < length rows → In (cluster_at rows b) i → In (cluster_at rows v) i
            → (s : ℕ) × (s + b ≤ v) × (walk (tree_of n rows) s b ≡ v))
            → (s : ℕ) × (s + a ≤ v) × (walk (tree_of n rows) s a ≡ v)
        go (no g) ih = (0, omega arith, omega arith)
        go (yes g) ih =
            let la : a < length rows = omega arith in
            let differ : cluster_at rows a ≡ cluster_at rows v → ⊥ = λ e. omega (arith, ascending n rows clean.up a v g lv) in
            let inside : Strictly n (cluster_at rows a) (cluster_at rows v) = record { part = nested n rows clean a v i le lv li ha hv; other = differ } in
            let link = link_smallest n rows clean a la in
            let close = link.lowest v inside in
            let (later, top) = link_later n rows clean.up a la in
            let (s, few, e) = ih (link_of n rows a) (omega arith) close lv ((link.holds (omega arith)).part i li ha) hv in
            (suc s, omega arith, one_more s a v la e)

    home_holds : Holder (home_of rows i)
    home_holds = (home_smallest n rows clean i li).holds

    -- TAXON i IS HOMED AT OR BELOW v exactly where it is in v's cluster
    pub on_walk_home : (v : ℕ) → v < length rows → on_walk (tree_of n rows) (home_of rows i) v ≡ eqb (bit (cluster_at rows v) i) 1
    on_walk_home v lv = at (zero_or_one (cluster_at rows v) i)
      where
        at : Out (cluster_at rows v) i ⊎ In (cluster_at rows v) i → on_walk (tree_of n rows) (home_of rows i) v ≡ eqb (bit (cluster_at rows v) i) 1
        at (inr h) =
            let close = (home_smallest n rows clean i li).lowest v h in
            let (s, few, e) = passes v (home_of rows i) v (omega arith) close lv (home_holds (omega arith)) h in
            some_at (λ s. eqb (walk (tree_of n rows) s (home_of rows i)) v) (suc (root (tree_of n rows))) s (omega (arith, root_is n rows)) (eq-eqb _ v e)
            ∙ sym (eq-eqb (bit (cluster_at rows v) i) 1 h)
        at (inl o) =
            none_at (λ s. eqb (walk (tree_of n rows) s (home_of rows i)) v) (suc (root (tree_of n rows)))
            (λ s l. ne_eqb _ v
            (λ e. omega (arith, walk_holds s (home_of rows i) home_holds (omega arith), ap (λ (u : ℕ). bit (cluster_at rows u) i) e)))
            ∙ sym (ne_eqb (bit (cluster_at rows v) i) 1 (λ e. omega arith))

  -- so an edge's cluster is that of its row
  pub cluster_of_list : (v : ℕ) → v < length rows → cluster_of (tree_of n rows) v n ≡ cluster_at rows v
  unfolding cluster_of
  cluster_of_list v lv =
      bit_ext n (cluster_of (tree_of n rows) v n) (cluster_at rows v) (group_below test n) (cluster_range n rows clean.up v lv).1
      (λ i li. group_bit test n i li ∙ ap (λ (b : Bool). cond {A = ℕ} b 1 0) (says i li) ∙ back i)
    where
      test : ℕ → Bool
      test = λ taxon. on_walk (tree_of n rows) (get_or (tree_of n rows).homes taxon 0) v

      says : (i : ℕ) → i < n → test i ≡ eqb (bit (cluster_at rows v) i) 1
      says i li = ap (λ (h : ℕ). on_walk (tree_of n rows) h v) (home_is n rows i li) ∙ on_walk_home i li v lv

      back : (i : ℕ) → cond (eqb (bit (cluster_at rows v) i) 1) 1 0 ≡ bit (cluster_at rows v) i
      back i = at (zero_or_one (cluster_at rows v) i)
        where
          at : Out (cluster_at rows v) i ⊎ In (cluster_at rows v) i → cond (eqb (bit (cluster_at rows v) i) 1) 1 0 ≡ bit (cluster_at rows v) i
          at (inr h) = rw h
          at (inl o) = rw o

-- A LIST BY ITS PLACES, and rows in ascending order are left as they are
map_places : {A : Type 0} (f : ℕ → A) (other : A) (i : ℕ) (xs : List A) → ((j : ℕ) → j < length xs → f (i + j) ≡ get_or xs j other)
    → map f (numbers i (length xs)) ≡ xs
unfolding numbers
map_places f other i [] h = refl
map_places f other i (x ∷ xs) h =
    ap₂ ◌∷◌ (ap f (omega arith) ∙ h 0 (omega arith))
    (map_places f other (suc i) xs (λ j l. ap f (omega arith) ∙ h (suc j) (omega arith)))

sort_ascending : (low high : ℕ) (rows : List Row) → Ascending low high (clusters rows) → sort_rows rows ≡ rows
unfolding sort_rows insert_row
sort_ascending low high [] asc = refl
sort_ascending low high (r ∷ []) asc = refl
sort_ascending low high (r ∷ (x ∷ xs)) asc =
    ap (insert_row r) (sort_ascending (suc r.cluster) high (x ∷ xs) asc.1) ∙ rw (le-leb r.cluster x.cluster (omega (arith, asc.1.0)))

pub list_tree_list : (n : ℕ) (rows : List Row) → Clean n (clusters rows) → rows_of_tree n (tree_of n rows) ≡ rows
unfolding rows_of_tree tree_of
list_tree_list n rows clean =
    ap (λ (m : ℕ). sort_rows (map edge (numbers 0 m))) (root_is n rows)
    ∙ ap sort_rows (map_places edge (row 0 0) 0 rows same) ∙ sort_ascending 1 (2 ^ n) rows clean.up
  where
    edge : ℕ → Row
    edge v = row (cluster_of (tree_of n rows) v n) (get_or (tree_of n rows).weights v 0)

    same : (j : ℕ) → j < length rows → edge (0 + j) ≡ get_or rows j (row 0 0)
    same j l =
        ap edge (let e : 0 + j ≡ j = omega arith in e)
        ∙ ap₂ row (cluster_of_list n rows clean j l ∙ get_or-map (λ r. r.cluster) rows j (row 0 0)) (get_or-map (λ r. r.weight) rows j (row 0 0))
