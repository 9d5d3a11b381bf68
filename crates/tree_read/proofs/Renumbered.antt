-- A tree read in any numbering and written again is the same tree, in row order. Assumes nothing.
use Prim.Native.Nat.{ℕ, zero, suc, ◌+◌, ◌≤◌, ◌<◌}
use native.Mathlib.Omega.{arith}
use native.Mathlib.Decide.{dec_lt}
use native.Mathlib.Nat.{le_antisymm}
use mathlib.Core.Path.{◌≡◌, refl, sym, ◌∙◌, ap, ap₂, subst}
use mathlib.Core.Logic.Iff
use mathlib.Core.Logic.{◌⊎◌, inl, inr, ◌↔◌, ◌≢◌}
use mathlib.Core.Bool.{Bool, true, false, not, ◌&&◌}
use mathlib.Core.List.{List, map}
use lib.Dec.{eqb}
use lib.ListN.{length, get_or, length-map, get_or-map}
use borrow.Author.Tests.{eqb-true, eq-eqb, ne_eqb, not-true}
use Rattle.statement.specs.Cluster.{bit, In, Out}
use Rattle.statement.specs.Lowest.{lowest}
use Rattle.statement.specs.Rows.{Row, row}
use Rattle.statement.specs.Tree.{Tree, numbers, root, cluster_at, strictly_in, link_of, home_of, tree_of, up, walk, cluster_of, rows_of_tree}
use Rattle.statement.specs.Bytes.{tree_in}
use Rattle.statement.specs.Refusals.{AllPassed, tree_checks}
use Rattle.statement.proofs.Bits.{zero_or_one, lt_bit}
use Rattle.statement.proofs.Groups.{part_le}
use Rattle.statement.proofs.Tests.{same_is, both_is, none_is, unless_is, fails_is}
use Rattle.statement.proofs.Walks.{map_at, numbers_length}
use Rattle.statement.proofs.Lowest.{lowest_at, lowest_none, none_at}
use Rattle.tree_read.specs.Accepted.{Leads, AcceptedTree, home_in}
use Rattle.row_sort.specs.Sorted.{sorted_of}
use Rattle.tree_read.specs.SameTree.{SameTree, row_place}
use Rattle.tree_read.proofs.Passed.{tree_accepted}
use Rattle.tree_read.proofs.Reaches.{walk_root, walk_add, stays}
use Rattle.tree_read.proofs.Clusters.{ends, cluster_in, cluster_split, part_above, shared}
use Rattle.tree_read.proofs.Rows.{edge, rows_are, tree_edges}
use Rattle.row_sort.proofs.Sorting.{sorted_count, edge_at, row_of_law, cluster_at_law, ascends}

-- a group is strictly in another
pub Strictly : ℕ → ℕ → ℕ → Type 0
Strictly n a b = ((i : ℕ) → i < n → In a i → In b i) × (a ≢ b)

inside_is : (a b i : ℕ) → ((eqb (bit a i) 1 && eqb (bit b i) 0) ≡ false) ↔ (In a i → In b i)
inside_is a b i =
    Iff.trans (unless_is (eqb (bit a i) 1) (fails_is (same_is (bit b i) 0)))
    ((λ f h. within (zero_or_one b i) (f (eq-eqb _ _ h))), (λ f e o. clash (f (eqb-true _ _ e)) o))
  where
    within : Out b i ⊎ In b i → (bit b i ≡ 0 → ⊥) → In b i
    within (inl o) f = absurd (f o)
    within (inr h) f = h

    clash : bit b i ≡ 1 → bit b i ≡ 0 → ⊥
    clash h o = omega arith

strictly_is : (n a b : ℕ) → (strictly_in n a b ≡ true) ↔ Strictly n a b
unfolding Strictly
strictly_is n a b =
    both_is (Iff.trans (not-true _, ap not) (none_is (λ i. eqb (bit a i) 1 && eqb (bit b i) 0) n (inside_is a b)))
    (Iff.trans (not-true _, ap not) (fails_is (same_is a b)))

-- walks without a step, and without the first one
walk_none : (t : Tree) (v : ℕ) → walk t 0 v ≡ v
unfolding walk
walk_none t v = refl

beyond : (t : Tree) (s v u : ℕ) → walk t s v ≡ u → v ≢ u → Leads t (up t v) u
unfolding walk
beyond t zero v u e d = absurd (d e)
beyond t (suc s) v u e d = (s, e)

first_step : (t : Tree) (v u : ℕ) → Leads t (up t v) u → (s : ℕ) × (walk t (suc s) v ≡ u)
unfolding walk
first_step t v u w = w

module _ (n : ℕ) (t : Tree) (a : AcceptedTree n t) where
  abbrev rows : List Row
  rows = sorted_of (edge n t) (root t)

  abbrev place : ℕ → ℕ
  place v = row_place n t rows v

  count : length rows ≡ root t
  count = sorted_count (edge n t) (root t)

  ascending : (p q : ℕ) → p < q → q < root t → cluster_at rows p < cluster_at rows q
  ascending = ascends (edge n t) (root t) n (tree_edges n t a)

  none_passes : (test : ℕ → Bool) → ((p : ℕ) → p < root t → test p ≡ false) → lowest test (length rows) ≡ root t
  none_passes test f = lowest_none test (length rows) (none_at test (length rows) (λ p l. f p (omega (arith, count)))) ∙ count

  -- THE NUMBER of a vertex is the row that has its cluster
  row_placed : (v p : ℕ) → p < root t → get_or rows p (row 0 0) ≡ edge n t v → p ≡ place v
  row_placed v p l e =
      sym (lowest_at (λ q. eqb (cluster_at rows q) (cluster_of t v n)) (length rows) p (omega (arith, count)) (eq-eqb _ _ is)
      (λ j h. ne_eqb (cluster_at rows j) (cluster_of t v n) (λ q. omega (arith, is, ascending j p h l))))
    where
      is : cluster_at rows p ≡ cluster_of t v n
      is = cluster_at_law (edge n t) (root t) p ∙ ap (λ (r : Row). r.cluster) e

  placed : (v : ℕ) → v < root t → (place v < root t) × (get_or rows (place v) (row 0 0) ≡ edge n t v)
  placed v l =
      let (p, h, e) = row_of_law (edge n t) (root t) v l in
      let q = row_placed v p h e in
      (omega arith, ap (λ (k : ℕ). get_or rows k (row 0 0)) (sym q) ∙ e)

  place_cluster : (v : ℕ) → v < root t → cluster_at rows (place v) ≡ cluster_of t v n
  place_cluster v l = cluster_at_law (edge n t) (root t) (place v) ∙ ap (λ (r : Row). r.cluster) (placed v l).1

  edge_cluster : (p : ℕ) → p < root t → (u : ℕ) × (u < root t) × (cluster_at rows p ≡ cluster_of t u n)
  edge_cluster p l =
      let (u, h, e) = edge_at (edge n t) (root t) p l in (u, h, cluster_at_law (edge n t) (root t) p ∙ ap (λ (r : Row). r.cluster) e)

  place_apart : (u v : ℕ) → u < root t → v < root t → place u ≡ place v → u ≡ v
  place_apart u v lu lv e = a.apart u v lu lv (sym (place_cluster u lu) ∙ ap (cluster_at rows) e ∙ place_cluster v lv)

  -- the root's cluster has taxon 0, so no row has it
  place_root : place (root t) ≡ root t
  place_root =
      none_passes (λ q. eqb (cluster_at rows q) (cluster_of t (root t) n)) (λ p l. ne_eqb _ _ (differ p l))
    where
      with_first : In (cluster_of t (root t) n) 0
      with_first = (cluster_in n t a (root t) 0 (omega (arith, a.two))).1 (0, walk_none t (home_in t 0) ∙ a.first)

      differ : (p : ℕ) → p < root t → cluster_at rows p ≡ cluster_of t (root t) n → ⊥
      differ p l e =
          let (u, h, q) = edge_cluster p l in
          omega (arith, with_first, (cluster_split n t a u h).free, ap (λ (c : ℕ). bit c 0) (sym q ∙ e))

  -- the lowest row that passes a test, where the test says that x leads to the row's vertex, is x's own
  lowest_above : (x : ℕ) (test : ℕ → Bool) → x ≤ root t
      → ((p u : ℕ) → u < root t → cluster_at rows p ≡ cluster_of t u n → (test p ≡ true) ↔ Leads t x u)
      → lowest test (length rows) ≡ place x
  lowest_above x test l is = go (dec_lt x (root t))
    where
      failing : (p : ℕ) → p < root t → ((u : ℕ) → u < root t → cluster_at rows p ≡ cluster_of t u n → Leads t x u → ⊥) → test p ≡ false
      failing p lp f = let (u, lu, e) = edge_cluster p lp in (fails_is (is p u lu e)).1 (f u lu e)

      go : Dec (x < root t) → lowest test (length rows) ≡ place x
      go (yes h) =
          lowest_at test (length rows) (place x) (omega (arith, count, (placed x h).0)) ((is (place x) x h (place_cluster x h)).1 (0, walk_none t x))
          (λ p lp. failing p (omega (arith, (placed x h).0)) (λ u lu e w.
          omega (
            arith,
            ascending p (place x) lp (placed x h).0,
            place_cluster x h,
            part_le n (cluster_of t x n) (cluster_of t u n) (cluster_split n t a x h).below (part_above n t a x u w),
          )))
      go (no h) =
          let e : x ≡ root t = omega arith in
          none_passes test
          (λ p lp. failing p lp (λ u lu q w. let (s, r) = subst (λ (y : ℕ). Leads t y u) e w in omega (arith, sym r ∙ walk_root t s)))
          ∙ sym (ap place e ∙ place_root)

  -- A LINK: a cluster is strictly in another exactly where the link leads there
  no_ring : (v s : ℕ) → v < root t → walk t (suc s) v ≡ v → ⊥
  no_ring v s l e = let (j, h, q) = round (root t) in omega (arith, sym q ∙ stays t (root t) j v h (ends n t a v (omega arith)))
    where
      round : (k : ℕ) → (j : ℕ) × (k ≤ j) × (walk t j v ≡ v)
      round zero = (0, omega arith, walk_none t v)
      round (suc k) = let (j, h, q) = round k in (suc s + j, omega arith, walk_add t (suc s) j v ∙ ap (walk t j) e ∙ q)

  link_leads : (v u : ℕ) → v < root t → u < root t → Strictly n (cluster_of t v n) (cluster_of t u n) ↔ Leads t (up t v) u
  unfolding Strictly
  link_leads v u lv lu = (there, back)
    where
      there : ((i : ℕ) → i < n → In (cluster_of t v n) i → In (cluster_of t u n) i) × (cluster_of t v n ≢ cluster_of t u n) → Leads t (up t v) u
      there (part, differ) =
          let (i, l, o, h) = lt_bit n 0 (cluster_of t v n) (cluster_split n t a v lv).some (cluster_split n t a v lv).below in
          go (shared n t a v u i l h (part i l h))
        where
          go : Leads t v u ⊎ Leads t u v → Leads t (up t v) u
          go (inl (s, e)) = beyond t s v u e (λ q. differ (ap (λ (x : ℕ). cluster_of t x n) q))
          go (inr w) =
              absurd (differ (le_antisymm
              (part_le n (cluster_of t v n) (cluster_of t u n) (cluster_split n t a v lv).below part)
              (part_le n (cluster_of t u n) (cluster_of t v n) (cluster_split n t a u lu).below (part_above n t a u v w))))

      back : Leads t (up t v) u → ((i : ℕ) → i < n → In (cluster_of t v n) i → In (cluster_of t u n) i) × (cluster_of t v n ≢ cluster_of t u n)
      back w =
          let (s, e) = first_step t v u w in
          (part_above n t a v u (suc s, e), λ q. no_ring v s lv (e ∙ sym (a.apart v u lv lu q)))

  place_link : (v : ℕ) → v < root t → link_of n rows (place v) ≡ place (up t v)
  unfolding link_of
  place_link v l =
      lowest_above (up t v) (λ j. strictly_in n (cluster_at rows (place v)) (cluster_at rows j)) (a.linked v l)
      (λ p u lu e. subst (λ (b : Bool). (b ≡ true) ↔ Leads t (up t v) u) (sym (ap₂ (strictly_in n) (place_cluster v l) e))
      (Iff.trans (strictly_is n (cluster_of t v n) (cluster_of t u n)) (link_leads v u l lu)))

  -- A HOME: a taxon is in a cluster exactly where its home leads there
  place_home : (taxon : ℕ) → taxon < n → home_of rows taxon ≡ place (home_in t taxon)
  unfolding home_of
  place_home taxon l =
      lowest_above (home_in t taxon) (λ j. eqb (bit (cluster_at rows j) taxon) 1) (a.housed taxon l)
      (λ p u lu e. subst (λ (c : ℕ). (eqb (bit c taxon) 1 ≡ true) ↔ Leads t (home_in t taxon) u) (sym e)
      (Iff.trans (same_is (bit (cluster_of t u n) taxon) 1) (cluster_in n t a u taxon l)))

  -- THE SAME TREE
  rows_tree : SameTree n t (tree_of n rows) (row_place n t rows)
  unfolding tree_of
  rows_tree = record {
    edges = edges;
    within = λ v l. omega (arith, edges, (placed v l).0);
    apart = place_apart;
    every = λ p l. let (v, h, e) = edge_at (edge n t) (root t) p (omega (arith, edges)) in (v, h, sym (row_placed v p (omega (arith, edges)) e));
    top = place_root ∙ sym edges;
    links = λ v l.
        map_at (link_of n rows) 0 (length rows) (place v) _ (omega (arith, count, (placed v l).0)) ∙ ap (link_of n rows) (omega arith) ∙ place_link v l;
    weights = λ v l. get_or-map (λ r. r.weight) rows (place v) (row 0 0) ∙ ap (λ (r : Row). r.weight) (placed v l).1;
    homes = λ taxon l. map_at (home_of rows) 0 n taxon 0 l ∙ ap (home_of rows) (omega arith) ∙ place_home taxon l;
  }
    where
      edges : length (map (link_of n rows) (numbers 0 (length rows))) ≡ root t
      edges = length-map (numbers 0 (length rows)) (link_of n rows) ∙ numbers_length 0 (length rows) ∙ count

  pub same_tree : SameTree n t (tree_of n (rows_of_tree n t)) (row_place n t (rows_of_tree n t))
  same_tree = subst (λ (rs : List Row). SameTree n t (tree_of n rs) (row_place n t rs)) (sym (rows_are n t)) rows_tree

-- A TREE READ AND WRITTEN AGAIN
pub read_same : (n : ℕ) (body : List ℕ) → AllPassed (tree_checks n body)
    → let t = tree_in n body in SameTree n t (tree_of n (rows_of_tree n t)) (row_place n t (rows_of_tree n t))
read_same n body p = same_tree n (tree_in n body) (tree_accepted n body p)
