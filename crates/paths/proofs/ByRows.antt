-- THE PATH BETWEEN TWO HOMES, by rows: the sum of its weights is the sum of the weights of the rows that part the two taxa. Document 01, "The tree".
-- The walk up from a home comes by each row that holds the taxon, and meets the other walk at the first that holds the other taxon, else at the root.
-- Assumes nothing.
use Prim.Native.Nat.{ℕ, zero, suc, ◌+◌, ◌-◌, ◌≤◌, ◌<◌}
use native.Mathlib.Omega.{arith}
use native.Mathlib.Decide.{dec_lt}
use mathlib.Core.Path.{◌≡◌, sym, ◌∙◌, ap, ap₂}
use mathlib.Core.Logic.{◌⊎◌, inl, inr}
use mathlib.Core.Bool.{Bool, true, false, cond, true≢false}
use mathlib.Core.List.{List}
use lib.Dec.{eqb}
use lib.ListN.{length, get_or, drop, get_or-map}
use borrow.Author.Tests.{ltb-true, eqb-true, eqb-false, eq-eqb}
use Rattle.statement.specs.Cluster.{bit, In, Out}
use Rattle.statement.specs.Rows.{Row, row, clusters}
use Rattle.statement.specs.Tree.{Tree, root, cluster_at, link_of, home_of, tree_of, up, walk, on_walk, rise, climb, path_sum}
use Rattle.statement.proofs.Bits.{zero_or_one}
use Rattle.statement.proofs.Groups.{Strictly}
use Rattle.statement.proofs.Lowest.{Lowest, lowest_is, some_at}
use Rattle.statement.proofs.Walks.{root_is, up_is, link_later, ascending, walks_end}
use Rattle.statement.proofs.Answer.{Clean}
use Rattle.tree_write.proofs.Smallest.{HomeSmallest, link_smallest, home_smallest, nested}
use Rattle.tree_write.proofs.Clusters.{on_walk_home}
use Rattle.paths.specs.RowSum.{sum_over, parting, row_sum}
use Rattle.paths.proofs.Sums.{sum_add, sum_from, sum_past, sum_end}

-- the row's weight, where its cluster holds i and not j
abbrev holding : ℕ → ℕ → Row → ℕ
holding i j r = cond (eqb (bit r.cluster i) 1) (cond (eqb (bit r.cluster j) 1) 0 r.weight) 0

-- a row that parts i and j holds one or the other
either : (i j : ℕ) (r : Row) → parting i j r ≡ holding i j r + holding j i r
either i j r = at (zero_or_one r.cluster i) (zero_or_one r.cluster j)
  where
    at : Out r.cluster i ⊎ In r.cluster i → Out r.cluster j ⊎ In r.cluster j → parting i j r ≡ holding i j r + holding j i r
    at (inl x) (inl y) = rw (x, y)
    at (inl x) (inr y) = rw (x, y) (omega arith)
    at (inr x) (inl y) = rw (x, y) (omega arith)
    at (inr x) (inr y) = rw (x, y)

module _ (n : ℕ) (rows : List Row) (clean : Clean n (clusters rows)) where
  abbrev tree : Tree
  tree = tree_of n rows

  abbrev row_at : ℕ → Row
  row_at v = get_or rows v (row 0 0)

  cluster_is : (v : ℕ) → cluster_at rows v ≡ (row_at v).cluster
  cluster_is v = get_or-map (λ r. r.cluster) rows v (row 0 0)

  weight_is : (v : ℕ) → get_or tree.weights v 0 ≡ (row_at v).weight
  unfolding tree_of
  weight_is v = get_or-map (λ r. r.weight) rows v (row 0 0)

  module _ (i j : ℕ) (li : i < n) (lj : j < n) where
    -- what a vertex adds, by what its cluster holds
    held : (v : ℕ) → In (cluster_at rows v) i → Out (cluster_at rows v) j → holding i j (row_at v) ≡ get_or tree.weights v 0
    held v hi oj = rw (← cluster_is v, hi, oj) (sym (weight_is v))

    other : (v : ℕ) → Out (cluster_at rows v) i → holding i j (row_at v) ≡ 0
    other v oi = rw (← cluster_is v, oi)

    shared : (v : ℕ) → In (cluster_at rows v) j → holding i j (row_at v) ≡ 0
    shared v hj = at (zero_or_one (cluster_at rows v) i)
      where
        at : Out (cluster_at rows v) i ⊎ In (cluster_at rows v) i → holding i j (row_at v) ≡ 0
        at (inl oi) = other v oi
        at (inr hi) = rw (← cluster_is v, hi, hj)

    -- THE WALK UP FROM j'S HOME comes by the root, and else by the vertices whose clusters hold j
    abbrev met : ℕ → Bool
    met v = on_walk tree (home_of rows j) v

    root_met : met (length rows) ≡ true
    root_met =
        some_at (λ s. eqb (walk tree s (home_of rows j)) (length rows)) (suc (root tree)) (length rows) (omega (arith, root_is n rows))
        (eq-eqb _ (length rows) (walks_end n rows clean.up (home_of rows j) (home_smallest n rows clean j lj).to ∙ root_is n rows))

    met_holds : (v : ℕ) → v < length rows → met v ≡ true → In (cluster_at rows v) j
    met_holds v l e = eqb-true (bit (cluster_at rows v) j) 1 (sym (on_walk_home n rows clean j lj v l) ∙ e)

    unmet : (v : ℕ) → v ≤ length rows → met v ≡ false → (v < length rows) × Out (cluster_at rows v) j
    unmet v l e = at (dec_lt v (length rows))
      where
        at : Dec (v < length rows) → (v < length rows) × Out (cluster_at rows v) j
        at (yes h) = (h, omega (arith, eqb-false (bit (cluster_at rows v) j) 1 (sym (on_walk_home n rows clean j lj v h) ∙ e)))
        at (no h) = let q : length rows ≡ v = omega arith in absurd (true≢false (sym root_met ∙ ap met q ∙ e))

    -- FROM A VERTEX THAT HOLDS i: above one that holds j too, no row holds i and not j; and none does between a vertex and its link
    above : (v u : ℕ) → v ≤ u → u < length rows → In (cluster_at rows v) i → In (cluster_at rows v) j → holding i j (row_at u) ≡ 0
    above v u le lu hi hj = at (zero_or_one (cluster_at rows u) i)
      where
        at : Out (cluster_at rows u) i ⊎ In (cluster_at rows u) i → holding i j (row_at u) ≡ 0
        at (inl o) = other u o
        at (inr h) = shared u (nested n rows clean v u i le lu li hi h j lj hj)

    between : (v u : ℕ) → v < length rows → v < u → u < link_of n rows v → In (cluster_at rows v) i → holding i j (row_at u) ≡ 0
    between v u lv g below hi = at (zero_or_one (cluster_at rows u) i)
      where
        lu : u < length rows
        lu = omega (arith, link_later n rows clean.up v lv)

        at : Out (cluster_at rows u) i ⊎ In (cluster_at rows u) i → holding i j (row_at u) ≡ 0
        at (inl o) = other u o
        at (inr h) =
            let inside : Strictly n (cluster_at rows v) (cluster_at rows u) =
            record { part = nested n rows clean v u i (omega arith) lu li hi h; other = λ e. omega (arith, ascending n rows clean.up v u g lu) } in
            absurd (omega (arith, (link_smallest n rows clean v lv).lowest u inside))

    -- so the climb from it to where the walks meet sums the later rows that hold i and not j
    climbs : (s v : ℕ) → v ≤ length rows → (v < length rows → In (cluster_at rows v) i) → ((r : ℕ) → r < s → met (walk tree r v) ≡ false)
        → met (walk tree s v) ≡ true → climb tree s v ≡ sum_over (holding i j) (drop v rows)
    unfolding climb walk
    climbs zero v l hi before there =
        sym
        (sum_past (holding i j) rows (length rows - v) v (length rows) (omega arith) (omega arith)
        (λ u a b. above v u a b (hi (omega arith)) (met_holds v (omega arith) there))
        ∙ sum_end (holding i j) rows)
    climbs (suc s) v l hi before there =
        let (lv, oj) = unmet v l (before 0 (omega arith)) in
        let e = up_is n rows v lv in
        let (later, top) = link_later n rows clean.up v lv in
        let next : up tree v < length rows → In (cluster_at rows (up tree v)) i =
        λ h. rw e (((link_smallest n rows clean v lv).holds (omega arith)).part i li (hi lv)) in
        omega (
          arith,
          climbs s (up tree v) (omega arith) next (λ r h. before (suc r) (omega arith)) there,
          sum_past (holding i j) rows (up tree v - suc v) (suc v) (up tree v) (omega arith) (omega arith)
              (λ u a b. between v u lv (omega arith) (omega arith) (hi lv)),
          held v (hi lv) oj,
          sum_from (holding i j) rows v lv,
        )

    -- THE SIDE OF i: the climb from its home sums the rows that hold i and not j
    side : climb tree (rise tree (home_of rows i) (home_of rows j)) (home_of rows i) ≡ sum_over (holding i j) rows
    side =
        climbs (rise tree (home_of rows i) (home_of rows j)) (home_of rows i) home.to home.holds (λ r l. low.before r (omega arith) l)
        (low.hit (omega (arith, meeting)))
        ∙ sym (sum_past (holding i j) rows (home_of rows i) 0 (home_of rows i) (omega arith) home.to (λ u a b. below u b (zero_or_one (cluster_at rows u) i)))
      where
        home : HomeSmallest n rows i
        home = home_smallest n rows clean i li

        test : ℕ → Bool
        test = λ s. met (walk tree s (home_of rows i))

        low : Lowest test 0 (suc (root tree)) (rise tree (home_of rows i) (home_of rows j))
        low = lowest_is test 0 (suc (root tree))

        meeting : rise tree (home_of rows i) (home_of rows j) < suc (root tree)
        meeting =
            ltb-true (rise tree (home_of rows i) (home_of rows j)) (suc (root tree))
            (some_at test (suc (root tree)) (length rows) (omega (arith, root_is n rows))
            (ap met (walks_end n rows clean.up (home_of rows i) home.to ∙ root_is n rows) ∙ root_met))

        below : (u : ℕ) → u < home_of rows i → Out (cluster_at rows u) i ⊎ In (cluster_at rows u) i → holding i j (row_at u) ≡ 0
        below u l (inl o) = other u o
        below u l (inr h) = absurd (omega (arith, home.lowest u h))

  -- THE PATH BETWEEN TWO HOMES, BY ROWS
  pub path_by_rows : (i j : ℕ) → i < n → j < n → path_sum tree (home_of rows i) (home_of rows j) ≡ row_sum rows i j
  unfolding path_sum
  path_by_rows i j li lj =
      ap₂ (λ (a b : ℕ). a + b) (side i j li lj) (side j i lj li) ∙ sym (sum_add (parting i j) (holding i j) (holding j i) (either i j) rows)
