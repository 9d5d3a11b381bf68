-- THE EDGES OF THE WRITER'S TEXT that are not of length 0 are those above the vertices, each once. Assumes nothing.
use Prim.Native.Nat.{ℕ, suc, ◌+◌, ◌≤◌, ◌<◌}
use native.Mathlib.Omega.{arith}
use mathlib.Core.Path.{◌≡◌, refl, sym, ◌∙◌, ap, ap₂}
use mathlib.Core.Bool.{Bool, true, false, cond}
use mathlib.Core.List.{List, [], ◌∷◌, ◌++◌}
use lib.Dec.{ltb, eqb}
use lib.ListN.{length, get_or}
use borrow.Author.Tests.{lt-ltb}
use Rattle.statement.specs.Rows.{Row, row}
use Rattle.statement.specs.NewickText.{Shape, those_from, homed, children}
use Rattle.newick_list.proofs.Room.{Way, bare, brackets, way}
use Rattle.newick_list.proofs.Sums.{total, below, below_same, every, Rooted, whole_sum}
use Rattle.newick_back.specs.Held.{positive}
use Rattle.newick_back.specs.Drawn.{gathered, edge_at, leaf_edge, edges_in}
use Rattle.newick_back.proofs.Steps.{edges_is}
use Rattle.newick_back.proofs.Sorted.{row_total, row_append}

positive_append : (xs ys : List Row) → positive (xs ++ ys) ≡ positive xs ++ positive ys
unfolding positive
positive_append [] ys = refl
positive_append (x ∷ xs) ys = go (ltb 0 x.weight) (positive_append xs ys)
  where
    go : (b : Bool) → positive (xs ++ ys) ≡ positive xs ++ positive ys → cond b (x ∷ positive (xs ++ ys)) (positive (xs ++ ys)) ≡ cond b (x ∷ positive xs) (positive xs) ++ positive ys
    go true e = ap (λ (l : List Row). x ∷ l) e
    go false e = e

module _ (f : Row → ℕ) where
  abbrev sum : List Row → ℕ
  sum xs = row_total f (positive xs)

  sum_append : (xs ys : List Row) → sum (xs ++ ys) ≡ sum xs + sum ys
  sum_append xs ys = ap (row_total f) (positive_append xs ys) ∙ row_append f (positive xs) (positive ys)

  sum_none : sum [] ≡ 0
  unfolding positive row_total
  sum_none = refl

  sum_one : (r : Row) → 0 < r.weight → sum (r ∷ []) ≡ f r
  unfolding positive row_total
  sum_one r l = rw (lt-ltb 0 r.weight l) (omega arith)

  sum_leaves : (xs : List ℕ) → sum (gathered (λ i. leaf_edge i ∷ []) xs) ≡ 0
  unfolding gathered positive row_total
  sum_leaves [] = refl
  sum_leaves (x ∷ xs) = sum_leaves xs

  sum_gathered : (g : ℕ → List Row) (cs : List ℕ) → sum (gathered g cs) ≡ total (λ c. sum (g c)) cs
  unfolding gathered positive row_total total
  sum_gathered g [] = refl
  sum_gathered g (c ∷ cs) = omega (arith, sum_append (g c) (gathered g cs), sum_gathered g cs)

  module _ (t : Shape) (tree : Rooted t) (heavy : (c : ℕ) → c < t.edges → 0 < t.weight c) where
    edges_sum : (v : ℕ) → v ≤ t.edges → Way t v → sum (edges_in t v) ≡ total (λ c. sum (edges_in t c) + f (edge_at t c)) (children t v)
    unfolding total
    edges_sum v l (bare i b) = ap sum (edges_is t v ∙ rw b.lone) ∙ sum_none ∙ sym (ap (total (λ c. sum (edges_in t c) + f (edge_at t c))) b.kids)
    edges_sum v l (brackets e off) =
        let kids = gathered (λ c. edges_in t c ++ (edge_at t c ∷ [])) (children t v) in
        let leaves = gathered (λ i. leaf_edge i ∷ []) (homed t v) in
        let all : edges_in t v ≡ leaves ++ kids = edges_is t v ∙ rw off in
        let each : sum kids ≡ total (λ c. sum (edges_in t c) + f (edge_at t c)) (children t v) =
        sum_gathered (λ c. edges_in t c ++ (edge_at t c ∷ [])) (children t v)
        ∙ below_same (λ c. sum (edges_in t c ++ (edge_at t c ∷ []))) (λ c. sum (edges_in t c) + f (edge_at t c)) (λ c. eqb (t.link c) v) (λ c. eqb (t.link c) v) v
        (λ c h. ap (λ (x : ℕ). cond (eqb (t.link c) v) x 0)
        (sum_append (edges_in t c) (edge_at t c ∷ []) ∙ ap (λ (x : ℕ). sum (edges_in t c) + x) (sum_one (edge_at t c) (heavy c (omega arith))))) in
        omega (arith, ap sum all, sum_append leaves kids, sum_leaves (homed t v), each)

    pub whole_edges : sum (edges_in t t.edges) ≡ below (λ c. f (edge_at t c)) every t.edges
    whole_edges =
        let s = whole_sum t tree (λ v. sum (edges_in t v)) (λ v. 0) (λ c. f (edge_at t c)) (λ v l. edges_sum v l (way t v) ∙ omega arith) in
        let e = below_same (λ c. 0 + f (edge_at t c)) (λ c. f (edge_at t c)) every every t.edges (λ c l. omega arith) in
        omega (arith, s, e)

-- the sum over places is the sum over rows
pub places_total : (f : Row → ℕ) (g : ℕ → ℕ) (i : ℕ) (rows : List Row) → ((j : ℕ) → j < length rows → g (i + j) ≡ f (get_or rows j (row 0 0)))
    → total g (those_from every i (length rows)) ≡ row_total f rows
unfolding row_total those_from total
places_total f g i [] e = refl
places_total f g i (r ∷ rows) e =
    ap₂ (λ (a b : ℕ). a + b) (ap g (let z : i ≡ i + 0 = omega arith in z) ∙ e 0 (omega arith))
    (places_total f g (suc i) rows (λ j l. ap g (let z : suc i + j ≡ i + suc j = omega arith in z) ∙ e (suc j) (omega arith)))
