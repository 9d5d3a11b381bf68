-- What a reader says of a sentence whose taxa are those below n, each once, and whose edges that are not of length 0 are, sorted, the rows of a
-- list. Assumes nothing.
use Prim.Native.Nat.{ℕ, suc, ◌+◌, ◌^◌, ◌≤◌, ◌<◌}
use native.Mathlib.Omega.{arith}
use native.Mathlib.Decide.{dec_lt, ℕ_discrete}
use mathlib.Core.Path.{◌≡◌, refl, sym, ◌∙◌, ap, ap₂, subst}
use mathlib.Core.Logic.{inl, inr}
use mathlib.Core.Bool.{Bool, true, false, cond, ◌||◌}
use mathlib.Core.List.{List, [], ◌∷◌, ◌++◌, map, append_assoc}
use lib.Dec.{ltb, eqb}
use borrow.Author.Tests.{eq-eqb, ne_eqb, lt-ltb, le-ltb}
use Rattle.statement.specs.Cluster.{group_of}
use Rattle.statement.specs.Rows.{Row, row, clusters, Mem, Ascending}
use Rattle.row_sort.proofs.Sorting.{Held, Different}
use Rattle.statement.specs.Sentence.{Children, past_leaf, past_group, leaf, group, leaf_then, group_then, value, Edge, among, taxa_of, edges_at, kept_edges}
use Rattle.newick_noted.proofs.Taxa.{Good}
use Rattle.newick_reading.proofs.Nested.{InE}
use Rattle.newick_list.proofs.Sums.{total, total_append}
use Rattle.newick_back.specs.Held.{mask, rows_below, positive}
use Rattle.newick_back.proofs.Counts.{one, count, mask_total, parts_group}
use Rattle.newick_back.proofs.Sorted.{row_total}

-- COUNTS, and the reader's test
count_cons : (i x : ℕ) (xs : List ℕ) → count i (x ∷ xs) ≡ one i x + count i xs
unfolding total
count_cons i x xs = refl

pub count_none : (i : ℕ) → count i [] ≡ 0
unfolding total
count_none i = refl

one_own : (i : ℕ) → one i i ≡ 1
one_own i = rw (eq-eqb i i refl)

one_other : (i x : ℕ) → (x ≡ i → ⊥) → one i x ≡ 0
one_other i x o = rw (ne_eqb x i o)

pub among_none : (x : ℕ) (xs : List ℕ) → count x xs ≡ 0 → among x xs ≡ false
among_none x [] e = refl
among_none x (y ∷ ys) e = go (ℕ_discrete y x) (λ k. among_none x ys k)
  where
    go : Dec (y ≡ x) → (count x ys ≡ 0 → among x ys ≡ false) → (eqb x y || among x ys) ≡ false
    go (yes q) ih = absurd (omega (arith, e, count_cons x y ys, one_own x, ap (one x) q))
    go (no q) ih = rw (ne_eqb x y (λ z. q (sym z))) (ih (omega (arith, e, count_cons x y ys)))

pub among_some : (x : ℕ) (xs : List ℕ) → 0 < count x xs → among x xs ≡ true
among_some x [] l = absurd (omega (arith, count_none x))
among_some x (y ∷ ys) l = go (ℕ_discrete y x) (λ k. among_some x ys k)
  where
    go : Dec (y ≡ x) → (0 < count x ys → among x ys ≡ true) → (eqb x y || among x ys) ≡ true
    go (yes q) ih = rw (eq-eqb x y (sym q))
    go (no q) ih = rw (ne_eqb x y (λ z. q (sym z))) (ih (omega (arith, l, count_cons x y ys, one_other x y q)))

count_among : (x : ℕ) (xs : List ℕ) → count x xs ≤ 1 → count x xs ≡ cond (among x xs) 1 0
count_among x xs l = go (dec_lt 0 (count x xs))
  where
    go : Dec (0 < count x xs) → count x xs ≡ cond (among x xs) 1 0
    go (yes k) = let e : count x xs ≡ 1 = omega arith in e ∙ sym (rw (among_some x xs k))
    go (no k) = let e : count x xs ≡ 0 = omega arith in e ∙ sym (rw (among_none x xs e))

-- A GROUP BY ITS TAXA: each at most once, and below n
total_below : (f : ℕ → ℕ) (n : ℕ) (xs : List ℕ) → ((i : ℕ) → n ≤ i → count i xs ≡ 0) → total f xs ≡ total (λ x. cond (ltb x n) (f x) 0) xs
unfolding total
total_below f n [] h = refl
total_below f n (x ∷ xs) h = go (dec_lt x n) (total_below f n xs (λ i l. omega (arith, h i l, count_cons i x xs)))
  where
    go : Dec (x < n) → total f xs ≡ total (λ x. cond (ltb x n) (f x) 0) xs → f x + total f xs ≡ cond (ltb x n) (f x) 0 + total (λ x. cond (ltb x n) (f x) 0) xs
    go (yes l) e = rw (lt-ltb x n l) (ap (λ (s : ℕ). f x + s) e)
    go (no l) e = absurd (omega (arith, h x (omega arith), count_cons x x xs, one_own x))

pub group_taxa : (n : ℕ) (xs : List ℕ) → ((i : ℕ) → count i xs ≤ 1) → ((i : ℕ) → n ≤ i → count i xs ≡ 0) → mask xs ≡ group_of (λ i. among i xs) n
group_taxa n xs once low =
    mask_total xs ∙ total_below (λ x. 2 ^ x) n xs low ∙ parts_group xs (λ i. among i xs) n (λ i l. count_among i xs (once i))

-- THE TAXA: none repeated, none that is not below n
pub good_count : (n : ℕ) (before xs : List ℕ) → ((i : ℕ) → count i xs + count i before ≤ 1) → ((i : ℕ) → n ≤ i → count i xs ≡ 0) → Good n before xs
good_count n before [] once low = tt
good_count n before (x ∷ xs) once low = (
  below (dec_lt x n),
  among_none x before (omega (arith, once x, count_cons x x xs, one_own x)),
  good_count n (x ∷ before) xs (λ i. omega (arith, once i, count_cons i x xs, count_cons i x before)) (λ i k. omega (arith, low i k, count_cons i x xs)),
)
  where
    below : Dec (x < n) → x < n
    below (yes k) = k
    below (no k) = absurd (omega (arith, low x (omega arith), count_cons x x xs, one_own x))

map_two : {A B : Type 0} (f : A → B) (xs ys : List A) → map f (xs ++ ys) ≡ map f xs ++ map f ys
map_two f [] ys = refl
map_two f (x ∷ xs) ys = ap (λ l. f x ∷ l) (map_two f xs ys)

-- THE EDGES, one by one
abbrev pub All : (Edge → Type 0) → List Edge → Type 0
All P [] = Unit {0}
All P (e ∷ es) = P e × All P es

all_append : (P : Edge → Type 0) (xs ys : List Edge) → All P xs → All P ys → All P (xs ++ ys)
all_append P [] ys h k = k
all_append P (x ∷ xs) ys h k = (h.0, all_append P xs ys h.1 k)

pub all_map : (P Q : Edge → Type 0) (xs : List Edge) → ((e : Edge) → P e → Q e) → All P xs → All Q xs
all_map P Q [] f h = tt
all_map P Q (x ∷ xs) f h = (f x h.0, all_map P Q xs f h.1)

pub all_both : (P Q : Edge → Type 0) (xs : List Edge) → All P xs → All Q xs → All (λ e. P e × Q e) xs
all_both P Q [] h k = tt
all_both P Q (x ∷ xs) h k = ((h.0, k.0), all_both P Q xs h.1 k.1)

pub all_in : (P : Edge → Type 0) (xs : List Edge) → All P xs → (e : Edge) → InE e xs → P e
all_in P [] h e i = absurd i
all_in P (x ∷ xs) h e (inl q) = subst P (sym q) h.0
all_in P (x ∷ xs) h e (inr i) = all_in P xs h.1 e i

pub all_kept : (P : Edge → Type 0) (xs : List Edge) → All P xs → All P (kept_edges xs)
unfolding kept_edges
all_kept P [] h = tt
all_kept P (x ∷ xs) h = go (eqb x.weight 0) (all_kept P xs h.1)
  where
    go : (b : Bool) → All P (kept_edges xs) → All P (cond b (kept_edges xs) (x ∷ kept_edges xs))
    go true k = k
    go false k = (h.0, k)

-- the taxa below an edge are taxa of the sentence
abbrev pub Few : Children → Edge → Type 0
Few f e = (i : ℕ) → count i e.below ≤ count i (taxa_of f)

pub all_few : (p : ℕ) (f : Children) → All (Few f) (edges_at p f)
unfolding edges_at taxa_of
all_few p (leaf x w) = ((λ i. omega arith), tt)
all_few p (group f w) = all_append (Few f) (edges_at (p + 1) f) _ (all_few (p + 1) f) ((λ i. omega arith), tt)
all_few p (leaf_then x w r) = (
  (λ i. omega (arith, count_cons i (value x) [], count_cons i (value x) (taxa_of r), count_none i)),
  all_map (Few r) (Few (leaf_then x w r)) (edges_at _ r) (λ e h i. omega (arith, h i, count_cons i (value x) (taxa_of r))) (all_few (past_leaf p x w) r),
)
all_few p (group_then f w r) =
    all_append (Few (group_then f w r)) (edges_at _ f) _
    (all_map (Few f) (Few (group_then f w r)) (edges_at _ f) (λ e h i. omega (arith, h i, total_append (one i) (taxa_of f) (taxa_of r))) (all_few (p + 1) f)) (
      (λ i. omega (arith, total_append (one i) (taxa_of f) (taxa_of r))),
      all_map (Few r) (Few (group_then f w r)) (edges_at _ r) (λ e h i. omega (arith, h i, total_append (one i) (taxa_of f) (taxa_of r))) (all_few (past_group p f w) r),
    )

-- an edge by the number of the group below it
abbrev pub row_below : Edge → Row
row_below e = row (mask e.below) e.weight

pub edges_are : (p : ℕ) (f : Children) → map row_below (edges_at p f) ≡ rows_below f
unfolding edges_at rows_below taxa_of
edges_are p (leaf x w) = refl
edges_are p (group f w) = map_two row_below (edges_at _ f) _ ∙ ap (λ (l : List Row). l ++ (row (mask (taxa_of f)) (value w) ∷ [])) (edges_are (p + 1) f)
edges_are p (leaf_then x w r) = ap (λ (l : List Row). row (mask (value x ∷ [])) (value w) ∷ l) (edges_are (past_leaf p x w) r)
edges_are p (group_then f w r) =
    map_two row_below (edges_at _ f) _
    ∙ ap₂ (λ (l m : List Row). l ++ (row (mask (taxa_of f)) (value w) ∷ m)) (edges_are (p + 1) f) (edges_are (past_group p f w) r)
    ∙ sym (append_assoc (rows_below f) (row (mask (taxa_of f)) (value w) ∷ []) (rows_below r))

pub kept_are : (es : List Edge) → map row_below (kept_edges es) ≡ positive (map row_below es)
unfolding kept_edges positive
kept_are [] = refl
kept_are (e ∷ es) = go (dec_lt 0 e.weight) (kept_are es)
  where
    go : Dec (0 < e.weight) → map row_below (kept_edges es) ≡ positive (map row_below es)
        → map row_below (cond (eqb e.weight 0) (kept_edges es) (e ∷ kept_edges es)) ≡ cond (ltb 0 e.weight) (row_below e ∷ positive (map row_below es)) (positive (map row_below es))
    go (yes l) h = rw (ne_eqb e.weight 0 (λ z. omega arith), lt-ltb 0 e.weight l) (ap (λ (x : List Row). row_below e ∷ x) h)
    go (no l) h = rw (eq-eqb e.weight 0 (let z : e.weight ≡ 0 = omega arith in z), le-ltb 0 e.weight (let z : e.weight ≤ 0 = omega arith in z)) h

pub all_held : (es : List Edge) → All (λ e. Held (row_below e) (map row_below es)) es
all_held [] = tt
all_held (e ∷ es) = (inl refl, all_map (λ x. Held (row_below x) (map row_below es)) (λ x. Held (row_below x) (map row_below (e ∷ es))) es (λ x h. inr h) (all_held es))

-- rows whose clusters come once each
count_mem : (c : ℕ) (xs : List ℕ) → Mem c xs → 0 < count c xs
count_mem c [] m = absurd m
count_mem c (x ∷ xs) (inl e) = omega (arith, count_cons c x xs, ap (one c) (sym e), one_own c)
count_mem c (x ∷ xs) (inr m) = omega (arith, count_cons c x xs, count_mem c xs m)

pub different_once : (rows : List Row) → ((c : ℕ) → count c (clusters rows) ≤ 1) → Different rows
different_once [] once = tt
different_once (r ∷ rs) once = (
  (λ m. omega (arith, once r.cluster, count_cons r.cluster r.cluster (clusters rs), one_own r.cluster, count_mem r.cluster (clusters rs) m)),
  different_once rs (λ c. omega (arith, once c, count_cons c r.cluster (clusters rs))),
)

-- the clusters of ascending rows, each at most once
abbrev pub row_one : ℕ → Row → ℕ
row_one c r = one c r.cluster

pub rows_count : (c : ℕ) (rows : List Row) → count c (clusters rows) ≡ row_total (row_one c) rows
unfolding total row_total
rows_count c [] = refl
rows_count c (r ∷ rs) = ap (λ (s : ℕ). one c r.cluster + s) (rows_count c rs)

low_none : (c low high : ℕ) (xs : List ℕ) → c < low → Ascending low high xs → count c xs ≡ 0
low_none c low high [] l up = count_none c
low_none c low high (x ∷ xs) l up =
    omega (arith, count_cons c x xs, one_other c x (λ e. omega (arith, up.0)), low_none c (suc x) high xs (omega (arith, up.0)) up.1)

pub asc_once : (c low high : ℕ) (xs : List ℕ) → Ascending low high xs → count c xs ≤ 1
asc_once c low high [] up = omega (arith, count_none c)
asc_once c low high (x ∷ xs) up = go (ℕ_discrete x c) (asc_once c (suc x) high xs up.1)
  where
    go : Dec (x ≡ c) → count c xs ≤ 1 → count c (x ∷ xs) ≤ 1
    go (yes e) ih = omega (arith, count_cons c x xs, ap (one c) e, one_own c, low_none c (suc x) high xs (omega arith) up.1)
    go (no o) ih = omega (arith, count_cons c x xs, one_other c x o)

-- THE TAXA of a sentence, each of those below n once
module _ (n : ℕ) (f : Children) (each : (i : ℕ) → count i (taxa_of f) ≡ cond (ltb i n) 1 0) where
  pub once : (i : ℕ) → count i (taxa_of f) ≤ 1
  once i = omega (arith, each i, small (ltb i n))
    where
      small : (b : Bool) → ◌≤◌ (cond b 1 0) 1
      small true = omega arith
      small false = omega arith

  pub low : (i : ℕ) → n ≤ i → count i (taxa_of f) ≡ 0
  low i l = each i ∙ rw (le-ltb i n l)

  pub taxa_good : Good n [] (taxa_of f)
  taxa_good = good_count n [] (taxa_of f) (λ i. omega (arith, once i, count_none i)) low

  pub taxa_all : (x : ℕ) → x < n → among x (taxa_of f) ≡ true
  taxa_all x l = among_some x (taxa_of f) (omega (arith, each x, here))
    where
      here : ◌≡◌ {A = ℕ} (cond (ltb x n) 1 0) 1
      here = rw (lt-ltb x n l)
