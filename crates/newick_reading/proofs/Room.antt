-- There are at most 2n-3 clusters, so the table has room for them. Assumes nothing.
use Prim.Native.Nat.{ℕ, ◌+◌, ◌*◌, ◌^◌, ◌≤◌, ◌<◌, min}
use native.Mathlib.Omega.{arith}
use mathlib.Core.Path.{◌≡◌, refl, sym, ◌∙◌, ap, subst}
use mathlib.Core.Logic.{◌⊎◌, inl, inr, ⊎_elim}
use mathlib.Core.Bool.{Bool, true, false, cond, ◌||◌, true≢false, false≢true}
use mathlib.Core.List.{List, [], ◌∷◌, map}
use lib.Dec.{eqb}
use lib.ListN.{length, get_or, length-map}
use lib.Pow.{pow_pos}
use borrow.Author.Tests.{eqb-true, eqb-false, eq-eqb}
use Rattle.statement.specs.Cluster.{Split, Conflict}
use Rattle.statement.specs.Rows.{Row, row, clusters, Mem, Ascending}
use Rattle.statement.specs.Tree.{sort_rows}
use Rattle.statement.proofs.Listed.{mem_get_d, asc_get_d}
use Rattle.statement.proofs.Laminar as laminar
use Rattle.row_sort.proofs.Sorting.{Held, mem_held, held_mem, sort_held, sort_length, sort_up, Different}
use Rattle.statement.specs.Sentence.{Children, Edge, among, taxa_of, edges_at, split_made}
use Rattle.numerals.specs.Numerals.{number_limit}
use Rattle.newick_noted.proofs.Taxa.{Good, or_right}
use Rattle.newick_noted.proofs.Edges.{entry_of}
use Rattle.newick_noted.proofs.Rows.{solid, add_all}
use Rattle.newick_noted.proofs.Once.{clusters_e, clusters_h, Distinct, distinct_all, among_all}
use Rattle.newick_reading.proofs.Nested.{InE, Nest, nested, no_conflict, cluster_split}

pub mem_among : (x : ℕ) (xs : List ℕ) → Mem x xs → among x xs ≡ true
mem_among x [] x'' = elim x'' [ ]
mem_among x (y ∷ ys) (inl e) = rw (eq-eqb x y e)
mem_among x (y ∷ ys) (inr m) = or_right (eqb x y) (among x ys) (mem_among x ys m)

pub among_mem : (x : ℕ) (xs : List ℕ) → among x xs ≡ true → Mem x xs
among_mem x [] e = absurd (false≢true e)
among_mem x (y ∷ ys) e = go (eqb x y) refl e (λ k. among_mem x ys k)
  where
    go : (b : Bool) → eqb x y ≡ b → (b || among x ys) ≡ true → (among x ys ≡ true → Mem x ys) → (x ≡ y) ⊎ Mem x ys
    go true q e ih = inl (eqb-true x y q)
    go false q e ih = inr (ih e)

bare : List ℕ → List Row
bare cs = map (λ c. row c 0) cs

bare_clusters : (cs : List ℕ) → clusters (bare cs) ≡ cs
unfolding bare
bare_clusters [] = refl
bare_clusters (c ∷ cs) = ap (λ (s : List ℕ). c ∷ s) (bare_clusters cs)

bare_different : (cs : List ℕ) → Distinct cs → Different (bare cs)
unfolding bare
bare_different [] d = tt
bare_different (c ∷ cs) d =
    ((λ m. true≢false (sym (mem_among c cs (subst (Mem c) (bare_clusters cs) m)) ∙ d.0)), bare_different cs d.1)

module _ (n : ℕ) (two : 2 ≤ n) (E : List Edge) (nest : (a b : Edge) → InE a E → InE b E → Nest a.below b.below) (cs : List ℕ) (distinct : Distinct cs)
    (of : (x : ℕ) → among x cs ≡ true → (e : Edge) × InE e E × (x ≡ split_made n e) × (x ≡ 0 → ⊥)) where
  sorted : List ℕ
  sorted = clusters (sort_rows (bare cs))

  count : length sorted ≡ length cs
  unfolding sorted bare
  count = length-map (sort_rows (bare cs)) (λ r. r.cluster) ∙ sort_length (bare cs) ∙ length-map cs (λ c. row c 0)

  held_in : (r : Row) → Held r (bare cs) → among r.cluster cs ≡ true
  held_in r h = mem_among r.cluster cs (subst (Mem r.cluster) (bare_clusters cs) (held_mem (λ r. r.cluster) r (bare cs) h))

  split_of : (x : ℕ) → among x cs ≡ true → Split n x
  split_of x h =
      let (e, i, q, f) = of x h in
      subst (Split n) (sym q) (cluster_split n (omega arith) e (λ z. f (q ∙ z)))

  up : Ascending 1 (2 ^ n) sorted
  unfolding sorted
  up = sort_up 1 (2 ^ n) (bare cs) (pow_pos n) (λ r h. let s = split_of r.cluster (held_in r h) in (s.some, s.below)) (bare_different cs distinct)

  at : (i : ℕ) → i < length cs → among (get_or sorted i 0) cs ≡ true
  unfolding sorted
  at i l =
      let (r, h, q) = mem_held (λ r. r.cluster) (get_or sorted i 0) (sort_rows (bare cs)) (mem_get_d sorted i (omega (arith, count))) in
      ap (λ (x : ℕ). among x cs) q ∙ held_in r ((sort_held r (bare cs)).0 h)

  pub room : length cs + 3 ≤ 2 * n
  room =
      laminar.bound n (length cs) (λ i. get_or sorted i 0) two (λ i j l h. asc_get_d 1 (2 ^ n) sorted up i j l (omega (arith, count)))
      (λ i l. split_of (get_or sorted i 0) (at i l))
      (λ i j li lj c.
      let (a, ia, qa, fa) = of (get_or sorted i 0) (at i li) in
      let (b, ib, qb, fb) = of (get_or sorted j 0) (at j lj) in
      no_conflict n (omega arith) a b (subst (λ (z : ℕ). Conflict n z (split_made n b)) qa (subst (λ (z : ℕ). Conflict n (get_or sorted i 0) z) qb c)) (nest a b ia ib))

-- the clusters entered are those of edges
pub solid_of : (n : ℕ) (es : List Edge) (x : ℕ) → among x (clusters_e (solid (map (entry_of n) es))) ≡ true
    → (e : Edge) × InE e es × (x ≡ split_made n e) × (x ≡ 0 → ⊥)
unfolding solid
solid_of n [] x h = absurd (false≢true h)
solid_of n (e ∷ es) x h = go (eqb (min e.weight number_limit) 0) (eqb (split_made n e) 0) refl h (λ k. solid_of n es x k)
  where
    later : (d : Edge) × InE d es × (x ≡ split_made n d) × (x ≡ 0 → ⊥) → (d : Edge) × ((d ≡ e) ⊎ InE d es) × (x ≡ split_made n d) × (x ≡ 0 → ⊥)
    later (d, i, q, f) = (d, inr i, q, f)

    here : (b : Bool) → eqb x (split_made n e) ≡ b → (split_made n e ≡ 0 → ⊥) → (b || among x (clusters_e (solid (map (entry_of n) es)))) ≡ true
        → (among x (clusters_e (solid (map (entry_of n) es))) ≡ true → (d : Edge) × InE d es × (x ≡ split_made n d) × (x ≡ 0 → ⊥))
        → (d : Edge) × ((d ≡ e) ⊎ InE d es) × (x ≡ split_made n d) × (x ≡ 0 → ⊥)
    here true q f h ih = let p = eqb-true x (split_made n e) q in (e, inl refl, p, λ z. f (sym p ∙ z))
    here false q f h ih = later (ih h)

    go : (a b : Bool) → eqb (split_made n e) 0 ≡ b
        → among x (clusters_e (cond a (solid (map (entry_of n) es)) (cond b (solid (map (entry_of n) es)) (entry_of n e ∷ solid (map (entry_of n) es))))) ≡ true
        → (among x (clusters_e (solid (map (entry_of n) es))) ≡ true → (d : Edge) × InE d es × (x ≡ split_made n d) × (x ≡ 0 → ⊥))
        → (d : Edge) × ((d ≡ e) ⊎ InE d es) × (x ≡ split_made n d) × (x ≡ 0 → ⊥)
    go true b q h ih = later (ih h)
    go false true q h ih = later (ih h)
    go false false q h ih = here (eqb x (split_made n e)) refl (eqb-false (split_made n e) 0 q) h ih

pub entered_of : (n : ℕ) (es : List Edge) (x : ℕ) → among x (clusters_h (add_all [] (solid (map (entry_of n) es)))) ≡ true
    → (e : Edge) × InE e es × (x ≡ split_made n e) × (x ≡ 0 → ⊥)
entered_of n es x h = ⊎_elim (λ z. absurd (false≢true z)) (λ k. solid_of n es x k) (among_all (solid (map (entry_of n) es)) [] x h)

-- THE ROOM of the table
pub enough : (n : ℕ) (f : Children) → 2 ≤ n → Good n [] (taxa_of f) → length (add_all [] (solid (map (entry_of n) (edges_at 1 f)))) + 3 ≤ 2 * n
enough n f two g =
    let R = add_all [] (solid (map (entry_of n) (edges_at 1 f))) in
    let h = room n two (edges_at 1 f) (nested n f 1 [] g) (clusters_h R) (distinct_all (solid (map (entry_of n) (edges_at 1 f))) [] tt) (entered_of n (edges_at 1 f)) in
    omega (arith, length-map R (λ r. r.cluster), h)
