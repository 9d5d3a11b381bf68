-- WHAT ADDING A TAXON COSTS on a matrix, counted as document 02 §7 counts it. Assumes nothing.
use Prim.Native.Nat.{ℕ, zero, suc, ◌+◌, ◌*◌, ◌-◌, ◌^◌, ◌≤◌}
use native.Mathlib.Omega.{arith}
use mathlib.Core.Path.{◌≡◌, refl, sym, ◌∙◌, ap, subst}
use mathlib.Core.Logic.{inl, inr, ◌↔◌}
use mathlib.Core.Bool.{Bool, true, false, cond, not, true≢false}
use mathlib.Core.List.{List, [], ◌∷◌, map}
use lib.Dec.{T}
use lib.ListN.{length, length-append, length-map}
use lib.Pow.{pow_pos}
use borrow.Author.Tests.{le-ltb, ne_eqb}
use Rattle.statement.specs.Cluster.{Split, Trivial}
use Rattle.statement.specs.Rows.{Row, row, clusters, Ascending, Mem}
use Rattle.statement.specs.Lowest.{somewhere}
use Rattle.statement.specs.Matrix.{weight_limit}
use Rattle.statement.specs.Growing.{alone, candidates, with_trivial, Manner, by_matrix, cost_of, trivials, others}
use Rattle.statement.proofs.Answer.{Clean, keep_if, ins, fill_to, fill}
use Rattle.statement.proofs.Instances.{trivial}
use Rattle.statement.proofs.Listed.{asc_le, asc_keep, clean_split, mem_keep, mem_keep_of, asc_unique}
use Rattle.statement.proofs.Lowest.{some_of, none_of}
use Rattle.statement.proofs.Single.{trivial_single, single_trivial}
use Rattle.statement.proofs.Pairs.{alone_single, single_alone}
use Rattle.statement.proofs.Filled.{ins_asc, fill_asc, fill_mem, clusters_trivial}

parts : (p : ℕ → Bool) (xs : List ℕ) → length xs ≡ length (keep_if p xs) + length (keep_if (λ c. not (p c)) xs)
unfolding keep_if
parts p [] = refl
parts p (x ∷ xs) = go (p x) (parts p xs)
  where
    go : (b : Bool) → length xs ≡ length (keep_if p xs) + length (keep_if (λ c. not (p c)) xs)
        → suc (length xs) ≡ length (cond b (x ∷ keep_if p xs) (keep_if p xs)) + length (cond (not b) (x ∷ keep_if (λ c. not (p c)) xs) (keep_if (λ c. not (p c)) xs))
    go true ih = omega arith
    go false ih = omega arith

ins_end : (x lo : ℕ) (ys : List ℕ) → Ascending lo x ys → length (ins x ys) ≡ suc (length ys)
unfolding ins
ins_end x lo [] a = refl
ins_end x lo (y ∷ ys) a =
    let l = asc_le (suc y) x ys a.1 in
    rw (le-ltb x y (omega arith), ne_eqb x y (λ e. omega arith)) (ap suc (ins_end x (suc y) ys a.1))

wider : (lo hi hi' : ℕ) (ys : List ℕ) → hi ≤ hi' → Ascending lo hi ys → Ascending lo hi' ys
wider lo hi hi' [] l h = omega arith
wider lo hi hi' (y ∷ ys) l h = (h.0, wider (suc y) hi hi' ys l h.1)

ins_top : (x lo : ℕ) (ys : List ℕ) → lo ≤ x → Ascending lo x ys → Ascending lo (suc x) (ins x ys)
ins_top x lo ys l a = ins_asc x lo (suc x) ys l (omega arith) (wider lo x (suc x) ys (omega arith) a)

pows : (k : ℕ) → (length (fill_to (suc k) []) ≡ k) × Ascending 1 (suc (2 ^ k)) (fill_to (suc k) [])
unfolding fill_to
pows zero = (refl, omega arith)
pows (suc k) =
    let ih = pows k in
    let a = wider 1 (suc (2 ^ k)) (2 ^ suc k) (fill_to (suc k) []) (omega (arith, pow_pos k)) ih.1 in
    (ins_end (2 ^ suc k) 1 (fill_to (suc k) []) a ∙ ap suc ih.0, ins_top (2 ^ suc k) 1 (fill_to (suc k) []) (omega (arith, pow_pos k)) a)

fill_none : (k : ℕ) → length (fill k []) ≡ trivials k
unfolding fill trivials fill_to ins
fill_none zero = refl
fill_none (suc zero) = refl
fill_none (suc (suc zero)) = refl
fill_none (suc (suc (suc k))) =
    let ih = pows (suc (suc k)) in
    ins_end (2 ^ suc (suc (suc k)) - 2) 1 (fill_to (suc (suc (suc k))) [])
    (wider 1 (suc (2 ^ suc (suc k))) (2 ^ suc (suc (suc k)) - 2) (fill_to (suc (suc (suc k))) []) (omega (arith, pow_pos k)) ih.1)
    ∙ ap suc ih.0

-- THE COUNT: every trivial split, listed or not, and every listed row that is not trivial
fill_count : (k : ℕ) (rows : List ℕ) → Clean k rows → length (fill k rows) ≡ trivials k + length (keep_if (λ c. not (trivial k c)) rows)
fill_count k rows w =
    parts (trivial k) (fill k rows)
    ∙ omega (arith, ap length low, fill_none k, ap length high)
  where
    mem_none : (c : ℕ) → Mem c (fill k []) → Split k c × T (trivial k c)
    mem_none c m = elim ((fill_mem k c []).0 m) [ inl s ↦ s | inr b ↦ absurd b ]

    low : keep_if (trivial k) (fill k rows) ≡ fill k []
    low =
        asc_unique 1 (2 ^ k) (keep_if (trivial k) (fill k rows)) (fill k []) (asc_keep (trivial k) 1 (2 ^ k) (fill k rows) (fill_asc k rows w.up))
        (fill_asc k [] (pow_pos k))
        (λ c. (there c, λ m. let s = mem_none c m in mem_keep (trivial k) c (fill k rows) ((fill_mem k c rows).1 (inl s)) s.1))
      where
        there : (c : ℕ) → Mem c (keep_if (trivial k) (fill k rows)) → Mem c (fill k [])
        there c m =
            let p = mem_keep_of (trivial k) c (fill k rows) m in
            (fill_mem k c []).1 (inl (elim ((fill_mem k c rows).0 p.0) [ inl s ↦ s | inr b ↦ (clean_split k rows w c b, p.1) ]))

    clash : (b : Bool) → T b → T (not b) → ⊥
    clash true x y = y
    clash false x y = x

    high : keep_if (λ c. not (trivial k c)) (fill k rows) ≡ keep_if (λ c. not (trivial k c)) rows
    high =
        asc_unique 1 (2 ^ k) (keep_if (λ c. not (trivial k c)) (fill k rows)) (keep_if (λ c. not (trivial k c)) rows)
        (asc_keep (λ c. not (trivial k c)) 1 (2 ^ k) (fill k rows) (fill_asc k rows w.up))
        (asc_keep (λ c. not (trivial k c)) 1 (2 ^ k) rows w.up)
        (λ c. (there c, back c))
      where
        there : (c : ℕ) → Mem c (keep_if (λ c. not (trivial k c)) (fill k rows)) → Mem c (keep_if (λ c. not (trivial k c)) rows)
        there c m =
            let p = mem_keep_of (λ c. not (trivial k c)) c (fill k rows) m in
            mem_keep (λ c. not (trivial k c)) c rows (elim ((fill_mem k c rows).0 p.0) [ inl s ↦ absurd (clash (trivial k c) s.1 p.1) | inr b ↦ b ]) p.1

        back : (c : ℕ) → Mem c (keep_if (λ c. not (trivial k c)) rows) → Mem c (keep_if (λ c. not (trivial k c)) (fill k rows))
        back c m =
            let p = mem_keep_of (λ c. not (trivial k c)) c rows m in
            mem_keep (λ c. not (trivial k c)) c (fill k rows) ((fill_mem k c rows).1 (inr p.0)) p.1

-- what is counted: every trivial split once, and no other
pub trivials_are : (k : ℕ) → (cs : List ℕ) × Ascending 1 (2 ^ k) cs × ((c : ℕ) → Mem c cs ↔ (Split k c × Trivial k c)) × (length cs ≡ trivials k)
trivials_are k = (fill k [], fill_asc k [] (pow_pos k), λ c. (there c, back c), fill_none k)
  where
    there : (c : ℕ) → Mem c (fill k []) → Split k c × Trivial k c
    there c m = elim ((fill_mem k c []).0 m) [ inl s ↦ (s.0, trivial_single k c s.0 s.1) | inr b ↦ absurd b ]

    back : (c : ℕ) → Split k c × Trivial k c → Mem c (fill k [])
    back c (s, (u, l, h)) = (fill_mem k c []).1 (inl (s, single_trivial k c u s l h))

-- and the clusters that are not trivial
others_are : (k : ℕ) (cs : List ℕ) → ((c : ℕ) → Mem c cs → Split k c) → others k cs ≡ length (keep_if (λ c. not (trivial k c)) cs)
unfolding others keep_if
others_are k [] split = refl
others_are k (c ∷ cs) split = go (somewhere (alone k c) k) refl (trivial k c) refl (others_are k cs (λ a m. split a (inr m)))
  where
    go : (a : Bool) → somewhere (alone k c) k ≡ a → (b : Bool) → trivial k c ≡ b → others k cs ≡ length (keep_if (λ c. not (trivial k c)) cs)
        → cond a (others k cs) (suc (others k cs)) ≡ length (cond (not b) (c ∷ keep_if (λ c. not (trivial k c)) cs) (keep_if (λ c. not (trivial k c)) cs))
    go true e true f ih = ih
    go false e false f ih = ap suc ih
    go true e false f ih =
        let (u, l, h) = some_of (alone k c) k e in
        absurd (subst T f (single_trivial k c u (split c (inl refl)) l (alone_single k c u h)))
    go false e true f ih =
        let (u, l, h) = trivial_single k c (split c (inl refl)) (subst T (sym f) tt) in
        absurd (true≢false (sym (single_alone k c u h) ∙ none_of (alone k c) k e u l))

-- THE COST of the next taxon: a trial for each candidate
pub cost_candidates : (g : Manner) (k : ℕ) (rows : List Row) → length (candidates g.most k (g.parents k rows)) ≡ cost_of g k rows
cost_candidates g k rows =
    let parents = g.parents k rows in
    omega (
      arith,
      length-append parents (row (2 ^ k) g.most ∷ map (λ r. row (2 ^ k + r.cluster) r.weight) parents),
      length-map parents (λ r. row (2 ^ k + r.cluster) r.weight),
    )

-- on a matrix as document 02 §7 counts it
pub matrix_cost : (d : ℕ → ℕ → ℕ) (k : ℕ) (rows : List Row) → Clean k (clusters rows)
    → cost_of (by_matrix d) k rows ≡ 2 * (trivials k + others k (clusters rows)) + 1
matrix_cost d k rows w =
    omega (
      arith,
      fill_count k (clusters rows) w,
      others_are k (clusters rows) (clean_split k (clusters rows) w),
      ap length (clusters_trivial weight_limit k rows),
      length-map (with_trivial weight_limit k rows) (λ r. r.cluster),
    )
