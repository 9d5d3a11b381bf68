-- ROWS WITH THE SAME SUMS, one list of them ascending, are the same rows sorted. Assumes nothing.
use Prim.Native.Nat.{ℕ, suc, ◌+◌, ◌≤◌, ◌<◌}
use native.Mathlib.Omega.{arith}
use native.Mathlib.Decide.{ℕ_discrete}
use mathlib.Core.Path.{◌≡◌, refl, sym, ◌∙◌, ap, ap₂}
use mathlib.Core.Logic.{◌⊎◌, inl, inr}
use mathlib.Core.Bool.{Bool, true, false, cond}
use mathlib.Core.List.{List, [], ◌∷◌, ◌++◌}
use lib.Dec.{leb, eqb}
use borrow.Author.Tests.{eq-eqb, ne_eqb, leb-true, leb-false}
use Rattle.statement.specs.Rows.{Row, row, clusters, Ascending}
use Rattle.statement.specs.Tree.{insert_row, sort_rows}
use Rattle.statement.proofs.Listed.{asc_mem}
use Rattle.row_sort.proofs.Sorting.{Held, held_mem}

-- what a function gives on rows, added up
unfoldable pub row_total : (Row → ℕ) → List Row → ℕ
row_total f [] = 0
row_total f (r ∷ rs) = f r + row_total f rs

pub row_append : (f : Row → ℕ) (xs ys : List Row) → row_total f (xs ++ ys) ≡ row_total f xs + row_total f ys
unfolding row_total
row_append f [] ys = omega arith
row_append f (x ∷ xs) ys = omega (arith, row_append f xs ys)

insert_total : (f : Row → ℕ) (r : Row) (xs : List Row) → row_total f (insert_row r xs) ≡ f r + row_total f xs
unfolding row_total insert_row
insert_total f r [] = refl
insert_total f r (x ∷ xs) = go (leb r.cluster x.cluster) (insert_total f r xs)
  where
    go : (b : Bool) → row_total f (insert_row r xs) ≡ f r + row_total f xs → row_total f (cond b (r ∷ (x ∷ xs)) (x ∷ insert_row r xs)) ≡ f r + (f x + row_total f xs)
    go true e = refl
    go false e = omega (arith, e)

pub sort_total : (f : Row → ℕ) (xs : List Row) → row_total f (sort_rows xs) ≡ row_total f xs
unfolding row_total sort_rows
sort_total f [] = refl
sort_total f (x ∷ xs) = insert_total f x (sort_rows xs) ∙ ap (λ (s : ℕ). f x + s) (sort_total f xs)

-- no cluster goes down
abbrev Level : ℕ → List Row → Type 0
Level low [] = Unit {0}
Level low (r ∷ rs) = (low ≤ r.cluster) × Level r.cluster rs

insert_level : (low : ℕ) (r : Row) (xs : List Row) → low ≤ r.cluster → Level low xs → Level low (insert_row r xs)
unfolding insert_row
insert_level low r [] l h = (l, tt)
insert_level low r (x ∷ xs) l h = go (leb r.cluster x.cluster) refl (λ k. insert_level x.cluster r xs k h.1)
  where
    go : (b : Bool) → leb r.cluster x.cluster ≡ b → (x.cluster ≤ r.cluster → Level x.cluster (insert_row r xs)) → Level low (cond b (r ∷ (x ∷ xs)) (x ∷ insert_row r xs))
    go true e ih = (l, (leb-true r.cluster x.cluster e, h.1))
    go false e ih = (h.0, ih (let k = leb-false r.cluster x.cluster e in omega (arith, k)))

sort_level : (xs : List Row) → Level 0 (sort_rows xs)
unfolding sort_rows
sort_level [] = tt
sort_level (x ∷ xs) = insert_level 0 x (sort_rows xs) (omega arith) (sort_level xs)

level_held : (low : ℕ) (r : Row) (xs : List Row) → Level low xs → Held r xs → low ≤ r.cluster
level_held low r [] h x'' = elim x'' [ ]
level_held low r (x ∷ xs) h (inl e) = omega (arith, h.0, ap (λ (y : Row). y.cluster) e)
level_held low r (x ∷ xs) h (inr k) = omega (arith, h.0, level_held x.cluster r xs h.1 k)

-- how often a row stands in a list: one that does is held there
abbrev same : Row → Row → ℕ
same r x = cond (eqb x.cluster r.cluster) (cond (eqb x.weight r.weight) 1 0) 0

same_own : (r : Row) → same r r ≡ 1
same_own r = rw (eq-eqb r.cluster r.cluster refl, eq-eqb r.weight r.weight refl)

same_or : (r x : Row) → (r ≡ x) ⊎ (same r x ≡ 0)
same_or r x = go (ℕ_discrete x.cluster r.cluster) (ℕ_discrete x.weight r.weight)
  where
    go : Dec (x.cluster ≡ r.cluster) → Dec (x.weight ≡ r.weight) → (r ≡ x) ⊎ (same r x ≡ 0)
    go (yes e) (yes f) = inl (ap₂ row (sym e) (sym f))
    go (yes e) (no f) = inr (rw (eq-eqb x.cluster r.cluster e, ne_eqb x.weight r.weight f))
    go (no e) d = inr (rw (ne_eqb x.cluster r.cluster e))

held_of : (r : Row) (xs : List Row) → 0 < row_total (same r) xs → Held r xs
unfolding row_total
held_of r [] h = absurd (omega arith)
held_of r (x ∷ xs) h = go (same_or r x) (λ k. held_of r xs k)
  where
    go : (r ≡ x) ⊎ (same r x ≡ 0) → (0 < row_total (same r) xs → Held r xs) → Held r (x ∷ xs)
    go (inl e) ih = inl e
    go (inr e) ih = inr (ih (omega (arith, e)))

first_counts : (r : Row) (xs : List Row) → 0 < row_total (same r) (r ∷ xs)
unfolding row_total
first_counts r xs = omega (arith, same_own r)

-- a level list and an ascending one
level_is : (low high : ℕ) (A B : List Row) → Level 0 A → Ascending low high (clusters B) → ((f : Row → ℕ) → row_total f A ≡ row_total f B) → A ≡ B
unfolding row_total
level_is low high [] [] la ab e = refl
level_is low high [] (b ∷ B) la ab e = absurd (let h = e (λ r. 1) in omega (arith, h))
level_is low high (a ∷ A) [] la ab e = absurd (let h = e (λ r. 1) in omega (arith, h))
level_is low high (a ∷ A) (b ∷ B) la ab e =
    let in_b : Held a (b ∷ B) = held_of a (b ∷ B) (omega (arith, first_counts a A, e (same a))) in
    let in_a : Held b (a ∷ A) = held_of b (a ∷ A) (omega (arith, first_counts b B, e (same b))) in
    let q : a ≡ b = first in_b in_a in
    ap₂ (λ (x : Row) (xs : List Row). x ∷ xs) q
    (level_is (suc b.cluster) high A B (lower A la.1) ab.1 (λ f. omega (arith, e f, ap f q)))
  where
    lower : (xs : List Row) → Level a.cluster xs → Level 0 xs
    lower [] h = tt
    lower (x ∷ xs) h = (omega arith, h.1)

    first : Held a (b ∷ B) → Held b (a ∷ A) → a ≡ b
    first (inl p) k = p
    first (inr h) (inl p) = sym p
    first (inr h) (inr k) =
        absurd (omega (arith, (asc_mem (suc b.cluster) high (clusters B) ab.1 a.cluster (held_mem (λ r. r.cluster) a B h)).0, level_held a.cluster b A la.1 k))

pub sorted_is : (low high : ℕ) (A B : List Row) → Ascending low high (clusters B) → ((f : Row → ℕ) → row_total f A ≡ row_total f B) → sort_rows A ≡ B
sorted_is low high A B up e = level_is low high (sort_rows A) B (sort_level A) up (λ f. sort_total f A ∙ e f)
