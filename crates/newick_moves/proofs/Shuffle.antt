-- Lists in another order. Assumes nothing.
use Prim.Native.Nat.{ℕ, ◌<◌}
use native.Mathlib.Omega.{arith}
use mathlib.Core.Path.{◌≡◌, refl, sym, ◌∙◌, ap, subst}
use mathlib.Core.Logic.{inl, inr, ⊎_elim}
use mathlib.Core.Bool.{Bool, true, false, cond, ◌||◌, true≢false}
use mathlib.Core.List.{List, [], ◌∷◌, ◌++◌, append-nil}
use lib.Dec.{leb, eqb}
use borrow.Author.Tests.{leb-true, leb-false, le-leb, lt-leb, eq-eqb, ne_eqb}
use native.Mathlib.Decide.{dec_lt}
use Rattle.statement.specs.Rows.{Row, clusters, Mem}
use Rattle.statement.specs.Tree.{insert_row, sort_rows}
use Rattle.row_sort.proofs.Sorting.{Held, Different}
use Rattle.statement.specs.Sentence.{among}
use Rattle.newick_noted.proofs.Taxa.{Good, good_less, or_none}

pub data Shuffle {A : Type 0} : List A → List A → Type 0 where
  none : Shuffle [] []
  keep : (x : A) {xs ys : List A} → Shuffle xs ys → Shuffle (x ∷ xs) (x ∷ ys)
  swap : (x y : A) (xs : List A) → Shuffle (x ∷ (y ∷ xs)) (y ∷ (x ∷ xs))
  then : {xs ys zs : List A} → Shuffle xs ys → Shuffle ys zs → Shuffle xs zs

module _ {A : Type 0} where
  pub still : (xs : List A) → Shuffle xs xs
  still [] = none
  still (x ∷ xs) = keep x (still xs)

  pub equal : {xs ys : List A} → xs ≡ ys → Shuffle xs ys
  equal {xs} e = subst (λ (z : List A). Shuffle xs z) e (still xs)

  pub front : (zs : List A) {xs ys : List A} → Shuffle xs ys → Shuffle (zs ++ xs) (zs ++ ys)
  front [] s = s
  front (z ∷ zs) s = keep z (front zs s)

  pub behind : (zs : List A) {xs ys : List A} → Shuffle xs ys → Shuffle (xs ++ zs) (ys ++ zs)
  behind zs none = still zs
  behind zs (keep x s) = keep x (behind zs s)
  behind zs (swap x y xs) = swap x y (xs ++ zs)
  behind zs (then s t) = then (behind zs s) (behind zs t)

  -- x from behind xs to the front
  pub raise : (x : A) (xs ys : List A) → Shuffle (xs ++ (x ∷ ys)) (x ∷ (xs ++ ys))
  raise x [] ys = still (x ∷ ys)
  raise x (z ∷ xs) ys = then (keep z (raise x xs ys)) (swap z x (xs ++ ys))

  pub turn : {xs ys : List A} → Shuffle xs ys → Shuffle ys xs
  turn none = none
  turn (keep x s) = keep x (turn s)
  turn (swap x y xs) = swap y x xs
  turn (then s t) = then (turn t) (turn s)

  pub cross : (xs ys : List A) → Shuffle (xs ++ ys) (ys ++ xs)
  cross [] ys = equal (sym (append-nil ys))
  cross (x ∷ xs) ys = then (keep x (cross xs ys)) (turn (raise x ys xs))

-- TAXA in another order
pub among_same : (x : ℕ) {xs ys : List ℕ} → Shuffle xs ys → among x xs ≡ among x ys
among_same x none = refl
among_same x (keep y s) = ap (λ (b : Bool). eqb x y || b) (among_same x s)
among_same x (swap y z xs) = go (eqb x y) (eqb x z)
  where
    go : (a b : Bool) → (a || (b || among x xs)) ≡ (b || (a || among x xs))
    go true true = refl
    go true false = refl
    go false true = refl
    go false false = refl
among_same x (then s t) = among_same x s ∙ among_same x t

pub good_same : (n : ℕ) (before : List ℕ) {xs ys : List ℕ} → Shuffle xs ys → Good n before xs → Good n before ys
good_same n before none g = g
good_same n before (keep x s) g = (g.0, g.1, good_same n (x ∷ before) s g.2)
good_same n before (swap x y xs) g =
    let h = or_none (eqb y x) (among y before) g.2.1 in
    (g.2.0, h.1, (g.0, flip h g.1, good_less n (y ∷ x ∷ before) (x ∷ y ∷ before) xs two g.2.2))
  where
    flip : (eqb y x ≡ false) × (among y before ≡ false) → among x before ≡ false → among x (y ∷ before) ≡ false
    flip h k = rw (ne_eqb x y (λ e. true≢false (sym (eq-eqb y x (sym e)) ∙ h.0))) k

    two : (z : ℕ) → among z (x ∷ y ∷ before) ≡ true → among z (y ∷ x ∷ before) ≡ true
    two z e = go (eqb z x) (eqb z y) e
      where
        go : (a b : Bool) → (a || (b || among z before)) ≡ true → (b || (a || among z before)) ≡ true
        go true true e = refl
        go true false e = refl
        go false true e = refl
        go false false e = e
good_same n before (then s t) g = good_same n before t (good_same n before s g)

-- ROWS in another order
pub held_same : (r : Row) {xs ys : List Row} → Shuffle xs ys → Held r xs → Held r ys
held_same r none h = h
held_same r (keep x s) h = ⊎_elim (λ e. inl e) (λ k. inr (held_same r s k)) h
held_same r (swap x y xs) h = ⊎_elim (λ e. inr (inl e)) (λ k. ⊎_elim (λ e. inl e) (λ i. inr (inr i)) k) h
held_same r (then s t) h = held_same r t (held_same r s h)

mem_same : (c : ℕ) {xs ys : List Row} → Shuffle xs ys → Mem c (clusters xs) → Mem c (clusters ys)
mem_same c none h = h
mem_same c (keep x s) h = ⊎_elim (λ e. inl e) (λ k. inr (mem_same c s k)) h
mem_same c (swap x y xs) h = ⊎_elim (λ e. inr (inl e)) (λ k. ⊎_elim (λ e. inl e) (λ i. inr (inr i)) k) h
mem_same c (then s t) h = mem_same c t (mem_same c s h)

pub different_same : {xs ys : List Row} → Shuffle xs ys → Different xs → Different ys
different_same none d = d
different_same (keep x s) d = ((λ m. d.0 (mem_same x.cluster (turn s) m)), different_same s d.1)
different_same (swap x y xs) d =
    ((λ m. ⊎_elim (λ e. d.0 (inl (sym e))) (λ k. d.1.0 k) m), ((λ m. d.0 (inr m)), d.1.1))
different_same (then s t) d = different_same t (different_same s d)

-- two rows with different clusters go in in either order
leb_yes : (a b : ℕ) → a < b → leb a b ≡ true
leb_yes a b l = le-leb a b (omega arith)

insert_two : (x y : Row) → x.cluster < y.cluster → (zs : List Row) → insert_row x (insert_row y zs) ≡ insert_row y (insert_row x zs)
unfolding insert_row
insert_two x y l [] = rw (leb_yes x.cluster y.cluster l, lt-leb y.cluster x.cluster l)
insert_two x y l (z ∷ zs) = go (leb x.cluster z.cluster) refl (leb y.cluster z.cluster) refl (insert_two x y l zs)
  where
    xy : leb x.cluster y.cluster ≡ true
    xy = leb_yes x.cluster y.cluster l

    yx : leb y.cluster x.cluster ≡ false
    yx = lt-leb y.cluster x.cluster l

    go : (a : Bool) → leb x.cluster z.cluster ≡ a → (b : Bool) → leb y.cluster z.cluster ≡ b
        → insert_row x (insert_row y zs) ≡ insert_row y (insert_row x zs)
        → insert_row x (cond b (y ∷ (z ∷ zs)) (z ∷ insert_row y zs)) ≡ insert_row y (cond a (x ∷ (z ∷ zs)) (z ∷ insert_row x zs))
    go true p true q ih = rw (xy, yx, q)
    go true p false q ih = rw (p, yx, q)
    go false p true q ih =
        absurd (omega (arith, leb-false x.cluster z.cluster p, leb-true y.cluster z.cluster q))
    go false p false q ih = rw (p, q) (ap (λ (s : List Row). z ∷ s) ih)

insert_both : (x y : Row) → (x.cluster ≡ y.cluster → ⊥) → (zs : List Row) → insert_row x (insert_row y zs) ≡ insert_row y (insert_row x zs)
insert_both x y f zs = go (dec_lt x.cluster y.cluster) (dec_lt y.cluster x.cluster)
  where
    go : Dec (x.cluster < y.cluster) → Dec (y.cluster < x.cluster) → insert_row x (insert_row y zs) ≡ insert_row y (insert_row x zs)
    go (yes l) d = insert_two x y l zs
    go (no l) (yes g) = sym (insert_two y x g zs)
    go (no l) (no g) = absurd (f (omega arith))

-- THE SORTED LIST is the same
pub sort_same : {xs ys : List Row} → Shuffle xs ys → Different xs → sort_rows xs ≡ sort_rows ys
unfolding sort_rows
sort_same none d = refl
sort_same (keep x s) d = ap (insert_row x) (sort_same s d.1)
sort_same (swap x y xs) d = insert_both x y (λ e. d.0 (inl e)) (sort_rows xs)
sort_same (then s t) d = sort_same s d ∙ sort_same t (different_same s d)
