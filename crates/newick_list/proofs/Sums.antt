-- Sums over the vertices of a tree: what each vertex has of its own and by its children is, at the root, what all vertices have. Assumes nothing.
use Prim.Native.Nat.{ℕ, zero, suc, ◌+◌, ◌*◌, ◌≤◌, ◌<◌}
use native.Mathlib.Omega.{arith}
use native.Mathlib.Nat.{suc-mul}
use native.Mathlib.Decide.{dec_lt, ℕ_discrete}
use mathlib.Core.Path.{◌≡◌, refl, sym, ◌∙◌, ap}
use mathlib.Core.Bool.{Bool, true, false, cond}
use mathlib.Core.List.{List, [], ◌∷◌, ◌++◌}
use lib.Dec.{leb, eqb}
use borrow.Author.Tests.{eq-eqb, ne_eqb, le-leb, lt-leb}
use Rattle.statement.specs.NewickText.{Shape, those_from, children}

-- what a function gives on a list, added up
unfoldable pub total : (ℕ → ℕ) → List ℕ → ℕ
total f [] = 0
total f (x ∷ xs) = f x + total f xs

pub total_append : (f : ℕ → ℕ) (xs ys : List ℕ) → total f (xs ++ ys) ≡ total f xs + total f ys
unfolding total
total_append f [] ys = omega arith
total_append f (x ∷ xs) ys = omega (arith, total_append f xs ys)

total_cond : (f : ℕ → ℕ) (b : Bool) (x : ℕ) (xs : List ℕ) → total f (cond b (x ∷ xs) xs) ≡ cond b (f x) 0 + total f xs
unfolding total
total_cond f true x xs = refl
total_cond f false x xs = omega arith

pub total_first : (f : ℕ → ℕ) (p : ℕ → Bool) (i m : ℕ) → total f (those_from p i (suc m)) ≡ cond (p i) (f i) 0 + total f (those_from p (suc i) m)
unfolding those_from
total_first f p i m = total_cond f (p i) i (those_from p (suc i) m)

total_none : (f : ℕ → ℕ) (p : ℕ → Bool) (i : ℕ) → total f (those_from p i 0) ≡ 0
unfolding those_from total
total_none f p i = refl

total_last : (f : ℕ → ℕ) (p : ℕ → Bool) (i m : ℕ) → total f (those_from p i (suc m)) ≡ total f (those_from p i m) + cond (p (i + m)) (f (i + m)) 0
total_last f p i zero =
    let e : i + 0 ≡ i = omega arith in
    let same : cond (p (i + 0)) (f (i + 0)) 0 ≡ cond (p i) (f i) 0 = ap (λ (j : ℕ). cond (p j) (f j) 0) e in
    omega (arith, total_first f p i 0, total_none f p i, total_none f p (suc i), same)
total_last f p i (suc m) =
    let e : suc i + m ≡ i + suc m = omega arith in
    let same : cond (p (suc i + m)) (f (suc i + m)) 0 ≡ cond (p (i + suc m)) (f (i + suc m)) 0 = ap (λ (j : ℕ). cond (p j) (f j) 0) e in
    omega (arith, total_first f p i (suc m), total_last f p (suc i) m, total_first f p i m, same)

-- over those below j
abbrev pub below : (ℕ → ℕ) → (ℕ → Bool) → ℕ → ℕ
below f p j = total f (those_from p 0 j)

pub below_suc : (f : ℕ → ℕ) (p : ℕ → Bool) (j : ℕ) → below f p (suc j) ≡ below f p j + cond (p j) (f j) 0
below_suc f p j =
    let e : 0 + j ≡ j = omega arith in
    let same : cond (p (0 + j)) (f (0 + j)) 0 ≡ cond (p j) (f j) 0 = ap (λ (i : ℕ). cond (p i) (f i) 0) e in
    omega (arith, total_last f p 0 j, same)

pub below_zero : (f : ℕ → ℕ) (p : ℕ → Bool) → below f p 0 ≡ 0
below_zero f p = total_none f p 0

pub below_same : (f g : ℕ → ℕ) (p q : ℕ → Bool) (j : ℕ) → ((i : ℕ) → i < j → cond (p i) (f i) 0 ≡ cond (q i) (g i) 0) → below f p j ≡ below g q j
below_same f g p q zero e = below_zero f p ∙ sym (below_zero g q)
below_same f g p q (suc j) e =
    omega (arith, below_suc f p j, below_suc g q j, e j (omega arith), below_same f g p q j (λ i l. e i (omega arith)))

pub below_add : (f g : ℕ → ℕ) (p : ℕ → Bool) (j : ℕ) → below (λ c. f c + g c) p j ≡ below f p j + below g p j
below_add f g p zero = omega (arith, below_zero (λ c. f c + g c) p, below_zero f p, below_zero g p)
below_add f g p (suc j) =
    omega (arith, below_suc (λ c. f c + g c) p j, below_suc f p j, below_suc g p j, below_add f g p j, parts (p j) (f j) (g j))
  where
    parts : (b : Bool) (x y : ℕ) → cond b (x + y) 0 ≡ cond b x 0 + cond b y 0
    parts true x y = refl
    parts false x y = refl

-- no more than so much each
pub total_most : (f : ℕ → ℕ) (p : ℕ → Bool) (k i m : ℕ) → ((j : ℕ) → i ≤ j → j < i + m → f j ≤ k) → total f (those_from p i m) ≤ m * k
total_most f p k i zero h = omega (arith, total_none f p i)
total_most f p k i (suc m) h =
    omega (arith, total_first f p i m, total_most f p k (suc i) m (λ j a l. h j (omega arith) (omega arith)), suc-mul m k, at (p i) (h i (omega arith) (omega arith)))
  where
    at : (b : Bool) → f i ≤ k → cond b (f i) 0 ≤ k
    at true l = l
    at false l = omega arith

-- those linked at j or above are those linked at j and those above
module _ (f link : ℕ → ℕ) where
  parted : (j c : ℕ) → cond (leb j (link c)) (f c) 0 ≡ cond (eqb (link c) j) (f c) 0 + cond (leb (suc j) (link c)) (f c) 0
  parted j c = at (ℕ_discrete (link c) j) (dec_lt j (link c))
    where
      at : Dec (link c ≡ j) → Dec (j < link c) → cond (leb j (link c)) (f c) 0 ≡ cond (eqb (link c) j) (f c) 0 + cond (leb (suc j) (link c)) (f c) 0
      at (yes e) d =
          rw (le-leb j (link c) (let h : j ≤ link c = omega arith in h), eq-eqb (link c) j e, lt-leb (suc j) (link c) (let h : link c < suc j = omega arith in h)) (omega arith)
      at (no n) (yes l) = rw (le-leb j (link c) (let h : j ≤ link c = omega arith in h), ne_eqb (link c) j n, le-leb (suc j) (link c) (let h : suc j ≤ link c = omega arith in h)) (omega arith)
      at (no n) (no l) = rw (lt-leb j (link c) (let h : link c < j = omega (arith, n, l) in h), ne_eqb (link c) j n, lt-leb (suc j) (link c) (let h : link c < suc j = omega arith in h)) (omega arith)

  split : (j b : ℕ) → below f (λ c. leb j (link c)) b ≡ below f (λ c. eqb (link c) j) b + below f (λ c. leb (suc j) (link c)) b
  split j zero = omega (arith, below_zero f (λ c. leb j (link c)), below_zero f (λ c. eqb (link c) j), below_zero f (λ c. leb (suc j) (link c)))
  split j (suc b) =
      omega (arith, below_suc f (λ c. leb j (link c)) b, below_suc f (λ c. eqb (link c) j) b, below_suc f (λ c. leb (suc j) (link c)) b, split j b, parted j b)

  none_above : (j b : ℕ) → ((c : ℕ) → c < b → link c < j) → below f (λ c. leb j (link c)) b ≡ 0
  none_above j zero h = below_zero f (λ c. leb j (link c))
  none_above j (suc b) h =
      let off : cond (leb j (link b)) (f b) 0 ≡ 0 = rw (lt-leb j (link b) (h b (omega arith))) in
      omega (arith, below_suc f (λ c. leb j (link c)) b, none_above j b (λ c l. h c (omega arith)), off)

-- A TREE: every link is a later vertex or the root
pub record Rooted (t : Shape) : Type 0 where
  pub later : (c : ℕ) → c < t.edges → c < t.link c
  pub top : (c : ℕ) → c < t.edges → t.link c ≤ t.edges

abbrev pub every : ℕ → Bool
every c = true

-- ALL VERTICES: a vertex has a of its own, and all that its children have with b for each
module _ (t : Shape) (tree : Rooted t) (g a b : ℕ → ℕ) (parts : (v : ℕ) → v ≤ t.edges → g v ≡ a v + total (λ c. g c + b c) (children t v)) where
  abbrev each : ℕ → ℕ
  each c = g c + b c

  -- what is before j and not yet below another
  open_sum : (j : ℕ) → j ≤ t.edges → below each (λ c. leb j (t.link c)) j ≡ below (λ c. a c + b c) every j
  open_sum zero l = below_zero each (λ c. leb 0 (t.link c)) ∙ sym (below_zero (λ c. a c + b c) every)
  open_sum (suc j) l =
      let own : cond (leb (suc j) (t.link j)) (g j + b j) 0 ≡ g j + b j = rw (le-leb (suc j) (t.link j) (tree.later j (omega arith))) in
      omega (
        arith,
        below_suc each (λ c. leb (suc j) (t.link c)) j,
        below_suc (λ c. a c + b c) every j,
        own,
        open_sum j (omega arith),
        split each t.link j j,
        parts j (omega arith),
      )

  pub whole_sum : g t.edges ≡ a t.edges + below (λ c. a c + b c) every t.edges
  whole_sum =
      omega (
        arith,
        parts t.edges (omega arith),
        split each t.link t.edges t.edges,
        open_sum t.edges (omega arith),
        none_above each t.link (suc t.edges) t.edges (λ c l. omega (arith, tree.top c l)),
      )
