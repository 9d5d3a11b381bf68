-- Sums over lists of numbers: one place, no place, counts and the number of a group. Assumes nothing.
use Prim.Native.Nat.{ℕ, zero, suc, ◌+◌, ◌*◌, ◌^◌, ◌≤◌, ◌<◌}
use native.Mathlib.Omega.{arith}
use native.Mathlib.Nat.{suc-mul}
use native.Mathlib.Decide.{dec_lt, ℕ_discrete}
use mathlib.Core.Path.{◌≡◌, refl, sym, ◌∙◌, ap, ap₂}
use mathlib.Core.Logic.{◌⊎◌, inl, inr, ◌≢◌}
use mathlib.Core.Bool.{Bool, true, false, cond}
use mathlib.Core.List.{List, [], ◌∷◌}
use lib.Dec.{ltb, eqb}
use borrow.Author.Tests.{eq-eqb, ne_eqb, lt-ltb, le-ltb}
use Rattle.statement.specs.Cluster.{bit, In, Out, group_of}
use Rattle.statement.proofs.Bits.{zero_or_one, bit_ext}
use Rattle.statement.proofs.Groups.{group_below, group_bit}
use Rattle.statement.specs.NewickText.{those_from}
use Rattle.newick_list.proofs.Sums.{total, total_append, below, below_suc, below_zero}
use Rattle.newick_back.specs.Held.{mask}
use Rattle.newick_back.specs.Drawn.{gathered}

-- nothing anywhere; one at one place and nothing elsewhere
module _ (f : ℕ → ℕ) (p : ℕ → Bool) where
  pub below_none : (j : ℕ) → ((d : ℕ) → d < j → cond (p d) (f d) 0 ≡ 0) → below f p j ≡ 0
  below_none zero h = below_zero f p
  below_none (suc j) h = omega (arith, below_suc f p j, h j (omega arith), below_none j (λ d l. h d (omega arith)))

  pub below_one : (j c x : ℕ) → c < j → cond (p c) (f c) 0 ≡ x → ((d : ℕ) → d < j → d ≢ c → cond (p d) (f d) 0 ≡ 0) → below f p j ≡ x
  below_one zero c x l e h = absurd (omega arith)
  below_one (suc j) c x l e h = at (ℕ_discrete c j) (λ k. below_one j c x k e (λ d q o. h d (omega arith) o))
    where
      at : Dec (c ≡ j) → (c < j → below f p j ≡ x) → below f p (suc j) ≡ x
      at (yes q) ih =
          omega (arith, below_suc f p j, below_none j (λ d k. h d (omega arith) (λ o. omega arith)), ap (λ (d : ℕ). cond (p d) (f d) 0) q)
      at (no q) ih = omega (arith, below_suc f p j, ih (omega (arith, q)), h j (omega arith) (λ o. q (sym o)))

-- how often a number stands in a list
abbrev pub one : ℕ → ℕ → ℕ
one i x = cond (eqb x i) 1 0

abbrev pub count : ℕ → List ℕ → ℕ
count i xs = total (one i) xs

pub count_those : (p : ℕ → Bool) (n i : ℕ) → i < n → count i (those_from p 0 n) ≡ cond (p i) 1 0
count_those p n i l = below_one (one i) p n i (cond (p i) 1 0) l (ap (λ (b : Bool). cond (p i) (cond b 1 0) 0) (eq-eqb i i refl)) (λ d k o. none (p d) (ap (λ (b : Bool). cond {A = ℕ} b 1 0) (ne_eqb d i o)))
  where
    none : {x : ℕ} (b : Bool) → x ≡ 0 → cond b x 0 ≡ 0
    none true e = e
    none false e = refl

-- sums by their terms
pub total_same : (f g : ℕ → ℕ) (xs : List ℕ) → ((x : ℕ) → f x ≡ g x) → total f xs ≡ total g xs
unfolding total
total_same f g [] e = refl
total_same f g (x ∷ xs) e = ap₂ (λ (a b : ℕ). a + b) (e x) (total_same f g xs e)

pub total_add : (f g : ℕ → ℕ) (xs : List ℕ) → total (λ x. f x + g x) xs ≡ total f xs + total g xs
unfolding total
total_add f g [] = omega arith
total_add f g (x ∷ xs) = omega (arith, total_add f g xs)

pub total_zero : (xs : List ℕ) → total (λ x. 0) xs ≡ 0
unfolding total
total_zero [] = refl
total_zero (x ∷ xs) = omega (arith, total_zero xs)

pub total_gathered : (f : ℕ → ℕ) (g : ℕ → List ℕ) (cs : List ℕ) → total f (gathered g cs) ≡ total (λ c. total f (g c)) cs
unfolding gathered total
total_gathered f g [] = refl
total_gathered f g (c ∷ cs) = omega (arith, total_append f (g c) (gathered g cs), total_gathered f g cs)

total_times : (k w : ℕ) (xs : List ℕ) → total (λ x. cond (eqb x k) w 0) xs ≡ count k xs * w
unfolding total
total_times k w [] = omega arith
total_times k w (x ∷ xs) = go (eqb x k) (total_times k w xs)
  where
    go : (b : Bool) → total (λ x. cond (eqb x k) w 0) xs ≡ count k xs * w → cond b w 0 + total (λ x. cond (eqb x k) w 0) xs ≡ (cond b 1 0 + count k xs) * w
    go true e =
        let s : 1 + count k xs ≡ suc (count k xs) = omega arith in
        omega (arith, e, suc-mul (count k xs) w, ap (λ (c : ℕ). c * w) s)
    go false e = let s : 0 + count k xs ≡ count k xs = omega arith in omega (arith, e, ap (λ (c : ℕ). c * w) s)

pub mask_total : (xs : List ℕ) → mask xs ≡ total (λ x. 2 ^ x) xs
unfolding mask total
mask_total [] = refl
mask_total (x ∷ xs) = ap (λ (s : ℕ). 2 ^ x + s) (mask_total xs)

-- THE NUMBER OF A GROUP from a list that has each of its taxa once
module _ (xs : List ℕ) (test : ℕ → Bool) where
  abbrev part : ℕ → ℕ → ℕ
  part k x = cond (ltb x k) (2 ^ x) 0

  part_suc : (k x : ℕ) → part (suc k) x ≡ part k x + cond (eqb x k) (2 ^ k) 0
  part_suc k x = at (dec_lt x k) (ℕ_discrete x k)
    where
      at : Dec (x < k) → Dec (x ≡ k) → cond (ltb x (suc k)) (2 ^ x) 0 ≡ cond (ltb x k) (2 ^ x) 0 + cond (eqb x k) (2 ^ k) 0
      at (yes l) d = rw (lt-ltb x (suc k) (let h : x < suc k = omega arith in h), lt-ltb x k l, ne_eqb x k (λ e. omega arith)) (omega arith)
      at (no l) (yes e) = rw (lt-ltb x (suc k) (let h : x < suc k = omega arith in h), le-ltb x k (let h : k ≤ x = omega arith in h), eq-eqb x k e) (ap (λ (y : ℕ). 2 ^ y) e ∙ omega arith)
      at (no l) (no o) = rw (le-ltb x (suc k) (let h : suc k ≤ x = omega (arith, l, o) in h), le-ltb x k (let h : k ≤ x = omega arith in h), ne_eqb x k o) (omega arith)

  times : (b : Bool) (c w : ℕ) → c ≡ cond b 1 0 → c * w ≡ cond b w 0
  times true c w e = ap (λ (d : ℕ). d * w) e ∙ omega arith
  times false c w e = ap (λ (d : ℕ). d * w) e ∙ omega arith

  pub parts_group : (k : ℕ) → ((i : ℕ) → i < k → count i xs ≡ cond (test i) 1 0) → total (part k) xs ≡ group_of test k
  unfolding group_of
  parts_group zero h = total_same (part 0) (λ x. 0) xs (λ x. rw (le-ltb x 0 (let q : 0 ≤ x = omega arith in q))) ∙ total_zero xs
  parts_group (suc k) h =
      total_same (part (suc k)) (λ x. part k x + cond (eqb x k) (2 ^ k) 0) xs (part_suc k) ∙ total_add (part k) (λ x. cond (eqb x k) (2 ^ k) 0) xs
      ∙ ap₂ (λ (a b : ℕ). a + b) (parts_group k (λ i l. h i (omega arith)))
      (total_times k (2 ^ k) xs ∙ times (test k) (count k xs) (2 ^ k) (h k (omega arith)))

-- a group is the group of its own taxa
pub group_own : (n c : ℕ) → c < 2 ^ n → group_of (λ i. eqb (bit c i) 1) n ≡ c
group_own n c l = bit_ext n (group_of (λ i. eqb (bit c i) 1) n) c (group_below (λ i. eqb (bit c i) 1) n) l (λ i k. group_bit (λ i. eqb (bit c i) 1) n i k ∙ back i (zero_or_one c i))
  where
    back : (i : ℕ) → Out c i ⊎ In c i → cond (eqb (bit c i) 1) 1 0 ≡ bit c i
    back i (inr h) = rw h
    back i (inl o) = rw o

pub bit_cond : (c i : ℕ) → bit c i ≡ cond (eqb (bit c i) 1) 1 0
bit_cond c i = at (zero_or_one c i)
  where
    at : Out c i ⊎ In c i → bit c i ≡ cond (eqb (bit c i) 1) 1 0
    at (inr h) = rw h
    at (inl o) = rw o

pub mask_group : (n c : ℕ) (xs : List ℕ) → c < 2 ^ n → ((i : ℕ) → i < n → count i xs ≡ bit c i) → total (λ x. cond (ltb x n) (2 ^ x) 0) xs ≡ c
mask_group n c xs l h = parts_group xs (λ i. eqb (bit c i) 1) n (λ i k. h i k ∙ bit_cond c i) ∙ group_own n c l
