-- Laws of the lowest place where a test holds. Assumes nothing.
use Prim.Native.Nat.{ℕ, zero, suc, ◌+◌, ◌≤◌, ◌<◌}
use native.Mathlib.Omega.{arith}
use native.Mathlib.Decide.{dec_lt}
use native.Mathlib.Nat.{le_antisymm}
use mathlib.Core.Path.{◌≡◌, refl, sym, ◌∙◌, ap}
use mathlib.Core.Bool.{Bool, true, false, cond, true≢false}
use borrow.Author.Count.{below_none, below_more}
use borrow.Author.Tests.{ltb-true, ltb-false, lt-ltb, le-ltb}
use Rattle.statement.specs.Lowest.{lowest_from, lowest, somewhere}

-- WHAT IT IS: within its range, the test holds there, and nowhere before
pub record Lowest (p : ℕ → Bool) (i m r : ℕ) : Type 0 where
  pub from : i ≤ r
  pub to : r ≤ i + m
  pub hit : r < i + m → p r ≡ true
  pub before : (j : ℕ) → i ≤ j → j < r → p j ≡ false

pub lowest_is : (p : ℕ → Bool) (i m : ℕ) → Lowest p i m (lowest_from p i m)
unfolding lowest_from
lowest_is p i zero = record { from = omega arith; to = omega arith; hit = λ h. absurd (omega arith); before = λ j a b. absurd (omega arith) }
lowest_is p i (suc m) = go (p i) refl (lowest_is p (suc i) m)
  where
    go : (b : Bool) → p i ≡ b → Lowest p (suc i) m (lowest_from p (suc i) m) → Lowest p i (suc m) (cond b i (lowest_from p (suc i) m))
    go true e ih = record { from = omega arith; to = omega arith; hit = λ h. e; before = λ j a b. absurd (omega arith) }
    go false e ih =
        record { from = omega (arith, ih.from); to = omega (arith, ih.to); hit = λ h. ih.hit (omega arith); before = λ j a b. at j a b (dec_lt i j) }
      where
        at : (j : ℕ) → i ≤ j → j < lowest_from p (suc i) m → Dec (i < j) → p j ≡ false
        at j a b (yes l) = ih.before j l b
        at j a b (no l) = let q : j ≡ i = omega arith in ap p q ∙ e

pub lowest_unique : (p : ℕ → Bool) (i m r s : ℕ) → Lowest p i m r → Lowest p i m s → r ≡ s
lowest_unique p i m r s x y = go (dec_lt r s) (dec_lt s r)
  where
    clash : (a b : ℕ) → Lowest p i m a → Lowest p i m b → a < b → ⊥
    clash a b u v l = true≢false (sym (u.hit (omega (arith, v.to))) ∙ v.before a u.from l)

    go : Dec (r < s) → Dec (s < r) → r ≡ s
    go (yes l) d = absurd (clash r s x y l)
    go (no l) (yes g) = absurd (clash s r y x g)
    go (no l) (no g) = omega arith

-- it is at i where the test holds there and nowhere before
pub lowest_at : (p : ℕ → Bool) (m i : ℕ) → i < m → p i ≡ true → ((j : ℕ) → j < i → p j ≡ false) → lowest p m ≡ i
lowest_at p m i l e before =
    lowest_unique p 0 m (lowest p m) i (lowest_is p 0 m) (record { from = omega arith; to = omega arith; hit = λ h. e; before = λ j a. before j })

-- only the places looked at count
pub lowest_same : (p q : ℕ → Bool) (i m : ℕ) → ((j : ℕ) → i ≤ j → j < i + m → p j ≡ q j) → lowest_from p i m ≡ lowest_from q i m
lowest_same p q i m e =
    let x = lowest_is p i m in
    lowest_unique q i m (lowest_from p i m) (lowest_from q i m)
    (record {
      from = x.from;
      to = x.to;
      hit = λ h. sym (e (lowest_from p i m) x.from h) ∙ x.hit h;
      before = λ j a b. sym (e j a (omega (arith, x.to))) ∙ x.before j a b;
    })
    (lowest_is q i m)

-- SOME place passes the test
pub some_at : (p : ℕ → Bool) (m i : ℕ) → i < m → p i ≡ true → somewhere p m ≡ true
some_at p m i l e = go (dec_lt (lowest p m) m)
  where
    go : Dec (lowest p m < m) → somewhere p m ≡ true
    go (yes h) = lt-ltb (lowest p m) m h
    go (no h) = absurd (true≢false (sym e ∙ (lowest_is p 0 m).before i (omega arith) (omega arith)))

pub some_of : (p : ℕ → Bool) (m : ℕ) → somewhere p m ≡ true → (i : ℕ) × (i < m) × (p i ≡ true)
some_of p m e = let h = ltb-true (lowest p m) m e in (lowest p m, h, (lowest_is p 0 m).hit (omega arith))

pub none_of : (p : ℕ → Bool) (m : ℕ) → somewhere p m ≡ false → (i : ℕ) → i < m → p i ≡ false
none_of p m e i l = (lowest_is p 0 m).before i (omega arith) (omega (arith, ltb-false (lowest p m) m e))

pub none_at : (p : ℕ → Bool) (m : ℕ) → ((i : ℕ) → i < m → p i ≡ false) → somewhere p m ≡ false
none_at p m f = go (dec_lt (lowest p m) m)
  where
    go : Dec (lowest p m < m) → somewhere p m ≡ false
    go (yes h) = absurd (true≢false (sym ((lowest_is p 0 m).hit (omega arith)) ∙ f (lowest p m) h))
    go (no h) = le-ltb (lowest p m) m (omega arith)

-- where some place passes, the lowest one does; where none does it is the count
pub lowest_none : (p : ℕ → Bool) (m : ℕ) → somewhere p m ≡ false → lowest p m ≡ m
lowest_none p m e = le_antisymm (let h = (lowest_is p 0 m).to in omega arith) (ltb-false (lowest p m) m e)

-- A LOOP that looks for it among the places below m, and has passed those below i
pub record Looking (p : ℕ → Bool) (m i : ℕ) : Type 0 where
  pub within : i ≤ m
  pub passed : (j : ℕ) → j < i → p j ≡ false

pub looking_begun : {p : ℕ → Bool} {m : ℕ} → Looking p m 0
looking_begun = record { within = omega arith; passed = below_none _ }

pub looking_on : {p : ℕ → Bool} {m i : ℕ} → Looking p m i → i < m → p i ≡ false → Looking p m (i + 1)
looking_on k l e = record { within = omega arith; passed = below_more _ _ k.passed e }

pub looking_found : {p : ℕ → Bool} {m i : ℕ} → Looking p m i → i < m → p i ≡ true → i ≡ lowest p m
looking_found {p} {m} {i} k l e = sym (lowest_at p m i l e k.passed)

pub looking_ended : {p : ℕ → Bool} {m i : ℕ} → Looking p m i → m ≤ i → i ≡ lowest p m
looking_ended {p} {m} {i} k l =
    let e : i ≡ m = omega (arith, k.within) in
    e ∙ sym (lowest_none p m (none_at p m (λ j h. k.passed j (omega arith))))
