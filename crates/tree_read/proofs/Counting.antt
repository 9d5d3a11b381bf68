-- Tests counted as 0 and 1 over the numbers below n. Assumes nothing.
use Prim.Native.Nat.{ℕ, zero, suc, ◌+◌, ◌≤◌, ◌<◌}
use native.Mathlib.Omega.{arith}
use native.Mathlib.Nat.{eq-or-lt_of_le}
use native.Mathlib.Decide.{dec_lt, ℕ_discrete}
use mathlib.Core.Path.{◌≡◌, subst}
use mathlib.Core.Logic.{◌⊎◌, inl, inr, ⊎_elim}
use Rattle.statement.proofs.Tally.{tally}

-- what holds below n and at n holds below suc n
upto : (P : ℕ → Type 0) (n : ℕ) → ((v : ℕ) → v < n → P v) → P n → (v : ℕ) → v < suc n → P v
upto P n all here v l = go (dec_lt v n)
  where
    go : Dec (v < n) → P v
    go (yes h) = all v h
    go (no h) = let e : n ≡ v = omega arith in subst P e here

tally_le : (f g : ℕ → ℕ) (n : ℕ) → ((v : ℕ) → f v ≤ g v) → tally f n ≤ tally g n
unfolding tally
tally_le f g zero h = omega arith
tally_le f g (suc n) h = omega (arith, tally_le f g n h, h n)

-- of two, one nowhere above the other: they agree, or the greater adds up to more
pub agree_or_more : (f g : ℕ → ℕ) (n : ℕ) → ((v : ℕ) → f v ≤ g v) → ((v : ℕ) → v < n → f v ≡ g v) ⊎ (tally f n < tally g n)
unfolding tally
agree_or_more f g zero h = inl (λ v l. absurd (omega arith))
agree_or_more f g (suc n) h = go (ℕ_discrete (f n) (g n)) (agree_or_more f g n h)
  where
    go : Dec (f n ≡ g n) → ((v : ℕ) → v < n → f v ≡ g v) ⊎ (tally f n < tally g n)
        → ((v : ℕ) → v < suc n → f v ≡ g v) ⊎ (tally f n + f n < tally g n + g n)
    go (yes e) (inl all) = inl (upto (λ (v : ℕ). f v ≡ g v) n all e)
    go (no e) (inl all) = inr (⊎_elim (λ q. absurd (e q)) (λ l. omega (arith, tally_le f g n h)) (eq-or-lt_of_le (h n)))
    go d (inr more) = inr (omega (arith, h n))

-- as many as there are places: all of them
pub all_one : (f : ℕ → ℕ) (n : ℕ) → ((v : ℕ) → f v ≤ 1) → n ≤ tally f n → (v : ℕ) → v < n → f v ≡ 1
unfolding tally
all_one f zero h full v l = absurd (omega arith)
all_one f (suc n) h full v l =
    upto (λ (v : ℕ). f v ≡ 1) n (all_one f n h (omega (arith, h n))) (omega (arith, h n, most n)) v l
  where
    most : (k : ℕ) → tally f k ≤ k
    most zero = omega arith
    most (suc k) = omega (arith, most k, h k)
