-- LAWS of a number in decimal, digit by digit, and of its bytes stored one after the other. Assumes nothing.
use mathlib.Core.Path.{◌≡◌, refl, ap, ◌∙◌}
use mathlib.Core.List.{List, [], ◌∷◌, ◌++◌}
use Prim.Native.Nat.{ℕ, zero, suc, ◌+◌, ◌/◌, ◌%◌, ◌≤◌, ◌<◌}
use native.Mathlib.Omega.{arith}
use native.Mathlib.Decide.{dec_lt}
use lib.ListN.{length, set, length-append}
use lib.Seq.{sets}
use borrow.Author.Tests.{lt-ltb, le-ltb}
use Rattle.statement.specs.Decimal.{decimal_by, decimal}

-- any number of digits that is enough will do
pub fuel_same : (k m n : ℕ) → n ≤ k → n ≤ m → decimal_by k n ≡ decimal_by m n
fuel_same zero zero n h g = refl
fuel_same zero (suc m) n h g = rw (lt-ltb n 10 (let e : n < 10 = omega arith in e)) (ap (λ (x : ℕ). (48 + x) ∷ []) (let e : n % 10 ≡ n = omega arith in e))
fuel_same (suc k) zero n h g = rw (lt-ltb n 10 (let e : n < 10 = omega arith in e)) (ap (λ (x : ℕ). (48 + x) ∷ []) (let e : n ≡ n % 10 = omega arith in e))
fuel_same (suc k) (suc m) n h g = elim (dec_lt n 10) [ yes p ↦ rw (lt-ltb n 10 p) | no f ↦ rw (le-ltb n 10 (let e : 10 ≤ n = omega arith in e)) (ap (λ (x : List ℕ). x ++ ((48 + n % 10) ∷ [])) (fuel_same k m (n / 10) (omega arith) (omega arith))) ]

pub decimal_one : (n : ℕ) → n < 10 → decimal n ≡ (48 + n) ∷ []
unfolding decimal
decimal_one n h = fuel_same n (suc n) n (omega arith) (omega arith) ∙ rw (lt-ltb n 10 h)

pub decimal_more : (n : ℕ) → 10 ≤ n → decimal n ≡ decimal (n / 10) ++ ((48 + n % 10) ∷ [])
unfolding decimal
decimal_more n h = fuel_same n (suc n) n (omega arith) (omega arith) ∙ rw (le-ltb n 10 h) (ap (λ (x : List ℕ). x ++ ((48 + n % 10) ∷ [])) (fuel_same n (n / 10) (n / 10) (omega arith) (omega arith)))

pub sets_append : (a b l : List ℕ) (i : ℕ) → sets l i (a ++ b) ≡ sets (sets l i a) (i + length a) b
sets_append [] b l i = ap (λ (x : ℕ). sets l x b) (let e : i ≡ i + 0 = omega arith in e)
sets_append (x ∷ a) b l i = sets_append a b (set l i x) (suc i) ∙ ap (λ (x' : ℕ). sets (sets (set l i x) (suc i) a) x' b) (let e : suc i + length a ≡ i + suc (length a) = omega arith in e)

pub len_one : (n : ℕ) → n < 10 → length (decimal n) ≡ 1
len_one n h = ap length (decimal_one n h)

pub len_more : (n : ℕ) → 10 ≤ n → length (decimal n) ≡ length (decimal (n / 10)) + 1
len_more n h = ap length (decimal_more n h) ∙ length-append (decimal (n / 10)) ((48 + n % 10) ∷ [])
