-- Bits of a number. Assumes nothing.
use Prim.Native.Nat.{ℕ, zero, suc, ◌+◌, ◌*◌, ◌/◌, ◌%◌, ◌^◌, ◌<◌}
use native.Mathlib.Nat.{div-one, zero-div, div-eq_of_lt}
use native.Mathlib.Omega.{arith}
use native.Mathlib.Decide.{dec_lt}
use mathlib.Core.Path.{◌≡◌, sym, ◌∙◌, ap}
use mathlib.Core.Logic.{◌⊎◌, inl, inr}
use lib.Bits.{block_half, block_odd}
use lib.Pow.{shr-shr, split, high}
use Rattle.statement.specs.Cluster.{bit, In, Out}

pub bit_zero : (c : ℕ) → bit c 0 ≡ c % 2
bit_zero c = ap (λ (n : ℕ). n % 2) (div-one c)

pub bit_suc : (c i : ℕ) → bit c (suc i) ≡ bit (c / 2) i
bit_suc c i = ap (λ (n : ℕ). n % 2) (ap (λ (n : ℕ). c / 2 ^ n) (omega arith) ∙ sym (shr-shr c 1 i))

pub bit_lt : (c i : ℕ) → bit c i < 2
bit_lt c i = omega arith

pub zero_or_one : (c i : ℕ) → Out c i ⊎ In c i
zero_or_one c i = go (dec_lt (bit c i) 1)
  where
    go : Dec (bit c i < 1) → Out c i ⊎ In c i
    go (yes h) = inl (omega arith)
    go (no h) = inr (omega (arith, bit_lt c i))

pub bit_none : (i : ℕ) → Out 0 i
bit_none i = ap (λ (n : ℕ). n % 2) (zero-div (2 ^ i))

-- the greater of two numbers has a bit that the other lacks
pub lt_bit : (k a b : ℕ) → a < b → b < 2 ^ k → (i : ℕ) × (i < k) × Out a i × In b i
lt_bit zero a b h l = absurd (omega arith)
lt_bit (suc k) a b h l = go (dec_lt (a / 2) (b / 2)) (λ p. lt_bit k (a / 2) (b / 2) p (omega arith))
  where
    go : Dec (a / 2 < b / 2) → (a / 2 < b / 2 → (i : ℕ) × (i < k) × Out (a / 2) i × In (b / 2) i) → (i : ℕ) × (i < suc k) × Out a i × In b i
    go (yes p) f = let r = f p in (suc r.0, omega arith, bit_suc a r.0 ∙ r.2, bit_suc b r.0 ∙ r.3)
    go (no p) f = (0, omega arith, omega (arith, bit_zero a), omega (arith, bit_zero b))

-- the bits of a * 2 ^ k + m below k are those of m
pub bit_low : (i k a m : ℕ) → i < k → bit (a * 2 ^ k + m) i ≡ bit m i
bit_low i zero a m h = absurd (omega arith)
bit_low zero (suc k) a m h = bit_zero (a * 2 ^ suc k + m) ∙ block_odd a k m ∙ sym (bit_zero m)
bit_low (suc i) (suc k) a m h =
    bit_suc (a * 2 ^ suc k + m) i ∙ ap (λ (n : ℕ). bit n i) (block_half a k m) ∙ bit_low i k a (m / 2) (omega arith) ∙ sym (bit_suc m i)

pub bit_mod : (c k i : ℕ) → i < k → bit (c % 2 ^ k) i ≡ bit c i
bit_mod c k i h = sym (bit_low i k (c / 2 ^ k) (c % 2 ^ k) h) ∙ ap (λ (n : ℕ). bit n i) (split c k)

pub bit_plus : (c k i : ℕ) → i < k → bit (2 ^ k + c) i ≡ bit c i
bit_plus c k i h = ap (λ (n : ℕ). bit n i) (omega arith) ∙ bit_low i k 1 c h

pub bit_past : (c k : ℕ) → c < 2 ^ k → Out c k
bit_past c k h = ap (λ (n : ℕ). n % 2) (div-eq_of_lt h)

pub bit_top : (c k : ℕ) → c < 2 ^ k → In (2 ^ k + c) k
bit_top c k h = ap (λ (n : ℕ). n / 2 ^ k % 2) (omega arith) ∙ ap (λ (n : ℕ). n % 2) (high 1 k h)

-- two numbers below 2 ^ k with the same bits are the same
pub bit_ext : (k a b : ℕ) → a < 2 ^ k → b < 2 ^ k → ((i : ℕ) → i < k → bit a i ≡ bit b i) → a ≡ b
bit_ext k a b l m e = go (dec_lt a b) (dec_lt b a)
  where
    clash : (x y : ℕ) → x < y → y < 2 ^ k → ((i : ℕ) → i < k → bit x i ≡ bit y i) → ⊥
    clash x y h n f = let r = lt_bit k x y h n in omega (arith, f r.0 r.1, r.2, r.3)

    go : Dec (a < b) → Dec (b < a) → a ≡ b
    go (yes h) d = absurd (clash a b h m e)
    go (no h) (yes g) = absurd (clash b a g l (λ i p. sym (e i p)))
    go (no h) (no g) = omega arith
