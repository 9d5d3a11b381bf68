-- Laws of the lesser of a weight and some numbers: what is at most it. Assumes nothing.
use Prim.Native.Nat.{ℕ, zero, suc, ◌≤◌, ◌<◌}
use native.Mathlib.Omega.{arith}
use native.Mathlib.Decide.{dec_lt}
use native.Mathlib.Nat.{le_refl}
use mathlib.Core.Path.{◌≡◌, ap}
use mathlib.Core.Logic.{◌↔◌}
use Rattle.statement.specs.Growing.{lesser}

-- t is at most the lesser exactly when it is at most w and each of the numbers
pub lesser_of : (w t : ℕ) (f : ℕ → ℕ) (m : ℕ) → t ≤ lesser w f m → (t ≤ w) × ((i : ℕ) → i < m → t ≤ f i)
unfolding lesser
lesser_of w t f zero h = (h, λ i l. absurd (omega arith))
lesser_of w t f (suc m) h = let p = lesser_of w t f m (omega arith) in (p.0, λ i l. go i l (dec_lt i m) p.1)
  where
    go : (i : ℕ) → i < suc m → Dec (i < m) → ((j : ℕ) → j < m → t ≤ f j) → t ≤ f i
    go i l (yes q) below = below i q
    go i l (no q) below = let e : i ≡ m = omega arith in omega (arith, ap f e)

pub of_lesser : (w t : ℕ) (f : ℕ → ℕ) (m : ℕ) → t ≤ w → ((i : ℕ) → i < m → t ≤ f i) → t ≤ lesser w f m
unfolding lesser
of_lesser w t f zero c h = c
of_lesser w t f (suc m) c h = omega (arith, h m (omega arith), of_lesser w t f m c (λ i l. h i (omega arith)))

-- two numbers with the same numbers from 1 on below them are the same
pub same_below : (p q : ℕ) → ((t : ℕ) → 1 ≤ t → (t ≤ p) ↔ (t ≤ q)) → p ≡ q
same_below p q h = go (dec_lt p q) (dec_lt q p)
  where
    go : Dec (p < q) → Dec (q < p) → p ≡ q
    go (yes l) _ = absurd (omega (arith, (h q (omega arith)).1 (le_refl q)))
    go (no l) (yes m) = absurd (omega (arith, (h p (omega arith)).0 (le_refl p)))
    go (no l) (no m) = omega arith
