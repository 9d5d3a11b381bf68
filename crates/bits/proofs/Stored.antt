-- A number stored behind m others. Assumes nothing.
use Prim.Native.Nat.{ℕ, ◌+◌, ◌<◌}
use native.Mathlib.Omega.{arith}
use native.Mathlib.Decide.{dec_lt}
use mathlib.Core.Path.{◌≡◌, subst}
use mathlib.Core.List.{List}
use lib.ListN.{length, get_or, set}
use lib.Seq.{get_or-set_same, get_or-set_other}

-- what holds of each number before place m, and of the one stored there, holds of each up to it
pub stored : (P : ℕ → ℕ → Type 0) (xs : List ℕ) (m r : ℕ) → m < length xs → P m r → ((i : ℕ) → i < m → P i (get_or xs i 0))
    → (i : ℕ) → i < m + 1 → P i (get_or (set xs m r) i 0)
stored P xs m r room new h i l = go (dec_lt i m)
  where
    go : Dec (i < m) → P i (get_or (set xs m r) i 0)
    go (yes q) = rw (get_or-set_other xs m i r 0 (λ e. absurd (omega arith))) (h i q)
    go (no q) = let same : m ≡ i = omega arith in subst (λ (g : ℕ). P g (get_or (set xs m r) g 0)) same (rw (get_or-set_same xs m r 0 room) new)
