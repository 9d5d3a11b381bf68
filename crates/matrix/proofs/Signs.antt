-- A weight lowered by a score. Assumes nothing.
use Prim.Native.Nat.{ℕ, ◌+◌, ◌≤◌, min}
use native.Mathlib.Omega.{arith}
use mathlib.Core.Path.{◌≡◌}
use mathlib.Core.Logic.{◌↔◌}
use lib.IntN.{sub_ℕ}
use Rattle.statement.specs.Growing.{above}
use Rattle.statement.proofs.Matrix.{le_sub, sub_le}
use Rattle.statement.proofs.Trial.{above_is}

-- a number from 1 on at most a weight lowered by the score p less q
pub lowered_at : (t p q best r : ℕ) → 1 ≤ t → r ≡ min (above (sub_ℕ p q)) best → (t ≤ r) ↔ ((t ≤ best) × (t + q ≤ p))
lowered_at t p q best r pt e = (
  (λ h. (omega arith, sub_le t p q ((above_is t (sub_ℕ p q) pt).0 (omega arith)))),
  (λ h. omega (arith, h.0, (above_is t (sub_ℕ p q) pt).1 (le_sub t p q h.1))),
)
