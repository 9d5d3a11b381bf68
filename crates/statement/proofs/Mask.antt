-- Conflict by one bitwise and, as a program tests it. Assumes nothing.
use Prim.Native.Nat.{ℕ, ◌+◌, ◌*◌, ◌/◌, ◌%◌, ◌^◌, ◌<◌, min}
use native.Mathlib.Omega.{arith}
use mathlib.Core.Path.{◌≡◌, ◌∙◌, ap}
use mathlib.Core.Logic.{◌≢◌, ◌↔◌}
use lib.Bits.{bit_and, and_shr, and_step, and_le_l, and_le_r, and_mask}
use Rattle.statement.specs.Cluster.{bit, Split, Conflict}
use Rattle.statement.proofs.Bits.{bit_lt, bit_none, lt_bit}

-- (c >> i) & 1
pub bit_code : (c i : ℕ) → bit_and (c / 2 ^ i) 1 ≡ bit c i
bit_code c i = and_mask (c / 2 ^ i) 1

pub bit_and_law : (a b i : ℕ) → bit (bit_and a b) i ≡ min (bit a i) (bit b i)
bit_and_law a b i =
    ap (λ (n : ℕ). n % 2) (and_shr a b i ∙ and_step (a / 2 ^ i) (b / 2 ^ i))
    ∙ parity (bit_and (a / 2 ^ i / 2) (b / 2 ^ i / 2)) (min (a / 2 ^ i % 2) (b / 2 ^ i % 2)) (omega arith)
  where
    parity : (q m : ℕ) → m < 2 → (q * 2 + m) % 2 ≡ m
    parity q m h = omega arith

module _ (k a b : ℕ) (sa : Split k a) (sb : Split k b) (pk : 0 < k) where
  pub conflict_mask : Conflict k a b ↔ ((bit_and a b ≢ 0) × (bit_and a b ≢ a) × (bit_and a b ≢ b))
  conflict_mask = (there, λ h. back h.0 h.1 h.2)
    where
      there : Conflict k a b → (bit_and a b ≢ 0) × (bit_and a b ≢ a) × (bit_and a b ≢ b)
      there h = (
        λ e. omega (arith, ap (λ (n : ℕ). bit n h.ii.0) e, bit_none h.ii.0, bit_and_law a b h.ii.0, h.ii.2, h.ii.3),
        λ e. omega (arith, ap (λ (n : ℕ). bit n h.io.0) e, bit_and_law a b h.io.0, h.io.2, h.io.3),
        λ e. omega (arith, ap (λ (n : ℕ). bit n h.oi.0) e, bit_and_law a b h.oi.0, h.oi.2, h.oi.3),
      )

      back : bit_and a b ≢ 0 → bit_and a b ≢ a → bit_and a b ≢ b → Conflict k a b
      back n0 na nb =
          let (i, li, zi, oi) = lt_bit k 0 (bit_and a b) (omega arith) (omega (arith, and_le_l a b, sa.below)) in
          let (j, lj, zj, oj) = lt_bit k (bit_and a b) a (omega (arith, and_le_l a b)) sa.below in
          let (l, ll, zl, ol) = lt_bit k (bit_and a b) b (omega (arith, and_le_r a b)) sb.below in
          record {
            ii = (i, li, omega (arith, bit_and_law a b i, bit_lt a i, bit_lt b i), omega (arith, bit_and_law a b i, bit_lt a i, bit_lt b i));
            io = (j, lj, oj, omega (arith, bit_and_law a b j, bit_lt b j));
            oi = (l, ll, omega (arith, bit_and_law a b l, bit_lt a l), ol);
            oo = (0, pk, sa.free, sb.free);
          }
