-- The matrix rule keeps the laws of a rule. Assumes nothing.
use Prim.Native.Nat.{ℕ, suc, ◌+◌, ◌-◌, ◌≤◌, ◌<◌, min}
use native.Mathlib.Omega.{arith}
use mathlib.Core.Path.{◌≡◌, refl, ap₂}
use mathlib.Core.Bool.{Bool, true, false, cond}
use lib.Dec.{T, ltb, leb→le, le→leb}
use lib.IntN.{ℤ, pos, negsuc, sub_ℕ}
use lib.Signed.{◌≤ℤ◌, ◌<ℤ◌, le_z}
use mathlib.Core.Logic.{◌↔◌}
use borrow.Author.Tests.{ltb-true, ltb-false}
use Rattle.statement.specs.Matrix.{score}
use Rattle.statement.proofs.Rule.{Laws}
use Rattle.statement.proofs.Instances.{repeat_rule}

-- an order on a difference of naturals is one in ℕ
pub le_sub : (t a b : ℕ) → t + b ≤ a → pos t ≤ℤ sub_ℕ a b
le_sub t a b h = record { le = go (ltb a b) refl }
  where
    go : (s : Bool) → ltb a b ≡ s → T (le_z (pos t) (cond s (negsuc (b - suc a)) (pos (a - b))))
    go true e = absurd (omega (arith, ltb-true a b e))
    go false e = le→leb t (a - b) (omega arith)

pub sub_le : (t a b : ℕ) → pos t ≤ℤ sub_ℕ a b → t + b ≤ a
sub_le t a b h = go (ltb a b) refl h.le
  where
    go : (s : Bool) → ltb a b ≡ s → T (le_z (pos t) (cond s (negsuc (b - suc a)) (pos (a - b)))) → t + b ≤ a
    go true e g = absurd g
    go false e g = omega (arith, leb→le t (a - b) g, ltb-false a b e)

-- a score of t or more, as an order in ℕ
abbrev pub Least : (ℕ → ℕ → ℕ) → ℕ → ℕ → ℕ → ℕ → ℕ → Type 0
Least d t w x y z = t + (d w x + d y z) ≤ min (d w y + d x z) (d w z + d x y)

pub to_score : (d : ℕ → ℕ → ℕ) (t w x y z : ℕ) → Least d t w x y z → pos t ≤ℤ score d w x y z
to_score d t w x y z h = le_sub t (min (d w y + d x z) (d w z + d x y)) (d w x + d y z) h

pub of_score : (d : ℕ → ℕ → ℕ) (t w x y z : ℕ) → pos t ≤ℤ score d w x y z → Least d t w x y z
of_score d t w x y z h = sub_le t (min (d w y + d x z) (d w z + d x y)) (d w x + d y z) h

module _ (n : ℕ) (d : ℕ → ℕ → ℕ) (s : (i j : ℕ) → i < n → j < n → d i j ≡ d j i) (w x y z : ℕ) (lw : w < n) (lx : x < n) (ly : y < n) (lz : z < n) where
  pub score_swap : score d x w y z ≡ score d w x y z
  score_swap =
      let m : min (d x y + d w z) (d x z + d w y) ≡ min (d w y + d x z) (d w z + d x y) = omega arith in
      let p : d x w + d y z ≡ d w x + d y z = omega (arith, s w x lw lx) in
      ap₂ sub_ℕ m p

  pub score_flip : score d y z w x ≡ score d w x y z
  score_flip =
      let m : min (d y w + d z x) (d y x + d z w) ≡ min (d w y + d x z) (d w z + d x y) = omega (arith, s w y lw ly, s w z lw lz, s x y lx ly, s x z lx lz) in
      let p : d y z + d w x ≡ d w x + d y z = omega arith in
      ap₂ sub_ℕ m p

pub score_one : (d : ℕ → ℕ → ℕ) (w x y z : ℕ) → d x y ≡ d y x → pos 1 ≤ℤ score d w x y z → pos 1 ≤ℤ score d w y x z → ⊥
score_one d w x y z e f g = omega (arith, of_score d 1 w x y z f, of_score d 1 w y x z g)

pub repeat_laws : (n : ℕ) (d : ℕ → ℕ → ℕ) → ((i j : ℕ) → i < n → j < n → d i j ≡ d j i) → Laws (repeat_rule n d)
repeat_laws n d s =
    record {
      swap = λ k c w x y z lw lx ly lz a. (tt, score_swap n d s w x y z lw lx ly lz);
      flip = λ k c w x y z lw lx ly lz a. (tt, score_flip n d s w x y z lw lx ly lz);
      all = λ k c w x y z dis. tt;
      one = λ w x y z lw lx ly lz dis. score_one d w x y z (s x y lx ly);
      cap = λ k c. omega arith;
      carried = λ k c pk p e. record { same = λ w x y z lw lx ly lz. ((λ a. a), (λ a. a)); cap = refl };
    }

-- t = 1 is "above zero"
pub above_zero : (z : ℤ) → (pos 1 ≤ℤ z) ↔ (pos 0 <ℤ z)
above_zero (pos n) = ((λ h. record { lt = h.le }), (λ h. record { le = h.lt }))
above_zero (negsuc n) = ((λ h. absurd h.le), (λ h. absurd h.lt))
