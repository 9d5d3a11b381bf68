-- Scores of an accepted matrix: at most one of the three pairings of four taxa is above zero, equal least sums give none, and the range. Assumes nothing.
use Prim.Native.Nat.{ℕ, suc, ◌+◌, ◌-◌, ◌≤◌, ◌<◌, min}
use native.Mathlib.Omega.{arith}
use mathlib.Core.Path.{◌≡◌, refl}
use mathlib.Core.Bool.{Bool, true, false, cond}
use mathlib.Core.List.{List}
use lib.Dec.{ltb, le→leb}
use lib.IntN.{pos, negsuc, neg_ℤ, sub_ℕ}
use lib.Signed.{◌≤ℤ◌, ◌<ℤ◌}
use borrow.Author.Tests.{ltb-true}
use Rattle.statement.specs.Matrix.{distance, weight_limit, AcceptedMatrix, score}
use Rattle.statement.proofs.Matrix.{of_score, above_zero, Least}

-- above zero is a sum below both others
above_sums : (d : ℕ → ℕ → ℕ) (w x y z : ℕ) → pos 0 <ℤ score d w x y z → Least d 1 w x y z
above_sums d w x y z h = of_score d 1 w x y z ((above_zero (score d w x y z)).1 h)

module _ (n : ℕ) (entries : List ℕ) (accepted : AcceptedMatrix n entries) (w x y z : ℕ) (lw : w < n) (lx : x < n) (ly : y < n) (lz : z < n) where
  -- of the three pairings wx|yz, wy|xz, wz|xy at most one scores above zero
  pub at_most_one :
      (pos 0 <ℤ score (distance n entries) w x y z → pos 0 <ℤ score (distance n entries) w y x z → ⊥)
      × (pos 0 <ℤ score (distance n entries) w x y z → pos 0 <ℤ score (distance n entries) w z x y → ⊥)
      × (pos 0 <ℤ score (distance n entries) w y x z → pos 0 <ℤ score (distance n entries) w z x y → ⊥)
  at_most_one =
      let d = distance n entries in
      let sxy : d x y ≡ d y x = accepted.same x y lx ly in
      let sxz : d x z ≡ d z x = accepted.same x z lx lz in
      let syz : d y z ≡ d z y = accepted.same y z ly lz in (
        (λ f g. omega (arith, above_sums d w x y z f, above_sums d w y x z g)),
        (λ f g. omega (arith, above_sums d w x y z f, above_sums d w z x y g)),
        (λ f g. omega (arith, above_sums d w y x z f, above_sums d w z x y g)),
      )

  -- equal least sums give none
  pub tie_gives_none : let d = distance n entries in d w x + d y z ≡ d w y + d x z → d w x + d y z ≤ d w z + d x y
      → (pos 0 <ℤ score d w x y z → ⊥) × (pos 0 <ℤ score d w y x z → ⊥) × (pos 0 <ℤ score d w z x y → ⊥)
  tie_gives_none e l =
      let d = distance n entries in
      let sxy : d x y ≡ d y x = accepted.same x y lx ly in
      let sxz : d x z ≡ d z x = accepted.same x z lx lz in
      let syz : d y z ≡ d z y = accepted.same y z ly lz in (
        (λ f. omega (arith, above_sums d w x y z f)),
        (λ f. omega (arith, above_sums d w y x z f)),
        (λ f. omega (arith, above_sums d w z x y f)),
      )

  -- from -2,000,000 to 2,000,000
  pub score_range : (neg_ℤ (pos weight_limit) ≤ℤ score (distance n entries) w x y z) × (score (distance n entries) w x y z ≤ℤ pos weight_limit)
  score_range =
      let d = distance n entries in
      within (min (d w y + d x z) (d w z + d x y)) (d w x + d y z)
      (omega (arith, accepted.limit w y lw ly, accepted.limit x z lx lz))
      (omega (arith, accepted.limit w x lw lx, accepted.limit y z ly lz))
    where
      within : (a b : ℕ) → a ≤ weight_limit → b ≤ weight_limit → (neg_ℤ (pos weight_limit) ≤ℤ sub_ℕ a b) × (sub_ℕ a b ≤ℤ pos weight_limit)
      within a b la lb = go (ltb a b) refl
        where
          go : (s : Bool) → ltb a b ≡ s
              → (neg_ℤ (pos weight_limit) ≤ℤ cond s (negsuc (b - suc a)) (pos (a - b))) × (cond s (negsuc (b - suc a)) (pos (a - b)) ≤ℤ pos weight_limit)
          go true e = let h = ltb-true a b e in (record { le = le→leb (b - suc a) 1999999 (omega arith) }, record { le = tt })
          go false e = (record { le = tt }, record { le = le→leb (a - b) weight_limit (omega arith) })
