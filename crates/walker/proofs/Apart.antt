-- A step of the code is the documents' step and no more: two steps with one reply are one. Assumes nothing.
use Prim.Native.Nat.{ℕ}
use mathlib.Core.Path.{◌≡◌, refl, ap}
use native.Mathlib.Omega.{arith}
use Rattle.std.specs.Prelude.{Result, Ok, Err}
use Rattle.std.specs.declared.option.Option.{Option}
use Rattle.std.specs.declared.option.Option.TheVariants.{None, Some}
use Rattle.statement.specs.declared.Refusal.{Refusal}
use Rattle.statement.specs.Outcomes.{Outcome, Done, Refused}
use Rattle.statement.specs.Steps.{Step}
use Rattle.statement.specs.Steps as step
use Rattle.statement.proofs.Replies.{refused_apart}
use Rattle.walker.specs.declared.Found.{Found}
use Rattle.walker.specs.Moved.{step_said}

-- which step it is, and what it tells
abbrev which : Step → ℕ
which step.End = 0
which (step.Found start length behind) = 1
which (step.Refused number place) = 2

abbrev told : Step → Found
told step.End = record { start = 0; length = 0; behind = 0 }
told (step.Found start length behind) = record { start = start; length = length; behind = behind }
told (step.Refused number place) = record { start = 0; length = 0; behind = 0 }

abbrev refusal_told : Step → Outcome
refusal_told step.End = Done
refusal_told (step.Found start length behind) = Done
refusal_told (step.Refused number place) = Refused number place

other : {m n : ℕ} → m ≡ n → (m ≡ n → ⊥) → {A : Type 0} → A
other e f = absurd (f e)

pub step_apart : (r s : Result (Option Found) Refusal) → step_said r ≡ step_said s → r ≡ s
step_apart (Ok None) (Ok None) e = refl
step_apart (Ok None) (Ok (Some g)) e = other (ap which e) (λ h. omega arith)
step_apart (Ok None) (Err t) e = other (ap which e) (λ h. omega arith)
step_apart (Ok (Some f)) (Ok None) e = other (ap which e) (λ h. omega arith)
step_apart (Ok (Some f)) (Ok (Some g)) e = ap (λ x. Ok (Some (told x))) e
step_apart (Ok (Some f)) (Err t) e = other (ap which e) (λ h. omega arith)
step_apart (Err r) (Ok None) e = other (ap which e) (λ h. omega arith)
step_apart (Err r) (Ok (Some g)) e = other (ap which e) (λ h. omega arith)
step_apart (Err r) (Err s) e = ap Err (refused_apart r s (ap refusal_told e))
