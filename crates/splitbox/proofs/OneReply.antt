-- ONE REPLY: what the contracts of the C face say of a growth, a reading and a step settles the reply and the lent places; a refusal leaves these as
-- they were; and a reply tells number and place apart. Assumes nothing.
use Prim.Native.Nat.{ℕ, ◌/◌, ◌%◌}
use native.Mathlib.Omega.{arith}
use mathlib.Core.Path.{◌≡◌, sym, ◌∙◌, ap}
use Rattle.statement.specs.declared.Splits.{Splits}
use Rattle.statement.specs.Outcomes.{Growth, Reading, Outcome, Done, Short, Refused}
use Rattle.statement.specs.Steps.{Step}
use Rattle.statement.specs.Steps as step
use Rattle.statement.specs.Refusals.{place_of}
use Rattle.statement.specs.Calls.{unless_refused}
use Rattle.splitbox.specs.Face.{code_of, reply_of, Shares, HandedBack, ReadBack, Walked}

pub one_growth : (g : Growth) (s₀ s s' : Splits) (t₀ t t' r r' : ℕ) → HandedBack g r s₀ s t₀ t → HandedBack g r' s₀ s' t₀ t' → (r ≡ r') × (s ≡ s') × (t ≡ t')
one_growth g s₀ s s' t₀ t t' r r' h k = (h.0 ∙ sym k.0, h.1 ∙ sym k.1, h.2 ∙ sym k.2)

pub one_reading : (g : Reading) (s₀ s s' : Splits) (r r' : ℕ) → ReadBack g r s₀ s → ReadBack g r' s₀ s' → (r ≡ r') × (s ≡ s')
one_reading g s₀ s s' r r' h k = (h.0 ∙ sym k.0, h.1 ∙ sym k.1)

module _ (r r' p₀ p p' b₀ b b' l₀ l l' : ℕ) where
  pub one_step : (at : Step) → Walked at r p₀ p b₀ b l₀ l → Walked at r' p₀ p' b₀ b' l₀ l' → (r ≡ r') × (p ≡ p') × (b ≡ b') × (l ≡ l')
  one_step step.End h k = (h.0 ∙ sym k.0, h.1 ∙ sym k.1, h.2 ∙ sym k.2, h.3 ∙ sym k.3)
  one_step (step.Found start len next) h k = (h.0 ∙ sym k.0, h.1 ∙ sym k.1, h.2 ∙ sym k.2, h.3 ∙ sym k.3)
  one_step (step.Refused number place) h k = (h.0 ∙ sym k.0, h.1 ∙ sym k.1, h.2 ∙ sym k.2, h.3 ∙ sym k.3)

-- NO REFUSAL alters a lent place
pub growth_unaltered : (g : Growth) (s₀ s : Splits) (t₀ t r number place : ℕ) → HandedBack g r s₀ s t₀ t → g.outcome ≡ Refused number place → (s ≡ s₀) × (t ≡ t₀)
growth_unaltered g s₀ s t₀ t r number place h e =
    (h.1 ∙ ap (λ (o : Outcome). unless_refused o s₀ g.list) e, h.2 ∙ ap (λ (o : Outcome). unless_refused o t₀ g.trials) e)

pub reading_unaltered : (g : Reading) (s₀ s : Splits) (r number place : ℕ) → ReadBack g r s₀ s → g.outcome ≡ Refused number place → s ≡ s₀
reading_unaltered g s₀ s r number place h e = h.1 ∙ ap (λ (o : Outcome). unless_refused o s₀ g.list) e

-- the low byte says what was said, the rest the place
pub told_apart : (o : Outcome) → Shares o → (reply_of o % 256 ≡ code_of o) × (reply_of o / 256 ≡ place_of o)
told_apart Done shares = (omega arith, omega arith)
told_apart Short shares = (omega arith, omega arith)
told_apart (Refused number place) (low, high, few) = (omega arith, omega arith)
