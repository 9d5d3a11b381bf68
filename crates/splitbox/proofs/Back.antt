-- What is said of a result is what its growth, or its reading, says. Assumes nothing.
use Prim.Native.Nat.{ℕ}
use mathlib.Core.Path.{◌≡◌, ◌∙◌, ap}
use Rattle.std.specs.Prelude.{Result, Ok, Err}
use Rattle.statement.specs.declared.Splits.{Splits}
use Rattle.statement.specs.Outcomes.{Outcome}
use Rattle.statement.specs.declared.Grown.{Grown}
use Rattle.statement.specs.declared.Refusal.{Refusal}
use Rattle.statement.specs.Replies.{said, reading_said, growth_said}
use Rattle.splitbox.specs.Face.{reply_of, Shares}

pub growth_shares : (given : Splits) (r : Result Grown Refusal) → Shares (growth_said given r).outcome → Shares (said r)
growth_shares given (Ok g) h = tt
growth_shares given (Err refusal) h = h

pub reading_shares : (r : Result Splits Refusal) → Shares (reading_said r).outcome → Shares (said r)
reading_shares (Ok list) h = tt
reading_shares (Err refusal) h = h

-- a call on a list and a lent slice or number, by the list that was given
pub out_back : {A : Type 0} (says : Splits → Outcome) (holds : Splits → A) (s t : Splits) → s ≡ t → (o : Outcome) (r : ℕ) (w : A)
    → r ≡ reply_of o → o ≡ says s → w ≡ holds s → (r ≡ reply_of (says t)) × (w ≡ holds t)
out_back says holds s t same o r w e f g = (e ∙ ap (λ (u : Outcome). reply_of u) (f ∙ ap says same), g ∙ ap holds same)
