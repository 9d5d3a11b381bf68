-- What one line of the table says is what an order of checks says that begins with it: its refusal, or what the lines behind it say. Assumes nothing.
use Rattle.std.proofs.Common.{◌≡◌, ℕ, Bool, true, false, cond, refl, List, [], ◌∷◌, sym, ◌∙◌}
use Rattle.statement.specs.declared.Refusal.{Refusal}
use Rattle.statement.specs.Outcomes.{Done, Refused}
use Rattle.statement.specs.Refusals.{Check, single, outcome_of, Passed}
use Rattle.statement.specs.Replies.{refused_for}
use Rattle.statement.proofs.Refused.{append_checks, accepted_exactly, first_passed, refused_single, passed_single}

module _ (c : Check) (cs : List Check) where
  pub refused_first : (r : Refusal) → refused_for r ≡ outcome_of (c ∷ []) → refused_for r ≡ outcome_of (c ∷ cs)
  refused_first r e = sym (append_checks (c ∷ []) cs ∙ rw (← e))

  pub line_passed : Done ≡ outcome_of (c ∷ []) → Passed c
  line_passed e = let (p, u) = (accepted_exactly (c ∷ [])).0 (sym e) in p

  pub passed_on : Done ≡ outcome_of (c ∷ []) → outcome_of (c ∷ cs) ≡ outcome_of cs
  passed_on e = first_passed c cs (line_passed e)

-- a line whose place is always 0
pub single_first : (number : ℕ) (bad : Bool) (cs : List Check) → outcome_of (single number bad ∷ cs) ≡ cond bad (Refused number 0) (outcome_of cs)
single_first number true cs = refused_single number true cs refl
single_first number false cs = passed_single number false cs refl
