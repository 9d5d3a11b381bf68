-- What a walker says, and where it stands after a step. Document 01, "Records in a file": at a refused record it does not move, and at the end it stays.
use Rattle.std.specs.Prelude.{ℕ, Option, None, Some, Result, Ok, Err}
use Rattle.statement.specs.declared.Refusal.{Refusal}
use Rattle.statement.specs.Steps.{Step}
use Rattle.statement.specs.Steps as step
use Rattle.statement.specs.Said.{number_of_reason}
use Rattle.walker.specs.declared.Found.{Found}

-- the step that a reply stands for
abbrev pub step_said : Result (Option Found) Refusal → Step
step_said (Ok None) = step.End
step_said (Ok (Some f)) = step.Found f.start f.length f.behind
step_said (Err r) = step.Refused (number_of_reason r.reason) r.place

abbrev pub place_after : Step → ℕ → ℕ
place_after step.End place = place
place_after (step.Found start len next) place = next
place_after (step.Refused number at) place = place
