-- THE REPLIES OF THE CODE, as the definitions speak of them: a call hands back its result or a refusal, which is an outcome.
use Rattle.std.specs.Prelude.{Result, Ok, Err}
use Rattle.statement.specs.declared.Splits.{Splits}
use Rattle.statement.specs.Outcomes.{Growth, Reading, Outcome, Done, Short, Refused}
use Rattle.statement.specs.declared.Grown.{Grown}
use Rattle.statement.specs.declared.Refusal.{Refusal}
use Rattle.statement.specs.declared.Ending.{Ending}
use Rattle.statement.specs.declared.Ending.TheVariants as ending
use Rattle.statement.specs.Said.{number_of_reason}
use Rattle.statement.specs.Calls.{refused_reading, refused_growth}

-- a refusal is its number and its place
abbrev pub refused_for : Refusal → Outcome
refused_for r = Refused (number_of_reason r.reason) r.place

-- what a call says
abbrev pub said : {A : Type 0} → Result A Refusal → Outcome
said (Ok x) = Done
said (Err r) = refused_for r

-- what a reader says: a refused reading hands back an empty list with k = 0
abbrev pub reading_said : Result Splits Refusal → Reading
reading_said (Ok list) = record { outcome = Done; list = list }
reading_said (Err r) = refused_reading (refused_for r)

-- what growth says: a refused growth leaves the list that it was given, with 0 trials
abbrev pub ending_said : Ending → Outcome
ending_said ending.Done = Done
ending_said ending.Short = Short

abbrev pub growth_said : Splits → Result Grown Refusal → Growth
growth_said given (Ok g) = record { outcome = ending_said g.ending; list = g.list; trials = g.trials }
growth_said given (Err r) = refused_growth (refused_for r) given
