-- What the code hands back is the documents' reply and no more: two results with one reply are one. Assumes nothing.
use Prim.Native.Nat.{ℕ}
use mathlib.Core.Path.{◌≡◌, refl, sym, ap, ◌∙◌}
use mathlib.Core.Bool.{true, false, true≢false}
use Rattle.std.specs.Prelude.{Result, Ok, Err, [], ◌∷◌, get_or}
use Rattle.statement.specs.declared.Splits.{Splits}
use Rattle.statement.specs.Outcomes.{Growth, Outcome, Done, Short, Refused}
use Rattle.statement.specs.declared.Grown.{Grown}
use Rattle.statement.specs.declared.Reason.{Reason}
use Rattle.statement.specs.declared.Reason.TheVariants as reason
use Rattle.statement.specs.declared.Refusal.{Refusal}
use Rattle.statement.specs.declared.Ending.{Ending}
use Rattle.statement.specs.declared.Ending.TheVariants as ending
use Rattle.statement.specs.Refusals.{number_of, place_of}
use Rattle.statement.specs.Rows.{list_of}
use Rattle.statement.specs.Calls.{unless_refused}
use Rattle.statement.specs.Said.{number_of_reason}
use Rattle.statement.specs.Replies.{refused_for, said, reading_said, ending_said, growth_said}

-- the reason with a number
abbrev pub reason_numbered : ℕ → Reason
reason_numbered number =
    get_or (reason.Taxon ∷ reason.Taxa ∷ reason.Length ∷ reason.Diagonal ∷ reason.Distance ∷ reason.Pair ∷ reason.TableByte ∷ reason.Output ∷ reason.List ∷ reason.Tree ∷ reason.Walk
    ∷ reason.Home ∷ reason.Edge ∷ reason.Twin ∷ reason.Weight ∷ reason.Mark ∷ reason.Cut ∷ reason.Kind ∷ reason.Sum ∷ reason.Text ∷ []) number reason.Taxon

pub numbered_back : (r : Reason) → reason_numbered (number_of_reason r) ≡ r
numbered_back reason.Taxa = refl
numbered_back reason.Length = refl
numbered_back reason.Diagonal = refl
numbered_back reason.Distance = refl
numbered_back reason.Pair = refl
numbered_back reason.TableByte = refl
numbered_back reason.Output = refl
numbered_back reason.List = refl
numbered_back reason.Tree = refl
numbered_back reason.Walk = refl
numbered_back reason.Home = refl
numbered_back reason.Edge = refl
numbered_back reason.Twin = refl
numbered_back reason.Weight = refl
numbered_back reason.Mark = refl
numbered_back reason.Cut = refl
numbered_back reason.Kind = refl
numbered_back reason.Sum = refl
numbered_back reason.Text = refl
numbered_back reason.Taxon = refl

-- what an outcome was said of
abbrev pub refusal_of : Outcome → Refusal
refusal_of o = record { reason = reason_numbered (number_of o); place = place_of o }

pub refusal_back : (r : Refusal) → refusal_of (refused_for r) ≡ r
refusal_back r = ap (λ w. record { reason = w; place = r.place }) (numbered_back r.reason)

pub refused_apart : (r s : Refusal) → refused_for r ≡ refused_for s → r ≡ s
refused_apart r s e = sym (refusal_back r) ∙ ap refusal_of e ∙ refusal_back s

pub said_apart : (r s : Result Unit Refusal) → said r ≡ said s → r ≡ s
said_apart (Ok x) (Ok y) e = refl
said_apart (Ok x) (Err s) e = absurd (true≢false (sym (ap (λ o. unless_refused o true false) e)))
said_apart (Err r) (Ok y) e = absurd (true≢false (ap (λ o. unless_refused o true false) e))
said_apart (Err r) (Err s) e = ap Err (refused_apart r s e)

pub reading_apart : (r s : Result Splits Refusal) → reading_said r ≡ reading_said s → r ≡ s
reading_apart (Ok x) (Ok y) e = ap (λ reading. Ok reading.list) e
reading_apart (Ok x) (Err s) e = absurd (true≢false (sym (ap (λ reading. unless_refused reading.outcome true false) e)))
reading_apart (Err r) (Ok y) e = absurd (true≢false (ap (λ reading. unless_refused reading.outcome true false) e))
reading_apart (Err r) (Err s) e = ap Err (refused_apart r s (ap (λ reading. reading.outcome) e))

abbrev pub ending_of : Outcome → Ending
ending_of Done = ending.Done
ending_of Short = ending.Short
ending_of (Refused number place) = ending.Short

pub ending_back : (x : Ending) → ending_of (ending_said x) ≡ x
ending_back ending.Done = refl
ending_back ending.Short = refl

-- what was grown, by the reply
abbrev pub grown_of : Growth → Grown
grown_of g = record { ending = ending_of g.outcome; list = g.list; trials = g.trials }

pub grown_back : (given : Splits) (g : Grown) → grown_of (growth_said given (Ok g)) ≡ g
grown_back given g = ap (λ x. record { ending = x; list = g.list; trials = g.trials }) (ending_back g.ending)

pub not_refused : (x : Ending) → unless_refused (ending_said x) true false ≡ false
not_refused ending.Done = refl
not_refused ending.Short = refl

pub growth_apart : (given : Splits) (r s : Result Grown Refusal) → growth_said given r ≡ growth_said given s → r ≡ s
growth_apart given (Ok g) (Ok h) e = ap Ok (sym (grown_back given g) ∙ ap grown_of e ∙ grown_back given h)
growth_apart given (Ok g) (Err s) e = absurd (true≢false (sym (ap (λ x. unless_refused x.outcome true false) e) ∙ not_refused g.ending))
growth_apart given (Err r) (Ok h) e = absurd (true≢false (ap (λ x. unless_refused x.outcome true false) e ∙ not_refused h.ending))
growth_apart given (Err r) (Err s) e = ap Err (refused_apart r s (ap (λ x. x.outcome) e))

-- a refused reading leaves nobody a list: it is the empty one, with k = 0
pub refused_reading_law : (r : Refusal) → reading_said (Err r) ≡ record { outcome = Refused (number_of_reason r.reason) r.place; list = list_of 0 [] }
refused_reading_law r = refl

-- a refused growth leaves the list that was given, with no trials
pub refused_growth_law : (given : Splits) (r : Refusal) → growth_said given (Err r) ≡ record { outcome = Refused (number_of_reason r.reason) r.place; list = given; trials = 0 }
refused_growth_law given r = refl
