-- `places::refuse` meets its contract: a line of the table with these places refuses at its lowest bad one.
use Rattle.std.proofs.Common.{sym, ◌∙◌, [], ap}
use Rattle.statement.specs.Refusals.{Check}
use Rattle.statement.specs.Said.{number_of_reason}
use Rattle.statement.specs.Replies.{refused_for}
use Rattle.statement.proofs.Refused.{refused_at, passed_at, none_left}
use Rattle.places.proofs.refuse.Goals as goal

pub returns-then-place-m : goal.returns-then-place-m
returns-then-place-m g c = λ p f.
    let line : Check = record { number = number_of_reason c.args.reason; places = c.args.m; bad = p } in
    ap refused_for c.at.ensures ∙ sym (refused_at line [] c.lowest-place.result (c.lowest-place.ensures p f) c.if-place-m.true)

pub returns-else-place-m : goal.returns-else-place-m
returns-else-place-m g c = λ p f.
    let line : Check = record { number = number_of_reason c.args.reason; places = c.args.m; bad = p } in
    sym (passed_at line [] c.lowest-place.result (c.lowest-place.ensures p f) c.if-place-m.false ∙ none_left)
