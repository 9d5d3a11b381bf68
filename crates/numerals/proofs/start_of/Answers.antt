-- `numerals::start_of` meets its contract: the starts are the places that pass the test, and those found so far stand in front.
use mathlib.Core.Path.{sym, ◌∙◌, ap}
use lib.ListN.{length}
use Rattle.std.proofs.Common.{rules}
use Rattle.std.specs.List.{filter}
use Rattle.numerals.specs.Numerals.{starts_at}
use Rattle.numerals.proofs.Ranges.{items_of, all_of, nth_item, starts_filter, start_found}
use Rattle.numerals.proofs.start_of.Goals as goal

pub returns : goal.returns
returns c =
    let (p, from, found) = c.nth.ensures.runs in
    let (q, begun, passed) = c.filter.ensures.runs p p.seen from in
    let text = c.args.text.now in
    let within = items_of q (length text) begun in
    let items = passed.4 (starts_at text) (λ x r f' k. search rules) ∙ ap (filter (starts_at text)) within.1 ∙ sym (starts_filter text 0 q.len) in
    c.unwrap_or.ensures ∙ start_found text q.len c.args.i c.nth.result p.items p.whole within.0 (λ w. all_of q (length text) begun (passed.0 ∙ w)) items (nth_item p c.args.i c.nth.result found)
