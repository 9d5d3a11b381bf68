-- `numerals::count` meets its contract: the starts are the places that pass the test.
use mathlib.Core.Path.{sym, ◌∙◌, ap}
use lib.ListN.{length}
use Rattle.std.proofs.Common.{rules}
use Rattle.std.specs.List.{filter, range_with_len}
use Rattle.numerals.specs.Numerals.{starts_at}
use Rattle.numerals.proofs.Ranges.{items_of, all_of, starts_filter}
use Rattle.numerals.proofs.count.Goals as goal

pub returns : goal.returns
returns c =
    let (p, from, whole, len) = c.count.ensures.runs in
    let (q, begun, passed) = c.filter.ensures.runs p p.seen from in
    let text = c.args.text.now in
    let n = length text in
    let items = (items_of q n begun).1 ∙ ap (range_with_len 0) (all_of q n begun (passed.0 ∙ whole)) in
    len ∙ p.long
    ∙ ap length (passed.4 (starts_at text) (λ x r f' k. search rules) ∙ ap (filter (starts_at text)) items ∙ sym (starts_filter text 0 n))
