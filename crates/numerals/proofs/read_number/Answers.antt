-- `numerals::read_number` meets its contract. The number so far, with what remains of the text, is the number at the place, as far as it counts; and the
-- digits passed so far, with those that remain, are all of its digits.
use native.Mathlib.Omega.{arith}
use mathlib.Core.Path.{sym, ◌∙◌}
use Rattle.numerals.proofs.Laws.{number_on, number_ends, text_ends, span_on, span_ends, span_none}
use Rattle.numerals.proofs.read_number.Goals as goal

pub loop-behind-preserved : goal.loop-behind-preserved
loop-behind-preserved c =
    let l = c.loop-behind in
    let text = c.args.text.now in
    let digit = sym c.is_digit.ensures ∙ c.if-is_digit.true in (
      omega (arith, c.with_digit-value.ensures),
      rw c.with_digit-value.ensures (number_on text l.behind l.value c.loop-behind-test.true digit ∙ l.invariant.1),
      omega (arith, l.invariant.2, span_on text l.behind l.value c.loop-behind-test.true digit),
    )

pub returns-else-is_digit : goal.returns-else-is_digit
returns-else-is_digit c =
    let l = c.loop-behind in
    let text = c.args.text.now in
    let none = sym c.is_digit.ensures ∙ c.if-is_digit.false in
    let e = number_ends text l.behind l.value c.loop-behind-test.true none in
    let none = span_ends text l.behind l.value c.loop-behind-test.true none in
    (omega (arith, e, l.invariant.0, l.invariant.1), omega (arith, none, l.invariant.2))

pub returns-after-loop-behind : goal.returns-after-loop-behind
returns-after-loop-behind c =
    let l = c.loop-behind in
    let e = text_ends c.args.text.now l.behind l.value c.loop-behind-test.false in
    let none = span_none c.args.text.now l.behind l.value c.loop-behind-test.false in
    (omega (arith, e, l.invariant.0, l.invariant.1), omega (arith, none, l.invariant.2))
