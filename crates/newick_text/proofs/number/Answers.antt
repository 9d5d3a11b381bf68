-- `newick_text::number` meets its contract, by its first byte.
use Rattle.std.proofs.Common.{◌≡◌, unwrap_or}
use mathlib.Core.Path.{◌∙◌}
use native.Mathlib.Omega.{arith}
use Rattle.newick_text.proofs.Laws.{num_zero, num_none, num_some, digit_yes, digit_low, digit_high}
use Rattle.newick_text.proofs.number.Goals as goal

pub returns-in-Some-eq48-clause-q_value : goal.returns-in-Some-eq48-clause-q_value
returns-in-Some-eq48-clause-q_value c q u d l n =
    let b = unwrap_or c.peek.result 256 in let k : b ≡ c.in-Some-eq48.field-0 = cc in
    num_zero c.args.t.now c.args.at b c.peek.ensures q u d l n (omega arith)

pub returns-in-Some-49-to-57-clause-q_value : goal.returns-in-Some-49-to-57-clause-q_value
returns-in-Some-49-to-57-clause-q_value c q u d l n =
    let b = unwrap_or c.peek.result 256 in let k : b ≡ c.in-Some-49-to-57.field-0 = cc in
    num_some c.args.t.now c.args.at b c.peek.ensures q u d l n (λ e. omega arith) (digit_yes b (omega arith) (omega arith)) ∙ c.digits.ensures.l_value u d l

pub returns-in_default-clause-q_value : goal.returns-in_default-clause-q_value
returns-in_default-clause-q_value c q u d l n =
    let b = unwrap_or c.peek.result 256 in let k : b ≡ c.in_default.field-0 = cc in
    num_none c.args.t.now c.args.at b c.peek.ensures q u d l n (λ e. omega arith) (digit_low b (omega arith))

pub returns-in_default-2-clause-q_value : goal.returns-in_default-2-clause-q_value
returns-in_default-2-clause-q_value c q u d l n =
    let b = unwrap_or c.peek.result 256 in let k : b ≡ c.in_default.field-0 = cc in
    num_none c.args.t.now c.args.at b c.peek.ensures q u d l n (λ e. omega arith) (digit_high b (omega arith))

pub returns-in_default-3-clause-q_value : goal.returns-in_default-3-clause-q_value
returns-in_default-3-clause-q_value c q u d l n =
    let b = unwrap_or c.peek.result 256 in let k : b ≡ 256 = cc in
    num_none c.args.t.now c.args.at b c.peek.ensures q u d l n (λ e. omega arith) (digit_high b (omega arith))
