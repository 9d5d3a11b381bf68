-- `record_find::word_sum` meets its contract: the sum so far and the words that remain add to the whole.
use Rattle.std.proofs.Common.{◌<◌, length, ap, ◌∙◌, arith}
use Rattle.std.specs.Slice.Iter.{chunks_exact_rest}
use Rattle.statement.specs.Bytes.{word_total}
use Rattle.record_find.proofs.Words.{total_more, total_end}
use Rattle.record_find.proofs.word_sum.Goals as goal

pub loop-pair-preserved : goal.loop-pair-preserved
loop-pair-preserved c =
    let (size, step, kept) = c.in-Some.ensures.steps in
    let total = ap word_total step.0 ∙ total_more c.in-Some.pair.now (chunks_exact_rest c.next.new.self) (step.1 ∙ c.loop-pair.invariant.0) in
    (size ∙ c.loop-pair.invariant.0, omega arith, omega (arith, total, c.from_le_bytes-word.ensures))

pub returns : goal.returns
returns c =
    let (size, step, kept) = c.in-None.ensures.steps in
    let short : length (chunks_exact_rest c.loop-pair.pair-iterator) < 2 = omega (arith, step.0) in
    omega (arith, total_end _ short)
