-- `record_find::word_sum` meets its contract: the sum so far and the words that remain add to the whole.
use Rattle.std.proofs.Common.{◌≡◌, ◌+◌, ◌%◌, ◌<◌}
use Rattle.std.specs.Slice.Iter.{chunks_exact_rest, chunks_exact_size}
use Rattle.statement.specs.Bytes.{word_total}
use Rattle.record_find.proofs.word_sum.Given as goal

abbrev pub invariant-loop-pair : goal.invariant-loop-pair
invariant-loop-pair l =
    (chunks_exact_size l.pair-iterator ≡ 2) × (l.sum < 65536) × ((l.sum + word_total (chunks_exact_rest l.pair-iterator)) % 65536 ≡ word_total l.bytes % 65536)
