-- `record_write::put_end` meets its contract: the pad, where there is one, then the sum word.
use Rattle.std.proofs.Common.{◌∙◌, rules}
use Rattle.record_write.proofs.Stores.{ended}
use Rattle.record_write.proofs.put_end.Goals as goal

pub returns : goal.returns
returns c =
    ended c.args.out.now c.fill.new.self c.copy_from_slice.new.self c.args.len _ _ c.requires (c.fill.ensures.after (λ y e. e))
    c.word_sum-sum.ensures c.wrapping_neg.ensures (search rules) (c.copy_from_slice.ensures.after ∙ c.to_le_bytes.ensures)
