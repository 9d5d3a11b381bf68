-- `record_write::lay_out` meets its contract: header, body, then pad and sum word.
use Rattle.record_write.proofs.Stores.{laid_out}
use Rattle.record_write.proofs.lay_out.Goals as goal

pub returns : goal.returns
returns c =
    laid_out _ _ c.args.body.now c.args.out.now c.copy_from_slice.new.self c.copy_from_slice-2.new.self c.store.new.out _
    c.requires c.copy_from_slice.ensures.after (rw c.to_le_bytes.ensures at c.copy_from_slice-2.ensures.after)
    c.store.ensures c.put_end.ensures
