-- The reply and the slice are those of the record written.
use Rattle.splitbox.proofs.Places.{writing_fits}
use Rattle.splitbox.proofs.splitbox_write_record.Goals as goal

pub reply-requires : goal.reply-requires
reply-requires c = rw c.write_record.ensures.reply (writing_fits _ _ _ _)
