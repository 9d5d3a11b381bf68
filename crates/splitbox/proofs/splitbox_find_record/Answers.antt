-- The reply is the finding's.
use Rattle.splitbox.proofs.Places.{finding_fits}
use Rattle.splitbox.proofs.splitbox_find_record.Goals as goal

pub reply-requires : goal.reply-requires
reply-requires c = rw c.find_record.ensures.said (finding_fits _)
