-- The reply and the slice are those of the text written.
use Rattle.splitbox.proofs.Places.{newick_fits}
use Rattle.splitbox.proofs.splitbox_write_newick.Goals as goal

pub reply-requires : goal.reply-requires
reply-requires c = rw c.write_newick.ensures.value (newick_fits _ _ _)
