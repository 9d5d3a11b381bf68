-- The reply and the slice are those of the tree written.
use Rattle.splitbox.proofs.Places.{tree_fits_law}
use Rattle.splitbox.proofs.splitbox_write_tree.Goals as goal

pub reply-requires : goal.reply-requires
reply-requires c = rw c.write_tree.ensures.value (tree_fits_law _ _ _)
