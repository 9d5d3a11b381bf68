-- The reply and the slice are those of the path sums.
use Rattle.splitbox.proofs.Places.{paths_fit}
use Rattle.splitbox.proofs.splitbox_sum_paths.Goals as goal

pub reply-requires : goal.reply-requires
reply-requires c = rw c.sum_paths.ensures.value (paths_fit _ _ _)
