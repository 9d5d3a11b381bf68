-- The reply and the lent places are those of the tree read.
use Rattle.splitbox.proofs.Places.{reading_fits}
use Rattle.splitbox.proofs.Back.{reading_shares}
use Rattle.splitbox.proofs.splitbox_read_tree.Goals as goal

pub take_in-requires : goal.take_in-requires
take_in-requires c = reading_shares c.read_tree.result (rw c.read_tree.ensures (reading_fits _ _))
