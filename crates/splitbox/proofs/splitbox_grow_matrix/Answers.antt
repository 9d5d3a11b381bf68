-- The reply and the lent places are those of growth on a matrix.
use Rattle.splitbox.proofs.Places.{matrix_growth_fits}
use Rattle.splitbox.proofs.Back.{growth_shares}
use Rattle.splitbox.proofs.splitbox_grow_matrix.Goals as goal

pub hand_back-requires : goal.hand_back-requires
hand_back-requires c = growth_shares c.given-s.result c.grow_matrix.result (rw c.grow_matrix.ensures (matrix_growth_fits _ _ _ _))
