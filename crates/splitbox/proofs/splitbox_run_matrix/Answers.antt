-- The reply and the lent places are those of the whole run on a matrix.
use Rattle.statement.specs.Calls.{empty_list}
use Rattle.splitbox.proofs.Places.{matrix_run_fits}
use Rattle.splitbox.proofs.Back.{growth_shares}
use Rattle.splitbox.proofs.splitbox_run_matrix.Goals as goal

pub hand_back-requires : goal.hand_back-requires
hand_back-requires c = growth_shares (empty_list 0) c.run_matrix.result (rw c.run_matrix.ensures (matrix_run_fits _ _))
