-- The reply and the lent places are those of the main job.
use Rattle.statement.specs.Calls.{empty_list}
use Rattle.splitbox.proofs.Places.{job_fits}
use Rattle.splitbox.proofs.Back.{growth_shares}
use Rattle.splitbox.proofs.splitbox_run_record.Goals as goal

pub hand_back-requires : goal.hand_back-requires
hand_back-requires c = growth_shares (empty_list 0) c.run_record.result (rw c.run_record.ensures (job_fits _))
