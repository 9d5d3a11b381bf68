-- The reply is that of the finding with the kinds taken.
use Rattle.splitbox.proofs.Places.{taken_fits}
use Rattle.record_find.specs.Taken.{kinds_taken}
use Rattle.splitbox.proofs.splitbox_find_taken.Goals as goal

pub reply-requires : goal.reply-requires
reply-requires c =
    let a = c.args in
    rw c.find_taken.ensures.said (taken_fits (kinds_taken (record { matrices = a.matrices; tables = a.tables; trees = a.trees })) a.bytes.now)
