-- A refused reading hands back an empty list with k = 0, whatever the reason and the place. Document 01, "The tree"; document 02, §2.
use Rattle.std.proofs.Common.{◌≡◌, ℕ}
use Rattle.std.specs.Prelude.{Err}
use Rattle.statement.specs.declared.Reason.{Reason}
use Rattle.statement.specs.Outcomes.{Refused}
use Rattle.statement.specs.Said.{number_of_reason}
use Rattle.statement.specs.Calls.{empty_list}
use Rattle.statement.specs.Replies.{reading_said}
use Rattle.statement.proofs.Replies.{refused_reading_law}

pub refused_law : (reason : Reason) (place : ℕ)
    → reading_said (Err (record { reason = reason; place = place })) ≡ record { outcome = Refused (number_of_reason reason) place; list = empty_list 0 }
refused_law reason place = refused_reading_law _
