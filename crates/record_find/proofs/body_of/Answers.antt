-- `record_find::body_of` meets its contract: what it hands back, and where that lies.
use Rattle.std.proofs.Common.{arith}
use Rattle.std.proofs.lemmas.Bool.Decides.{nat_tests}
use Rattle.statement.specs.Record.{body_in}
use Rattle.statement.specs.Calls.{find_record}
use Rattle.record_find.proofs.body_of.Goals as goal

pub returns-in-Err-clause-contents : goal.returns-in-Err-clause-contents
unfolding body_in find_record
returns-in-Err-clause-contents c = grind (arith, nat_tests)
