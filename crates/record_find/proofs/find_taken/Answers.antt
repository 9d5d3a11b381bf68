-- `record_find::find_taken` meets its contract: the finder's checks, then the kind's.
use Rattle.std.proofs.Common.{arith}
use Rattle.std.proofs.lemmas.Bool.Decides.{nat_tests}
use Rattle.record_find.specs.Taken.{kinds_taken}
use Rattle.record_find.proofs.Found.{kind_last}
use Rattle.record_find.proofs.find_taken.Goals as goal

pub returns-in_err-found-clause-said : goal.returns-in_err-found-clause-said
returns-in_err-found-clause-said c = rw (kind_last (kinds_taken c.args.taken) c.args.bytes.now) (grind (arith, nat_tests))

pub returns-then-not-takes-clause-said : goal.returns-then-not-takes-clause-said
returns-then-not-takes-clause-said c = rw (kind_last (kinds_taken c.args.taken) c.args.bytes.now) (grind (arith, nat_tests))

pub returns-clause-said : goal.returns-clause-said
returns-clause-said c = rw (kind_last (kinds_taken c.args.taken) c.args.bytes.now) (grind (arith, nat_tests))
