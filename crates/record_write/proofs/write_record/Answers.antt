-- `record_write::write_record` meets its contract: refused by the input, refused for the slice, or written.
use Rattle.std.proofs.Common.{◌≤◌, arith}
use Rattle.std.proofs.lemmas.Bool.Decides.{nat_tests}
use Rattle.statement.specs.Said.{code_of_kind}
use Rattle.statement.specs.Calls.{record_written}
use Rattle.record_write.proofs.Replies.{writing_in_order, few}
use Rattle.record_write.proofs.write_record.Goals as goal

pub returns-in_err-kind-clause-reply : goal.returns-in_err-kind-clause-reply
returns-in_err-kind-clause-reply c = rw writing_in_order (grind (arith, nat_tests))

pub returns-in_err-kind-clause-contents : goal.returns-in_err-kind-clause-contents
unfolding record_written
returns-in_err-kind-clause-contents c = rw (← returns-in_err-kind-clause-reply c) (grind (arith, nat_tests))

pub returns-in_err-check-clause-reply : goal.returns-in_err-check-clause-reply
returns-in_err-check-clause-reply c = rw writing_in_order (grind (arith, nat_tests))

pub returns-in_err-check-clause-contents : goal.returns-in_err-check-clause-contents
unfolding record_written
returns-in_err-check-clause-contents c = rw (← returns-in_err-check-clause-reply c) (grind (arith, nat_tests))

pub returns-then-out-record_length-clause-reply : goal.returns-then-out-record_length-clause-reply
returns-then-out-record_length-clause-reply c = rw writing_in_order (grind (arith, nat_tests))

pub returns-then-out-record_length-clause-contents : goal.returns-then-out-record_length-clause-contents
unfolding record_written
returns-then-out-record_length-clause-contents c = rw (← returns-then-out-record_length-clause-reply c) (grind (arith, nat_tests))

pub overflow_cast-n : goal.overflow_cast-n
overflow_cast-n c = let limit : c.args.n ≤ 64 = few (code_of_kind c.in_ok-kind.kind) c.args.n c.args.body.now c.in_ok-check.ensures in omega arith

pub returns-clause-reply : goal.returns-clause-reply
returns-clause-reply c = rw writing_in_order (grind (arith, nat_tests))

pub returns-clause-contents : goal.returns-clause-contents
unfolding record_written
returns-clause-contents c = rw (← returns-clause-reply c) (grind (arith, nat_tests))
