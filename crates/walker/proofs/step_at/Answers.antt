-- `walker::step_at` meets its contract: the end, a refused record, or one that is found.
use Rattle.std.proofs.Common.{refl, arith}
use Rattle.std.proofs.lemmas.Bool.Decides.{nat_tests}
use Rattle.statement.specs.Calls.{step_at}
use Rattle.walker.proofs.Stepping.{step_within}
use Rattle.walker.proofs.step_at.Goals as goal

pub returns-then-place-file : goal.returns-then-place-file
unfolding step_at
returns-then-place-file c = grind (arith, nat_tests)

pub returns-in_err-found : goal.returns-in_err-found
returns-in_err-found c = rw (step_within c.args.file.now c.args.place _ c.if-place-file.false refl) (grind (arith, nat_tests))

pub overflow_add-result-2 : goal.overflow_add-result-2
overflow_add-result-2 c = omega (arith, c.in_ok-found.ensures.ok.size, c.in_ok-found.ensures.ok.whole, c.record_length.ensures)

pub returns : goal.returns
returns c = rw (step_within c.args.file.now c.args.place _ c.if-place-file.false refl) (grind (arith, nat_tests))
