-- `record_find::find_record` meets its contract, one test after the other.
use Rattle.std.proofs.Common.{sym, refl, ap, arith, length-take, length-drop}
use Rattle.statement.specs.Refusals.{number_of}
use Rattle.std.proofs.lemmas.Bool.Decides.{nat_tests}
use Rattle.record_find.proofs.Found.{tests_in_order, body_found}
use Rattle.record_find.proofs.find_record.Goals as goal

pub returns-then-bytes-lt8-clause-said : goal.returns-then-bytes-lt8-clause-said
returns-then-bytes-lt8-clause-said c = rw tests_in_order (grind (arith, nat_tests))

pub returns-then-bytes-ne83-clause-said : goal.returns-then-bytes-ne83-clause-said
returns-then-bytes-ne83-clause-said c = rw tests_in_order (grind (arith, nat_tests))

pub returns-in_err-kind-clause-said : goal.returns-in_err-kind-clause-said
returns-in_err-kind-clause-said c = rw tests_in_order (grind (arith, nat_tests))

pub returns-then-taxa-lt2-clause-said : goal.returns-then-taxa-lt2-clause-said
returns-then-taxa-lt2-clause-said c = rw tests_in_order (grind (arith, nat_tests))

pub returns-then-not-length_fits-clause-said : goal.returns-then-not-length_fits-clause-said
returns-then-not-length_fits-clause-said c = rw tests_in_order (grind (arith, nat_tests))

pub returns-then-bytes-whole-clause-said : goal.returns-then-bytes-whole-clause-said
returns-then-bytes-whole-clause-said c = rw tests_in_order (grind (arith, nat_tests))

pub returns-then-not-pad_is_zero-clause-said : goal.returns-then-not-pad_is_zero-clause-said
returns-then-not-pad_is_zero-clause-said c = rw tests_in_order (grind (arith, nat_tests))

pub returns-clause-said : goal.returns-clause-said
returns-clause-said c = rw tests_in_order (grind (arith, nat_tests))

pub returns-clause-ok : goal.returns-clause-ok
returns-clause-ok c = record {
  kind_is = grind (arith, nat_tests);
  taxa = c.from-taxa.ensures;
  contents = body_found _ (sym (ap number_of (returns-clause-said c))) _ c.length_in-len.ensures.0;
  pointer = (refl, omega arith);
  size = simp (length-take, length-drop) (omega (arith, c.length_in-len.ensures));
  whole = omega (arith, c.length_in-len.ensures, c.record_length-whole.ensures);
}
