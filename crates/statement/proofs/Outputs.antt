-- The calls that take a list with k = n and a lent output slice: each way out of their checks, and what an accepted call is given. Assumes nothing.
use Prim.Native.Nat.{ℕ, ◌≤◌}
use mathlib.Core.Path.{◌≡◌, ap}
use mathlib.Core.Logic.Iff
use mathlib.Core.Logic.{◌↔◌, ◌≢◌, inl, inr}
use mathlib.Core.Bool.{true, false, not, ◌&&◌, ◌||◌}
use lib.Dec.{ltb, eqb}
use borrow.Author.Tests.{ne_eqb}
use Rattle.statement.specs.declared.Splits.{Splits}
use Rattle.statement.specs.Outcomes.{Done, Refused}
use Rattle.statement.specs.Matrix.{weight_limit}
use Rattle.statement.specs.Rows.{well_formed}
use Rattle.statement.specs.Refusals.{outcome_of, Passed, AllPassed, whole_list_off, output_off, output_checks}
use Rattle.statement.proofs.Tests.{same_is, both_is, not_is}
use Rattle.statement.proofs.Refused.{single_fails, given_refused, accepted_exactly}
use Rattle.statement.proofs.Accepted.{single_passed, taxa_passed}

pub record AcceptedOutput (n : ℕ) (s : Splits) (len wanted : ℕ) : Type 0 where
  pub two : 2 ≤ n
  pub few : n ≤ 64
  pub well : well_formed weight_limit n s ≡ true
  pub whole : s.taxa ≡ n
  pub size : len ≡ wanted

module _ (n : ℕ) (s : Splits) (len wanted : ℕ) where
  list_passed : Passed (whole_list_off n s) ↔ ((well_formed weight_limit n s ≡ true) × (s.taxa ≡ n))
  list_passed =
      Iff.trans (single_passed 8 (not (well_formed weight_limit n s && eqb s.taxa n))) (not_is (both_is ((λ e. e), (λ e. e)) (same_is s.taxa n)))

  size_passed : Passed (output_off len wanted) ↔ (len ≡ wanted)
  size_passed = Iff.trans (single_passed 7 (not (eqb len wanted))) (not_is (same_is len wanted))

  pub taxa_refused : (ltb n 2 || ltb 64 n) ≡ true → outcome_of (output_checks n s len wanted) ≡ Refused 1 0
  taxa_refused e = given_refused (output_checks n s len wanted) 1 0 (inl (single_fails 1 (ltb n 2 || ltb 64 n) e))

  pub list_refused : 2 ≤ n → n ≤ 64 → (well_formed weight_limit n s && eqb s.taxa n) ≡ false → outcome_of (output_checks n s len wanted) ≡ Refused 8 0
  list_refused two few e =
      given_refused (output_checks n s len wanted) 8 0
      (inr ((taxa_passed n).1 (two, few), inl (single_fails 8 (not (well_formed weight_limit n s && eqb s.taxa n)) (ap not e))))

  pub size_refused : 2 ≤ n → n ≤ 64 → well_formed weight_limit n s ≡ true → s.taxa ≡ n → len ≢ wanted
      → outcome_of (output_checks n s len wanted) ≡ Refused 7 0
  size_refused two few well whole other =
      given_refused (output_checks n s len wanted) 7 0
      (inr ((taxa_passed n).1 (two, few), inr (list_passed.1 (well, whole), inl (single_fails 7 (not (eqb len wanted)) (ap not (ne_eqb len wanted other))))))

  pub output_accepted : (outcome_of (output_checks n s len wanted) ≡ Done) ↔ AcceptedOutput n s len wanted
  output_accepted =
      let checks = output_checks n s len wanted in
      ((λ e. there ((accepted_exactly checks).0 e)), (λ a. (accepted_exactly checks).1 (back a)))
    where
      there : AllPassed (output_checks n s len wanted) → AcceptedOutput n s len wanted
      there (p1, (p8, (p7, u))) =
          let (two, few) = (taxa_passed n).0 p1 in
          let (well, whole) = list_passed.0 p8 in
          record { two = two; few = few; well = well; whole = whole; size = size_passed.0 p7 }

      back : AcceptedOutput n s len wanted → AllPassed (output_checks n s len wanted)
      back a = ((taxa_passed n).1 (a.two, a.few), (list_passed.1 (a.well, a.whole), (size_passed.1 a.size, tt)))
