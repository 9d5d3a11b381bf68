-- A record is found exactly when it passes each check up to its sum word. Assumes nothing.
use Rattle.std.proofs.Common.{◌≡◌, ℕ, suc, ◌+◌, ◌-◌, ◌≤◌, Bool, true, false, cond, not, ◌&&◌, ◌||◌, eqb, ltb, ◌≢◌, ◌↔◌, List, [], ◌∷◌, length, get_or, take, drop, refl, ap, ◌∙◌, arith, eq-eqb}
use mathlib.Core.Logic.Iff
use Rattle.statement.specs.Outcomes.{Done, Refused}
use Rattle.statement.specs.Bytes.{word_sum}
use Rattle.statement.specs.Refusals.{number_of, Check, outcome_of, Passed, AllPassed, single, mark_off, cut_off, sum_off}
use Rattle.statement.specs.Record.{Kind, kinds, is_kind, fits_kind, kind_in, taxa_in, length_in, record_length, pad_in, record_checks, taken_checks, body_in}
use Rattle.statement.specs.Calls.{unless_refused, find_record}
use Rattle.statement.proofs.Tests.{same_is, both_is, neither_is, not_is, not_less_is}
use Rattle.statement.proofs.Refused.{refused_single, passed_single, none_left, accepted_exactly, append_checks, done_by_number}
use Rattle.statement.proofs.Accepted.{single_passed, taxa_passed}

-- a line whose place is always 0, and those after it
pub one_line : (number : ℕ) (bad : Bool) (cs : List Check) → outcome_of (single number bad ∷ cs) ≡ cond bad (Refused number 0) (outcome_of cs)
one_line number true cs = refused_single number true cs refl
one_line number false cs = passed_single number false cs refl

-- the finder's tests, one after the other
pub tests_in_order : (bytes : List ℕ) → find_record bytes
    ≡ cond (ltb (length bytes) 8) (Refused 16 0) (cond (not (eqb (get_or bytes 0 0) 0x53 && eqb (get_or bytes 1 0) 0x70)) (Refused 15 0)
    (cond (not (is_kind kinds (kind_in bytes))) (Refused 17 0) (cond (ltb (taxa_in bytes) 2 || ltb 64 (taxa_in bytes)) (Refused 1 0)
    (cond (not (fits_kind kinds (kind_in bytes) (taxa_in bytes) (length_in bytes))) (Refused 2 0)
    (cond (ltb (length bytes) (record_length (length_in bytes))) (Refused 16 0)
    (cond (not (eqb (pad_in bytes) 0) || not (eqb (word_sum (take (record_length (length_in bytes)) bytes)) 0)) (Refused 18 0) Done))))))
unfolding find_record
tests_in_order bytes = simp (one_line, none_left)

-- what it is to pass each line of the finder
pub good_passed : (number : ℕ) (good : Bool) → Passed (single number (not good)) ↔ (good ≡ true)
good_passed number good = Iff.trans (single_passed number (not good)) (not_is ((λ e. e), (λ e. e)))

cut_passed : (bytes : List ℕ) (wanted : ℕ) → Passed (cut_off bytes wanted) ↔ (wanted ≤ length bytes)
cut_passed bytes wanted = Iff.trans (single_passed 16 (ltb (length bytes) wanted)) (not_less_is (length bytes) wanted)

mark_passed : (bytes : List ℕ) → Passed (mark_off bytes) ↔ ((get_or bytes 0 0 ≡ 0x53) × (get_or bytes 1 0 ≡ 0x70))
mark_passed bytes =
    Iff.trans (single_passed 15 (not (eqb (get_or bytes 0 0) 0x53 && eqb (get_or bytes 1 0) 0x70)))
    (not_is (both_is (same_is (get_or bytes 0 0) 0x53) (same_is (get_or bytes 1 0) 0x70)))

sum_passed : (pad sum : ℕ) → Passed (sum_off pad sum) ↔ ((pad ≡ 0) × (sum ≡ 0))
sum_passed pad sum = Iff.trans (single_passed 18 (not (eqb pad 0) || not (eqb sum 0))) (neither_is (not_is (same_is pad 0)) (not_is (same_is sum 0)))

-- a record that is found
pub record Found (bytes : List ℕ) : Type 0 where
  pub header : 8 ≤ length bytes
  pub mark : (get_or bytes 0 0 ≡ 0x53) × (get_or bytes 1 0 ≡ 0x70)
  pub kind : is_kind kinds (kind_in bytes) ≡ true
  pub taxa : (2 ≤ taxa_in bytes) × (taxa_in bytes ≤ 64)
  pub fits : fits_kind kinds (kind_in bytes) (taxa_in bytes) (length_in bytes) ≡ true
  pub whole : record_length (length_in bytes) ≤ length bytes
  pub sums : (pad_in bytes ≡ 0) × (word_sum (take (record_length (length_in bytes)) bytes) ≡ 0)

pub found_exactly : (bytes : List ℕ) → (find_record bytes ≡ Done) ↔ Found bytes
unfolding find_record
found_exactly bytes = Iff.trans (accepted_exactly (record_checks bytes)) (there, back)
  where
    there : AllPassed (record_checks bytes) → Found bytes
    there (cut, (mark, (kind, (taxa, (fits, (whole, (sums, u))))))) =
        record {
          header = (cut_passed bytes 8).0 cut;
          mark = (mark_passed bytes).0 mark;
          kind = (good_passed 17 _).0 kind;
          taxa = (taxa_passed _).0 taxa;
          fits = (good_passed 2 _).0 fits;
          whole = (cut_passed bytes _).0 whole;
          sums = (sum_passed _ _).0 sums;
        }

    back : Found bytes → AllPassed (record_checks bytes)
    back f = (
      (cut_passed bytes 8).1 f.header,
      (
        (mark_passed bytes).1 f.mark,
        (
          (good_passed 17 _).1 f.kind,
          ((taxa_passed _).1 f.taxa, ((good_passed 2 _).1 f.fits, ((cut_passed bytes _).1 f.whole, ((sum_passed _ _).1 f.sums, tt)))),
        ),
      ),
    )

-- the outcome's number tells all
pub found_by_number : (bytes : List ℕ) → number_of (find_record bytes) ≡ 0 → find_record bytes ≡ Done
unfolding find_record
found_by_number bytes = done_by_number (record_checks bytes) (other, (other, (other, (other, (other, (other, (other, tt)))))))
  where
    other : {number : ℕ} → suc number ≢ 0
    other z = omega arith

-- THE BODY, of a record with this body length
module _ (bytes : List ℕ) where
  pub body_found : number_of (find_record bytes) ≡ 0 → (len : ℕ) → len ≡ length_in bytes → take (8 + len - 8) (drop 8 bytes) ≡ body_in bytes
  unfolding body_in find_record
  body_found found len e = let d : 8 + len - 8 ≡ length_in bytes = omega arith in rw (d, eq-eqb _ 0 found)

-- MORE CHECKS after those of the finder: whether the kind is taken
pub kind_last : (taken : List Kind) (bytes : List ℕ) → outcome_of (taken_checks taken bytes)
    ≡ unless_refused (find_record bytes) (find_record bytes) (cond (not (is_kind taken (kind_in bytes))) (Refused 17 0) Done)
unfolding find_record
kind_last taken bytes =
    append_checks (record_checks bytes) _
    ∙ ap (unless_refused (find_record bytes) (find_record bytes)) (one_line 17 (not (is_kind taken (kind_in bytes))) [] ∙ rw none_left)
