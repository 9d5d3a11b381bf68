-- A CALL THAT TAKES n, A LIST WITH k = n AND A LENT OUTPUT SLICE: when n and the list are taken, and what the call says and leaves in the slice by that
-- and the slice's length. Assumes nothing.
use Prim.Native.Nat.{ℕ, ◌≤◌}
use mathlib.Core.Path.{◌≡◌, refl, sym, ◌∙◌, ap, subst}
use mathlib.Core.Logic.Iff
use mathlib.Core.Logic.{◌≢◌, ◌↔◌}
use mathlib.Core.Bool.{Bool, true, false, cond, not, ◌&&◌, ◌||◌}
use mathlib.Core.List.{List, [], ◌∷◌}
use lib.Dec.{ltb, eqb}
use lib.ListN.{length}
use Rattle.statement.specs.declared.Splits.{Splits}
use Rattle.statement.specs.Outcomes.{Outcome, Done, Refused}
use Rattle.statement.specs.declared.Refusal.{Refusal}
use Rattle.statement.specs.Lowest.{lowest_from}
use Rattle.statement.specs.Matrix.{weight_limit}
use Rattle.statement.specs.Rows.{rows_of, well_formed, WellFormed}
use Rattle.statement.specs.Refusals.{number_of, outcome_of, single, Passed, whole_list_off, output_off, list_checks, output_checks}
use Rattle.statement.specs.Calls.{unless_refused}
use Rattle.statement.specs.Replies.{refused_for}
use Rattle.statement.proofs.Refused.{accepted_exactly, append_checks}
use Rattle.statement.proofs.Accepted.{single_passed, taxa_passed}
use Rattle.statement.proofs.Tests.{same_is, both_is, not_is}
use Rattle.statement.proofs.Enlarged.{WellRows}
use Rattle.statement.proofs.Allowance.{well_rows}
use Rattle.statement.proofs.WellFormed.{well_formed_is}
use Rattle.statement.proofs.Outputs.{size_refused, output_accepted}
use Rattle.splits_list.specs.Whole.{whole_refusal}

-- TAKEN: n from 2 to 64, and a well-formed list with k = n
pub record Taken (n : ℕ) (s : Splits) : Type 0 where
  pub two : 2 ≤ n
  pub few : n ≤ 64
  pub well : well_formed weight_limit n s ≡ true
  pub whole : s.taxa ≡ n

-- what the two checks say; their number is the definition's
pub list_outcome : (n : ℕ) (s : Splits)
    → outcome_of (list_checks n s) ≡ cond (ltb n 2 || ltb 64 n) (Refused 1 0) (cond (well_formed weight_limit n s && eqb s.taxa n) Done (Refused 8 0))
unfolding outcome_of lowest_from
list_outcome n s = go (ltb n 2 || ltb 64 n) (well_formed weight_limit n s && eqb s.taxa n)
  where
    go : (a b : Bool) → outcome_of (single 1 a ∷ single 8 (not b) ∷ []) ≡ cond a (Refused 1 0) (cond b Done (Refused 8 0))
    go true b = refl
    go false true = refl
    go false false = refl

pub whole_number : (n : ℕ) (s : Splits) → whole_refusal n s ≡ number_of (outcome_of (list_checks n s))
unfolding whole_refusal
whole_number n s = go (ltb n 2 || ltb 64 n) (well_formed weight_limit n s && eqb s.taxa n) (list_outcome n s)
  where
    go : (a b : Bool) → outcome_of (list_checks n s) ≡ cond a (Refused 1 0) (cond b Done (Refused 8 0))
        → cond a 1 (cond b 0 8) ≡ number_of (outcome_of (list_checks n s))
    go true b e = sym (ap number_of e)
    go false true e = sym (ap number_of e)
    go false false e = sym (ap number_of e)

pub taken : (n : ℕ) (s : Splits) → outcome_of (list_checks n s) ≡ Done → Taken n s
taken n s e =
    let (p1, (p8, u)) = (accepted_exactly (list_checks n s)).0 e in
    let (two, few) = (taxa_passed n).0 p1 in
    let (well, whole) = list_passed.0 p8 in
    record { two = two; few = few; well = well; whole = whole }
  where
    list_passed : Passed (whole_list_off n s) ↔ ((well_formed weight_limit n s ≡ true) × (s.taxa ≡ n))
    list_passed = Iff.trans (single_passed 8 (not (well_formed weight_limit n s && eqb s.taxa n))) (not_is (both_is ((λ e. e), (λ e. e)) (same_is s.taxa n)))

-- the rows of a well-formed list with k = n; the list and the rows of a call that takes them
pub whole_rows : (most n : ℕ) (s : Splits) → WellFormed most n s → s.taxa ≡ n → WellRows most n (rows_of s)
whole_rows most n s w whole = subst (λ (k : ℕ). WellRows most k (rows_of s)) whole (well_rows most n s w)

module _ (n : ℕ) (s : Splits) (hc : length s.clusters ≡ 125) (hw : length s.weights ≡ 125) (ok : Taken n s) where
  pub taken_list : WellFormed weight_limit n s
  taken_list = (well_formed_is weight_limit n s hc hw ok.few).0 ok.well

  pub taken_rows : WellRows weight_limit n (rows_of s)
  taken_rows = whole_rows weight_limit n s taken_list ok.whole

-- WHAT THE CALL SAYS AND LEAVES: a refusal leaves the slice as it came, and an accepted call fills it
module _ (n : ℕ) (s : Splits) (out : List ℕ) (wanted : ℕ) (filled : List ℕ) where
  abbrev outcome : Outcome
  outcome = outcome_of (output_checks n s (length out) wanted)

  abbrev Says : Outcome → List ℕ → Type 0
  Says r o = (r ≡ outcome) × (o ≡ unless_refused outcome out filled)

  -- where the list is refused: the output has no say
  pub list_off_law : (r : Refusal) → refused_for r ≡ outcome_of (list_checks n s) → Says (refused_for r) out
  list_off_law r e =
      let told : outcome ≡ refused_for r = append_checks (list_checks n s) (output_off (length out) wanted ∷ []) ∙ rw (← e) in
      (sym told, rw told)

  pub size_off : outcome_of (list_checks n s) ≡ Done → length out ≢ wanted → Says (Refused 7 0) out
  size_off z e =
      let ok = taken n s z in
      let told = size_refused n s (length out) wanted ok.two ok.few ok.well ok.whole e in
      (sym told, rw told)

  pub accepted : outcome_of (list_checks n s) ≡ Done → length out ≡ wanted → (o : List ℕ) → o ≡ filled → Says Done o
  accepted z size o e =
      let ok = taken n s z in
      let done = (output_accepted n s (length out) wanted).1 (record { two = ok.two; few = ok.few; well = ok.well; whole = ok.whole; size = size }) in
      (sym done, rw done e)

  -- AN OUTCOME OF "DONE": n and the list were taken, and the slice filled
  pub done_taken : outcome ≡ Done → Taken n s
  done_taken done = let ok = (output_accepted n s (length out) wanted).0 done in record { two = ok.two; few = ok.few; well = ok.well; whole = ok.whole }

  pub done_filled : outcome ≡ Done → unless_refused outcome out filled ≡ filled
  done_filled done = rw done
