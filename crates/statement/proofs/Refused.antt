-- EXACTLY WHEN, for every number of every call at once: an order of checks gives a number at a place exactly when the table says so. Assumes nothing.
use Prim.Native.Nat.{ℕ, ◌≤◌, ◌<◌}
use native.Mathlib.Omega.{arith}
use mathlib.Core.Path.{◌≡◌, refl, sym, ◌∙◌, ap, ap₂, subst}
use mathlib.Core.Logic.{◌↔◌, ◌≢◌, ◌⊎◌, inl, inr}
use mathlib.Core.Bool.{Bool, true, false, cond}
use mathlib.Core.List.{List, [], ◌∷◌, ◌++◌}
use borrow.Author.Tests.{ltb-true, lt-ltb, le-ltb}
use Rattle.statement.specs.Outcomes.{Outcome, Done, Short, Refused}
use Rattle.statement.specs.Lowest.{lowest_from, lowest, somewhere}
use Rattle.statement.specs.Refusals.{number_of, place_of, Check, single, outcome_of, Passed, Fails, AllPassed, Given}
use Rattle.statement.specs.Calls.{unless_refused}
use Rattle.statement.proofs.Lowest.{Lowest, lowest_is, lowest_at, lowest_none, none_of, none_at}

-- ONE CHECK of an order, where r is its lowest bad place: it refuses there, or the next check has the say
module _ (c : Check) (cs : List Check) (r : ℕ) (e : r ≡ lowest c.bad c.places) where
  pub refused_at : r < c.places → outcome_of (c ∷ cs) ≡ Refused c.number r
  unfolding outcome_of
  refused_at h = rw (← e, lt-ltb r c.places h)

  pub passed_at : c.places ≤ r → outcome_of (c ∷ cs) ≡ outcome_of cs
  unfolding outcome_of
  passed_at h = rw (← e, le-ltb r c.places h)

pub first_passed : (c : Check) (cs : List Check) → Passed c → outcome_of (c ∷ cs) ≡ outcome_of cs
first_passed c cs p = passed_at c cs c.places (sym (lowest_none c.bad c.places (none_at c.bad c.places p))) (omega arith)

-- the same for a check whose place is always 0
module _ (number : ℕ) (bad : Bool) (cs : List Check) where
  pub refused_single : bad ≡ true → outcome_of (single number bad ∷ cs) ≡ Refused number 0
  unfolding outcome_of lowest_from
  refused_single e = rw e

  pub passed_single : bad ≡ false → outcome_of (single number bad ∷ cs) ≡ outcome_of cs
  passed_single e = first_passed (single number bad) cs (λ i l. e)

pub none_left : outcome_of [] ≡ Done
unfolding outcome_of
none_left = refl

-- WHOLE ORDERS. A check whose lowest bad place is r
module _ (c : Check) (r : ℕ) (is : r ≡ lowest c.bad c.places) where
  place : Lowest c.bad 0 c.places r
  place = subst (Lowest c.bad 0 c.places) (sym is) (lowest_is c.bad 0 c.places)

  pub passes : c.places ≤ r → Passed c
  passes h i l = place.before i (omega arith) (omega arith)

  pub fails : r < c.places → Fails c c.number r
  fails h = record { named = refl; within = h; bad = place.hit (omega arith); lowest = λ i l. place.before i (omega arith) l }

pub single_fails : (number : ℕ) (b : Bool) → b ≡ true → Fails (single number b) number 0
single_fails number b e = record { named = refl; within = omega arith; bad = e; lowest = λ i l. absurd (omega arith) }

fails_at : (c : Check) → somewhere c.bad c.places ≡ true → Fails c c.number (lowest c.bad c.places)
fails_at c e = fails c (lowest c.bad c.places) refl (ltb-true (lowest c.bad c.places) c.places e)

pub given_refused : (checks : List Check) (number place : ℕ) → Given checks number place → outcome_of checks ≡ Refused number place
given_refused [] number place x' = elim x' [ ]
given_refused (c ∷ cs) number place (inl f) =
    refused_at c cs place (sym (lowest_at c.bad c.places place f.within f.bad f.lowest)) f.within
    ∙ ap (λ (m : ℕ). Refused m place) f.named
given_refused (c ∷ cs) number place (inr (p, g)) = first_passed c cs p ∙ given_refused cs number place g

pub passed_done : (checks : List Check) → AllPassed checks → outcome_of checks ≡ Done
passed_done [] p = none_left
passed_done (c ∷ cs) p = first_passed c cs p.0 ∙ passed_done cs p.1

-- every order of checks ends one way or the other
pub either : (checks : List Check) → AllPassed checks ⊎ ((number place : ℕ) × Given checks number place)
either [] = inl tt
either (c ∷ cs) = go (somewhere c.bad c.places) refl (either cs)
  where
    go : (b : Bool) → somewhere c.bad c.places ≡ b → AllPassed cs ⊎ ((number place : ℕ) × Given cs number place)
        → AllPassed (c ∷ cs) ⊎ ((number place : ℕ) × Given (c ∷ cs) number place)
    go true e r = inr (c.number, lowest c.bad c.places, inl (fails_at c e))
    go false e (inl p) = inl (none_of c.bad c.places e, p)
    go false e (inr (number, place, g)) = inr (number, place, inr (none_of c.bad c.places e, g))

same_number : (m p number place : ℕ) → ◌≡◌ {A = Outcome} (Refused m p) (Refused number place) → (m ≡ number) × (p ≡ place)
same_number m p number place e = (ap number_of e, ap place_of e)

-- GIVEN EXACTLY WHEN
pub refused_exactly : (checks : List Check) (number place : ℕ) → (outcome_of checks ≡ Refused number place) ↔ Given checks number place
refused_exactly checks number place = ((λ e. there e (either checks)), given_refused checks number place)
  where
    there : outcome_of checks ≡ Refused number place → AllPassed checks ⊎ ((m p : ℕ) × Given checks m p) → Given checks number place
    there e (inl p) = let q : Done ≡ Refused number place = sym (passed_done checks p) ∙ e in absurd (let z : ◌≡◌ {A = ℕ} 0 1 = cc in omega arith)
    there e (inr (m, p, g)) =
        let q = same_number m p number place (sym (given_refused checks m p g) ∙ e) in rw (q.0, q.1) at g

pub accepted_exactly : (checks : List Check) → (outcome_of checks ≡ Done) ↔ AllPassed checks
accepted_exactly checks = ((λ e. there e (either checks)), passed_done checks)
  where
    there : outcome_of checks ≡ Done → AllPassed checks ⊎ ((m p : ℕ) × Given checks m p) → AllPassed checks
    there e (inl p) = p
    there e (inr (m, p, g)) = let q : Done ≡ Refused m p = sym e ∙ given_refused checks m p g in absurd (let z : ◌≡◌ {A = ℕ} 0 1 = cc in omega arith)

-- one order after another
pub append_checks : (checks more : List Check) → outcome_of (checks ++ more) ≡ unless_refused (outcome_of checks) (outcome_of checks) (outcome_of more)
unfolding outcome_of
append_checks [] more = refl
append_checks (c ∷ cs) more = go (somewhere c.bad c.places) (append_checks cs more)
  where
    bad : Outcome
    bad = Refused c.number (lowest c.bad c.places)

    go : (b : Bool) → outcome_of (cs ++ more) ≡ unless_refused (outcome_of cs) (outcome_of cs) (outcome_of more)
        → cond b bad (outcome_of (cs ++ more)) ≡ unless_refused (cond b bad (outcome_of cs)) (cond b bad (outcome_of cs)) (outcome_of more)
    go true e = refl
    go false e = e

-- a refused outcome leaves what it leaves
pub unless_refused_law : {A : Type 0} (o : Outcome) (left given : A) → number_of o ≢ 0 → unless_refused o left given ≡ left
unless_refused_law Done left given h = absurd (h refl)
unless_refused_law Short left given h = absurd (h refl)
unless_refused_law (Refused number place) left given h = refl

-- checks never say short
pub never_short : (checks : List Check) → outcome_of checks ≡ Short → ⊥
never_short checks e = go (either checks)
  where
    go : AllPassed checks ⊎ ((number place : ℕ) × Given checks number place) → ⊥
    go (inl p) = let q : Done ≡ Short = sym (passed_done checks p) ∙ e in let z : ◌≡◌ {A = ℕ} 0 1 = cc in omega arith
    go (inr (number, place, g)) = let q : Refused number place ≡ Short = sym (given_refused checks number place g) ∙ e in let z : ◌≡◌ {A = ℕ} 0 1 = cc in omega arith

-- BY ITS NUMBER: what is so of each line is so of the one that fails
abbrev pub Each : (Check → Type 0) → List Check → Type 0
Each P [] = Unit {0}
Each P (c ∷ cs) = P c × Each P cs

given_each : (P : Check → Type 0) (checks : List Check) (number place : ℕ) → Each P checks → Given checks number place → (c : Check) × P c × Fails c number place
given_each P [] number place _ x3 = elim x3 [ ]
given_each P (c ∷ cs) number place (p, ps) (inl f) = (c, p, f)
given_each P (c ∷ cs) number place (p, ps) (inr (q, g)) = given_each P cs number place ps g

-- where no line has the number 0, an outcome with the number 0 is Done
pub done_by_number : (checks : List Check) → Each (λ c. c.number ≢ 0) checks → number_of (outcome_of checks) ≡ 0 → outcome_of checks ≡ Done
done_by_number checks ps e = go (either checks)
  where
    go : AllPassed checks ⊎ ((number place : ℕ) × Given checks number place) → outcome_of checks ≡ Done
    go (inl p) = passed_done checks p
    go (inr (number, place, g)) =
        let (c, other, f) = given_each (λ c. c.number ≢ 0) checks number place ps g in
        absurd (other (f.named ∙ sym (ap number_of (given_refused checks number place g)) ∙ e))

-- where each line has one place, another number stands at the place 0
pub refused_by_number : (checks : List Check) → Each (λ c. c.places ≡ 1) checks → number_of (outcome_of checks) ≢ 0
    → outcome_of checks ≡ Refused (number_of (outcome_of checks)) 0
refused_by_number checks ps n = go (either checks)
  where
    go : AllPassed checks ⊎ ((number place : ℕ) × Given checks number place) → outcome_of checks ≡ Refused (number_of (outcome_of checks)) 0
    go (inl p) = absurd (n (ap number_of (passed_done checks p)))
    go (inr (number, place, g)) =
        let (c, one, f) = given_each (λ c. c.places ≡ 1) checks number place ps g in
        let r = given_refused checks number place g in
        let start : place ≡ 0 = let l = f.within in omega arith in
        r ∙ ap₂ (λ (m at : ℕ). Refused m at) (sym (ap number_of r)) start
