-- A matrix, or a table, passes its checks exactly when it is as document 01 wants it; what the first checks say of it. Assumes nothing.
use Prim.Native.Nat.{ℕ, ◌+◌, ◌*◌, ◌/◌, ◌%◌, ◌≤◌, ◌<◌}
use native.Mathlib.Omega.{arith}
use native.Mathlib.Decide.{dec_lt}
use native.Mathlib.Nat.{mod-lt, div-add-mod', div-lt_iff_lt-mul}
use mathlib.Core.Path.{◌≡◌, sym, ◌∙◌, ap, ap₂}
use mathlib.Core.Logic.Iff
use mathlib.Core.Logic.{◌↔◌, ◌≢◌}
use mathlib.Core.Bool.{Bool, true, false, not, ◌&&◌, ◌||◌}
use mathlib.Core.List.{List, ◌∷◌}
use lib.Arith.{digits_lt, digits_div, digits_mod}
use lib.Dec.{ltb, eqb}
use lib.ListN.{length, get_or}
use borrow.Author.Tests.{ltb-false, lt-ltb, le-ltb, eqb-true, eq-eqb, ne_eqb}
use Rattle.statement.specs.Outcomes.{Done, Refused}
use Rattle.statement.specs.Matrix.{distance, distance_limit, AcceptedMatrix}
use Rattle.statement.specs.Table.{choose, AcceptedTable}
use Rattle.statement.specs.Refusals.{Check, outcome_of, Passed, AllPassed, single, taxa_off, length_off, diagonal_off, distance_off, pair_off, matrix_checks, table_checks}
use Rattle.statement.proofs.Tests.{same_is, not_less_is, neither_is, not_is, unless_is}
use Rattle.statement.proofs.Refused.{first_passed, refused_single, accepted_exactly}

-- a line whose place is always 0 is passed where its test is false
pub single_passed : (number : ℕ) (b : Bool) → Passed (single number b) ↔ (b ≡ false)
single_passed number b = ((λ p. p 0 (omega arith)), (λ e i l. e))

pub taxa_passed : (n : ℕ) → Passed (taxa_off n) ↔ ((2 ≤ n) × (n ≤ 64))
taxa_passed n = Iff.trans (single_passed 1 (ltb n 2 || ltb 64 n)) (neither_is (not_less_is n 2) (not_less_is 64 n))

pub length_passed : (a b : ℕ) → Passed (length_off (eqb a b)) ↔ (a ≡ b)
length_passed a b = Iff.trans (single_passed 2 (not (eqb a b))) (not_is (same_is a b))

-- THE FIRST CHECKS of an input with its n: of n, and of the input's length
module _ (n : ℕ) (cs : List Check) where
  pub too_few : n < 2 → outcome_of (taxa_off n ∷ cs) ≡ Refused 1 0
  too_few h = refused_single 1 (ltb n 2 || ltb 64 n) cs (rw (lt-ltb n 2 h))

  pub too_many : 64 < n → outcome_of (taxa_off n ∷ cs) ≡ Refused 1 0
  too_many h = refused_single 1 (ltb n 2 || ltb 64 n) cs (rw (le-ltb n 2 (omega arith), lt-ltb 64 n h))

  module _ (low : 2 ≤ n) (high : n ≤ 64) (len wanted : ℕ) where
    past_taxa : outcome_of (taxa_off n ∷ length_off (eqb len wanted) ∷ cs) ≡ outcome_of (length_off (eqb len wanted) ∷ cs)
    past_taxa = first_passed (taxa_off n) _ ((taxa_passed n).1 (low, high))

    pub wrong_length : len ≢ wanted → outcome_of (taxa_off n ∷ length_off (eqb len wanted) ∷ cs) ≡ Refused 2 0
    wrong_length h = past_taxa ∙ refused_single 2 (not (eqb len wanted)) cs (rw (ne_eqb len wanted h))

    pub past_length : len ≡ wanted → outcome_of (taxa_off n ∷ length_off (eqb len wanted) ∷ cs) ≡ outcome_of cs
    past_length h = past_taxa ∙ first_passed (length_off (eqb len wanted)) cs ((length_passed len wanted).1 h)

-- an entry of a matrix, by its row and column
module _ (n : ℕ) (pn : 0 < n) (entries : List ℕ) where
  entry_within : (i j : ℕ) → i < n → j < n → i * n + j < n * n
  entry_within i j li lj = digits_lt li lj

  entry_is : (e : ℕ) → get_or entries e 0 ≡ distance n entries (e / n) (e % n)
  entry_is e = ap (λ (m : ℕ). get_or entries m 0) (sym (div-add-mod' e n))

  row_below : (e : ℕ) → e < n * n → e / n < n
  row_below e l = (div-lt_iff_lt-mul pn).1 l

  diagonal_is : (e : ℕ) → (eqb (e / n) (e % n) && not (eqb (get_or entries e 0) 0) ≡ false) ↔ (eqb (e / n) (e % n) ≡ true → get_or entries e 0 ≡ 0)
  diagonal_is e = unless_is (eqb (e / n) (e % n)) (not_is (same_is (get_or entries e 0) 0))

  diagonal_passed : Passed (diagonal_off n entries) ↔ ((i : ℕ) → i < n → distance n entries i i ≡ 0)
  diagonal_passed = (
    (λ p i l.
        let e = i * n + i in
        (diagonal_is e).0 (p e (entry_within i i l l)) (eq-eqb (e / n) (e % n) (digits_div i l ∙ sym (digits_mod i l)))),
    (λ h e l. (diagonal_is e).1 (λ same.
        entry_is e ∙ ap (λ (i : ℕ). distance n entries i (e % n)) (eqb-true (e / n) (e % n) same) ∙ h (e % n) (mod-lt e pn))),
  )

  distance_passed : Passed (distance_off n entries) ↔ ((i j : ℕ) → i < n → j < n → distance n entries i j ≤ distance_limit)
  distance_passed = (
    (λ p i j li lj. ltb-false distance_limit (distance n entries i j) (p (i * n + j) (entry_within i j li lj))),
    (λ h e l. le-ltb distance_limit (get_or entries e 0) (omega (arith, entry_is e, h (e / n) (e % n) (row_below e l) (mod-lt e pn)))),
  )

  pair_is : (e : ℕ) → (ltb (e / n) (e % n) && not (eqb (get_or entries e 0) (distance n entries (e % n) (e / n))) ≡ false)
      ↔ (ltb (e / n) (e % n) ≡ true → get_or entries e 0 ≡ distance n entries (e % n) (e / n))
  pair_is e = unless_is (ltb (e / n) (e % n)) (not_is (same_is (get_or entries e 0) (distance n entries (e % n) (e / n))))

  pair_passed : Passed (pair_off n entries) ↔ ((i j : ℕ) → i < n → j < n → distance n entries i j ≡ distance n entries j i)
  pair_passed = (
    (λ p i j li lj. there p i j li lj (dec_lt i j) (dec_lt j i)),
    (λ h e l. (pair_is e).1 (λ up. entry_is e ∙ h (e / n) (e % n) (row_below e l) (mod-lt e pn))),
  )
    where
      upper : Passed (pair_off n entries) → (i j : ℕ) → i < j → j < n → distance n entries i j ≡ distance n entries j i
      upper p i j l lj =
          let e = i * n + j in
          let up : ltb (e / n) (e % n) ≡ true = rw (digits_div i lj, digits_mod i lj) (lt-ltb i j l) in
          (pair_is e).0 (p e (entry_within i j (omega arith) lj)) up ∙ ap₂ (λ (a b : ℕ). distance n entries a b) (digits_mod i lj) (digits_div i lj)

      there : Passed (pair_off n entries) → (i j : ℕ) → i < n → j < n → Dec (i < j) → Dec (j < i) → distance n entries i j ≡ distance n entries j i
      there p i j li lj (yes l) m = upper p i j l lj
      there p i j li lj (no l) (yes m) = sym (upper p j i m li)
      there p i j li lj (no l) (no m) = let e : i ≡ j = omega arith in ap₂ (λ (a b : ℕ). distance n entries a b) e (sym e)

-- ACCEPTED MATRICES
pub matrix_accepted : (n : ℕ) (entries : List ℕ) → (outcome_of (matrix_checks n entries) ≡ Done) ↔ AcceptedMatrix n entries
matrix_accepted n entries = ((λ e. there ((accepted_exactly (matrix_checks n entries)).0 e)), (λ a. (accepted_exactly (matrix_checks n entries)).1 (back a)))
  where
    there : AllPassed (matrix_checks n entries) → AcceptedMatrix n entries
    there (p1, (p2, (p3, (p4, (p5, u))))) =
        let t = (taxa_passed n).0 p1 in
        record {
          two = t.0;
          few = t.1;
          size = (length_passed (length entries) (n * n)).0 p2;
          diagonal = (diagonal_passed n (omega arith) entries).0 p3;
          limit = (distance_passed n (omega arith) entries).0 p4;
          same = (pair_passed n (omega arith) entries).0 p5;
        }

    back : AcceptedMatrix n entries → AllPassed (matrix_checks n entries)
    back a =
        let pn : 0 < n = omega (arith, a.two) in (
          (taxa_passed n).1 (a.two, a.few),
          (
            (length_passed (length entries) (n * n)).1 a.size,
            ((diagonal_passed n pn entries).1 a.diagonal, ((distance_passed n pn entries).1 a.limit, ((pair_passed n pn entries).1 a.same, tt))),
          ),
        )

-- ACCEPTED TABLES
pub table_accepted : (n : ℕ) (bytes : List ℕ) → (outcome_of (table_checks n bytes) ≡ Done) ↔ AcceptedTable n bytes
table_accepted n bytes = ((λ e. there ((accepted_exactly (table_checks n bytes)).0 e)), (λ a. (accepted_exactly (table_checks n bytes)).1 (back a)))
  where
    there : AllPassed (table_checks n bytes) → AcceptedTable n bytes
    there (p1, (p2, (p6, u))) =
        let t = (taxa_passed n).0 p1 in
        record { two = t.0; few = t.1; size = (length_passed (length bytes) (choose n 4)).0 p2; limit = λ i l. ltb-false 3 (get_or bytes i 0) (p6 i l) }

    back : AcceptedTable n bytes → AllPassed (table_checks n bytes)
    back a = (
      (taxa_passed n).1 (a.two, a.few),
      ((length_passed (length bytes) (choose n 4)).1 a.size, ((λ i l. le-ltb 3 (get_or bytes i 0) (a.limit i l)), tt)),
    )
