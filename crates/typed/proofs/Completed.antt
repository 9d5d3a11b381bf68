-- THE MATRIX OF AN ACCEPTED TEXT is what the person typed: a full matrix is as given, a lower half is its symmetric completion, and a lower half of
-- numbers up to 1,000,000 is always an accepted matrix. Assumes nothing.
use Prim.Native.Nat.{ℕ, ◌+◌, ◌*◌, ◌-◌, ◌≤◌, ◌<◌}
use native.Mathlib.Omega.{arith}
use native.Mathlib.Decide.{dec_lt}
use native.Mathlib.Nat.{mul-le-mul}
use mathlib.Core.Path.{◌≡◌, refl, sym, ◌∙◌, ap, ap₂}
use mathlib.Core.Bool.{false, cond}
use mathlib.Core.List.{List}
use lib.Arith.{digits_lt, digits_div, digits_mod}
use lib.Dec.{ltb, eqb}
use lib.ListN.{length, get_or}
use borrow.Author.Tests.{lt-ltb, le-ltb, eq-eqb, ne_eqb}
use Rattle.statement.specs.Outcomes.{Done}
use Rattle.statement.specs.Matrix.{distance, distance_limit, AcceptedMatrix}
use Rattle.statement.specs.Refusals.{outcome_of, matrix_checks}
use Rattle.statement.proofs.Accepted.{matrix_accepted}
use Rattle.typed.specs.Typed.{half, is_full, entries_of}
use Rattle.typed.proofs.Entries.{full_is, mirrored_at, entries_length}

pub full_as_typed : (n : ℕ) (values : List ℕ) → length values ≡ n * n → entries_of n values ≡ values
full_as_typed n values l = full_is n values (eq-eqb (length values) (n * n) l)

-- what a lower half says of two taxa
abbrev pair_of : List ℕ → ℕ → ℕ → ℕ
pair_of values i j = cond (eqb i j) 0 (get_or values (cond (ltb i j) (half j + i) (half i + j)) 0)

pair_below : (values : List ℕ) (i j : ℕ) → j < i → pair_of values i j ≡ get_or values (half i + j) 0
pair_below values i j l = rw (ne_eqb i j (λ e. omega arith), le-ltb i j (omega arith))

pair_above : (values : List ℕ) (i j : ℕ) → i < j → pair_of values i j ≡ get_or values (half j + i) 0
pair_above values i j l = rw (ne_eqb i j (λ e. omega arith), lt-ltb i j l)

module _ (n : ℕ) (values : List ℕ) (two : 2 ≤ n) (typed : length values ≡ half n) where
  not_full : is_full n values ≡ false
  not_full =
      let m : n - 1 ≤ n = omega arith in
      let less : n * (n - 1) ≤ n * n = mul-le-mul (omega arith) m in
      let some : 2 * 2 ≤ n * n = mul-le-mul two two in
      ne_eqb (length values) (n * n) (λ e. omega arith)

  pair_is : (i j : ℕ) → i < n → j < n → distance n (entries_of n values) i j ≡ pair_of values i j
  pair_is i j li lj =
      mirrored_at n values (i * n + j) (digits_lt li lj) not_full
      ∙ ap₂ (λ (a b : ℕ). pair_of values a b) (digits_div i lj) (digits_mod i lj)

  -- the symmetric completion: each typed number stands at both entries of its pair, and the diagonal is zero
  pub lower_below : (i j : ℕ) → i < n → j < i → distance n (entries_of n values) i j ≡ get_or values (half i + j) 0
  lower_below i j li l = pair_is i j li (omega arith) ∙ pair_below values i j l

  pub lower_above : (i j : ℕ) → j < n → i < j → distance n (entries_of n values) i j ≡ get_or values (half j + i) 0
  lower_above i j lj l = pair_is i j (omega arith) lj ∙ pair_above values i j l

  pub lower_diagonal : (i : ℕ) → i < n → distance n (entries_of n values) i i ≡ 0
  lower_diagonal i l = pair_is i i l l ∙ rw (eq-eqb i i refl)

  module _ (few : n ≤ 64) (limit : (k : ℕ) → get_or values k 0 ≤ distance_limit) where
    small : (i j : ℕ) → i < n → j < n → Dec (i < j) → Dec (j < i) → distance n (entries_of n values) i j ≤ distance_limit
    small i j li lj (yes l) m = omega (arith, lower_above i j lj l, limit (half j + i))
    small i j li lj (no l) (yes m) = omega (arith, lower_below i j li m, limit (half i + j))
    small i j li lj (no l) (no m) =
        let e : j ≡ i = omega arith in
        omega (arith, ap (distance n (entries_of n values) i) e, lower_diagonal i li)

    mirror : (i j : ℕ) → i < n → j < n → Dec (i < j) → Dec (j < i) → distance n (entries_of n values) i j ≡ distance n (entries_of n values) j i
    mirror i j li lj (yes l) m = lower_above i j lj l ∙ sym (lower_below j i lj l)
    mirror i j li lj (no l) (yes m) = lower_below i j li m ∙ sym (lower_above j i li m)
    mirror i j li lj (no l) (no m) = let e : i ≡ j = omega arith in ap₂ (λ (a b : ℕ). distance n (entries_of n values) a b) e (sym e)

    pub lower_accepted : AcceptedMatrix n (entries_of n values)
    lower_accepted =
        record {
          two = two;
          few = few;
          size = entries_length n values;
          diagonal = lower_diagonal;
          limit = λ i j li lj. small i j li lj (dec_lt i j) (dec_lt j i);
          same = λ i j li lj. mirror i j li lj (dec_lt i j) (dec_lt j i);
        }

    pub lower_done : outcome_of (matrix_checks n (entries_of n values)) ≡ Done
    lower_done = (matrix_accepted n (entries_of n values)).1 lower_accepted
