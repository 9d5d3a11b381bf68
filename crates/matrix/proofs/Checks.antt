-- The checks of a matrix one after the other, and what each says of the entry in a row and a column. Assumes nothing.
use Prim.Native.Nat.{ℕ, ◌+◌, ◌*◌, ◌≤◌, ◌<◌}
use mathlib.Core.Path.{◌≡◌, refl, sym, ◌∙◌}
use mathlib.Core.Bool.{Bool, true, false, cond, not, ◌&&◌}
use mathlib.Core.List.{List, [], ◌∷◌}
use lib.Arith.{digits_div, digits_mod}
use lib.Dec.{ltb, eqb}
use lib.ListN.{length}
use Rattle.statement.specs.declared.Reason.TheVariants as reason
use Rattle.statement.specs.Outcomes.{Outcome, Done, Refused}
use Rattle.statement.specs.Matrix.{distance, distance_limit}
use Rattle.statement.specs.Lowest.{lowest, somewhere}
use Rattle.statement.specs.Refusals.{Check, outcome_of, matrix_checks, entry_checks, diagonal_off, distance_off, pair_off}
use Rattle.statement.proofs.Accepted.{past_length}
use Rattle.matrix.specs.Checking.{IsLine}

-- a check by itself, and before others
module _ (k : Check) (cs : List Check) where
  refusal : Outcome
  refusal = Refused k.number (lowest k.bad k.places)

  pub refused_first : {number place : ℕ} → Refused number place ≡ outcome_of (k ∷ []) → Refused number place ≡ outcome_of (k ∷ cs)
  unfolding outcome_of refusal
  refused_first {number} {place} e = go (somewhere k.bad k.places) e
    where
      go : (b : Bool) → Refused number place ≡ cond b refusal Done → Refused number place ≡ cond b refusal (outcome_of cs)
      go true e = e
      go false e = cc

  pub passed_first : Done ≡ outcome_of (k ∷ []) → outcome_of cs ≡ outcome_of (k ∷ cs)
  unfolding outcome_of refusal
  passed_first e = go (somewhere k.bad k.places) e
    where
      go : (b : Bool) → Done ≡ cond b refusal Done → outcome_of cs ≡ cond b refusal (outcome_of cs)
      go true e = cc
      go false e = refl

-- the three lines, by the entry in row i and column j
module _ (n : ℕ) (es : List ℕ) (Bad : ℕ → ℕ → Bool → Type 0) where
  pub diagonal_line : ((i j : ℕ) (r : Bool) → Bad i j r → r ≡ (eqb i j && not (eqb (distance n es i j) 0))) → IsLine n reason.Diagonal Bad (diagonal_off n es)
  diagonal_line says = record { number = refl; places = refl; same = λ i j hi hj r e. says i j r e ∙ at i j hj }
    where
      at : (i j : ℕ) → j < n → (eqb i j && not (eqb (distance n es i j) 0)) ≡ (diagonal_off n es).bad (i * n + j)
      at i j hj = rw (digits_div i hj, digits_mod i hj)

  pub distance_line : ((i j : ℕ) (r : Bool) → Bad i j r → r ≡ ltb distance_limit (distance n es i j)) → IsLine n reason.Distance Bad (distance_off n es)
  distance_line says = record { number = refl; places = refl; same = λ i j hi hj r e. says i j r e }

  pub pair_line : ((i j : ℕ) (r : Bool) → Bad i j r → r ≡ (ltb i j && not (eqb (distance n es i j) (distance n es j i)))) → IsLine n reason.Pair Bad (pair_off n es)
  pair_line says = record { number = refl; places = refl; same = λ i j hi hj r e. says i j r e ∙ at i j hj }
    where
      at : (i j : ℕ) → j < n → (ltb i j && not (eqb (distance n es i j) (distance n es j i))) ≡ (pair_off n es).bad (i * n + j)
      at i j hj = rw (digits_div i hj, digits_mod i hj)

-- past the checks of n and of the length, the entries' are left
module _ (n : ℕ) (es : List ℕ) (low : 2 ≤ n) (high : n ≤ 64) (size : length es ≡ n * n) where
  pub entries_left : outcome_of (entry_checks n es) ≡ outcome_of (matrix_checks n es)
  entries_left = sym (past_length n (entry_checks n es) low high _ _ size)

  module _ (first : Done ≡ outcome_of (diagonal_off n es ∷ [])) where
    pub past_diagonal : outcome_of (distance_off n es ∷ pair_off n es ∷ []) ≡ outcome_of (matrix_checks n es)
    past_diagonal = passed_first (diagonal_off n es) _ first ∙ entries_left

    module _ (second : Done ≡ outcome_of (distance_off n es ∷ [])) where
      pub past_distance : outcome_of (pair_off n es ∷ []) ≡ outcome_of (matrix_checks n es)
      past_distance = passed_first (distance_off n es) _ second ∙ past_diagonal
