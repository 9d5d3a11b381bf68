-- ON A MATRIX THAT KEEPS THE TRIANGLE RULE a full answer is one by the rule before §7, and so is the list of a run. So what is said of that rule's full
-- answer (document 02, §4 and §5) holds of the run. Assumes nothing.
use Prim.Native.Nat.{ℕ, ◌≤◌}
use native.Mathlib.Omega.{arith}
use mathlib.Core.Path.{◌≡◌}
use mathlib.Core.List.{List}
use lib.IntN.{pos}
use Rattle.statement.specs.Matrix.{distance, AcceptedMatrix, Triangle}
use Rattle.statement.specs.Rows.{Row, weight_in}
use Rattle.statement.specs.Growing.{by_matrix, by_repeats, rows_at, MatrixAnswer, RepeatAnswer}
use Rattle.statement.proofs.Run.{run_full}
use Rattle.statement.proofs.Ties.{the_matrix, the_matrix_law, matrix_answer, the_repeats, the_repeats_law, repeat_answer}
use Rattle.statement.proofs.Unique.{repeat_unique}
use Rattle.statement.proofs.SameWeights.{weights_same, supported_same}

module _ (n : ℕ) (entries : List ℕ) (accepted : AcceptedMatrix n entries) (keeps : Triangle n (distance n entries)) where
  pub same_answer : (k : ℕ) (rows : List Row) → k ≤ n → MatrixAnswer n entries k rows → RepeatAnswer n entries k rows
  same_answer k rows fits a =
      record {
        up = a.up;
        exact = λ c.
            let s = supported_same n (distance n entries) accepted.same accepted.diagonal keeps k c fits in
            ((λ m. s.0 ((a.exact c).0 m)), (λ h. (a.exact c).1 (s.1 h)));
        weigh = λ c m. (weights_same n (distance n entries) accepted.same accepted.diagonal keeps k c fits (pos (weight_in rows c))).0 (a.weigh c m);
      }

  pub repeat_run : RepeatAnswer n entries n (rows_at (by_matrix (distance n entries)) n)
  repeat_run =
      same_answer n (rows_at (by_matrix (distance n entries)) n) (omega arith)
      ((matrix_answer n entries accepted n (rows_at (by_matrix (distance n entries)) n) (omega (arith, accepted.two)) (omega arith)).0
      (run_full (the_matrix n entries) (by_matrix (distance n entries)) (the_matrix_law n entries accepted) n (omega (arith, accepted.two)) (omega arith)))

  pub same_run : rows_at (by_matrix (distance n entries)) n ≡ rows_at (by_repeats (distance n entries)) n
  same_run =
      repeat_unique n entries n (rows_at (by_matrix (distance n entries)) n) (rows_at (by_repeats (distance n entries)) n) repeat_run
      ((repeat_answer n entries accepted n (rows_at (by_repeats (distance n entries)) n) (omega (arith, accepted.two)) (omega arith)).0
      (run_full (the_repeats n entries) (by_repeats (distance n entries)) (the_repeats_law n entries accepted) n (omega (arith, accepted.two)) (omega arith)))
