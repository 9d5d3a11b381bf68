-- DOCUMENT 02 §7, over the replies: on a matrix that keeps the triangle rule the list of a run is the full answer, and the run's list, by the rule before;
-- what the next taxon costs; and all zeros at 64 taxa cost 4,091 trials. Assumes nothing.
use Prim.Native.Nat.{ℕ, zero, suc, ◌+◌, ◌*◌}
use native.Mathlib.Omega.{arith}
use mathlib.Core.Path.{◌≡◌, refl, sym, ◌∙◌, ap}
use mathlib.Core.List.{List}
use lib.ListN.{get_or, replicate, length-replicate}
use Rattle.statement.specs.declared.Splits.{Splits}
use Rattle.statement.specs.Outcomes.{Growth}
use Rattle.statement.specs.Matrix.{distance, weight_limit, AcceptedMatrix, Triangle}
use Rattle.statement.specs.Rows.{rows_of, list_of, WellFormed}
use Rattle.statement.specs.Growing.{by_matrix, by_repeats, rows_at, trials_at, whole_run, RepeatAnswer}
use Rattle.statement.specs.Calls.{run_matrix}
use Rattle.statement.proofs.Lists.{rows_of_list}
use Rattle.statement.proofs.Allowance.{well_rows}
use Rattle.statement.proofs.Keeps.{repeat_run, same_run}
use Rattle.statement.proofs.Count.{matrix_cost}
use Rattle.statement.proofs.Zeros.{zeros_cost}
use Rattle.claims.specs.Demands.{NextCost}
use Rattle.claims.proofs.Demand3.{matrix_run}

pub run_before : (n : ℕ) (entries : List ℕ) → AcceptedMatrix n entries → Triangle n (distance n entries) → RepeatAnswer n entries n (rows_of (run_matrix n entries).list)
unfolding whole_run
run_before n entries accepted keeps =
    rw (matrix_run n entries accepted, rows_of_list n (rows_at (by_matrix (distance n entries)) n)) (repeat_run n entries accepted keeps)

-- and the list of a run by that rule
pub run_same : (n : ℕ) (entries : List ℕ) → AcceptedMatrix n entries → Triangle n (distance n entries)
    → (run_matrix n entries).list ≡ (whole_run (by_repeats (distance n entries)) n).list
unfolding whole_run
run_same n entries accepted keeps = rw (matrix_run n entries accepted) (ap (list_of n) (same_run n entries accepted keeps))

pub next_cost : (n : ℕ) (d : ℕ → ℕ → ℕ) (s : Splits) → WellFormed weight_limit n s → NextCost d s
next_cost n d s w = matrix_cost d s.taxa (rows_of s) (well_rows weight_limit n s w).clean

-- ALL ZEROS (m is 4096, and has a name so that the prover does not write out so many zeros)
zero_at_law : (m e : ℕ) → ◌≡◌ {A = ℕ} (get_or (replicate m 0) e 0) 0
zero_at_law zero e = refl
zero_at_law (suc m) zero = refl
zero_at_law (suc m) (suc e) = zero_at_law m e

no_distance : (n m : ℕ) → distance n (replicate m 0) ≡ (λ i j. 0)
no_distance n m = λ t i j. zero_at_law m (i * n + j) t

zeros_accepted : (m : ℕ) → m ≡ 4096 → AcceptedMatrix 64 (replicate m 0)
zeros_accepted m e =
    record {
      two = omega arith;
      few = omega arith;
      size = length-replicate {A = ℕ} m 0 ∙ e;
      diagonal = λ i l. zero_at_law m (i * 64 + i);
      limit = λ i j li lj. omega (arith, zero_at_law m (i * 64 + j));
      same = λ i j li lj. zero_at_law m (i * 64 + j) ∙ sym (zero_at_law m (j * 64 + i));
    }

pub zeros_trials : (m : ℕ) → m ≡ 4096 → (run_matrix 64 (replicate m 0)).trials ≡ 4091
unfolding whole_run
zeros_trials m e =
    ap (λ (g : Growth). g.trials) (matrix_run 64 (replicate m 0) (zeros_accepted m e))
    ∙ ap (λ (d : ℕ → ℕ → ℕ). trials_at (by_matrix d) 64) (no_distance 64 m) ∙ zeros_cost
