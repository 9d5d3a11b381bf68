-- ALL ZEROS: no row at any k, and 4,091 trials at 64 taxa (document 02 §7). Assumes nothing.
use Prim.Native.Nat.{ℕ, zero, suc, ◌+◌, ◌^◌, ◌≤◌, ◌<◌}
use native.Mathlib.Omega.{arith}
use mathlib.Core.Path.{◌≡◌, refl, ◌∙◌, ap, ap₂}
use mathlib.Core.List.{List, [], ◌∷◌}
use lib.ListN.{length}
use Rattle.statement.specs.Rows.{Row, clusters}
use Rattle.statement.specs.Growing.{by_matrix, put_in, with_singles, with_trivial, cost_of, rows_at, trials_at}
use Rattle.statement.proofs.Rule.{Supported}
use Rattle.statement.proofs.Instances.{matrix_rule}
use Rattle.statement.proofs.Answer.{Full}
use Rattle.statement.proofs.Matrix.{of_score}
use Rattle.statement.proofs.Single.{some_four}
use Rattle.statement.proofs.Full.{full_unique}
use Rattle.statement.proofs.Pairs.{matrix_sound}
use Rattle.statement.proofs.Run.{run_full}

pub zeros : (n k : ℕ) → 0 < k → Full (matrix_rule n (λ i j. 0)) k []
zeros n k pk = record { up = omega (arith, one k); exact = λ c. ((λ m. absurd m), (λ s. absurd (none c s))) }
  where
    one : (k : ℕ) → 1 ≤ 2 ^ k
    one zero = omega arith
    one (suc k) = omega (arith, one k)

    none : (c : ℕ) → Supported (matrix_rule n (λ i j. 0)) k c → ⊥
    none c s =
        let (u, u', v, v', lu, lu', lv, lv', ou, ou', iv, iv', p, q) = some_four k c pk s.split in
        omega (arith, of_score (λ i j. 0) 1 u u' v v' (s.fours u u' v v' lu lu' lv lv' ou ou' iv iv' (p, q)))

none : (r : List Row) → clusters r ≡ [] → r ≡ []
none [] e = refl
none (x ∷ r) e = absurd (let q : suc (length (clusters r)) ≡ 0 = ap length e in omega arith)

zeros_rows : (k : ℕ) → 0 < k → k ≤ 64 → rows_at (by_matrix (λ i j. 0)) k ≡ []
zeros_rows k pk l =
    none _ (full_unique (matrix_rule 64 (λ i j. 0)) k _ [] (run_full (matrix_rule 64 (λ i j. 0)) (by_matrix (λ i j. 0)) (matrix_sound 64 (λ i j. 0) (λ i j a b. refl)) k pk l).full (zeros 64 k pk))

-- what no rows cost
spent : ℕ → ℕ
spent zero = 0
spent (suc zero) = 0
spent (suc (suc k)) = spent (suc k) + cost_of (by_matrix (λ i j. 0)) (suc k) []

zeros_spent : (k : ℕ) → k ≤ 64 → trials_at (by_matrix (λ i j. 0)) k ≡ spent k
unfolding trials_at spent
zeros_spent zero l = refl
zeros_spent (suc zero) l = refl
zeros_spent (suc (suc k)) l =
    ap₂ (λ (a : ℕ) (rows : List Row). a + cost_of (by_matrix (λ i j. 0)) (suc k) rows) (zeros_spent (suc k) (omega arith)) (zeros_rows (suc k) (omega arith) (omega arith))

pub zeros_cost : trials_at (by_matrix (λ i j. 0)) 64 ≡ 4091
unfolding spent put_in with_singles with_trivial
zeros_cost = zeros_spent 64 (omega arith) ∙ refl
