-- The rows of a given list, as the writer meets them in its arrays. Assumes nothing.
use Prim.Native.Nat.{ℕ, ◌^◌, ◌≤◌, ◌<◌}
use native.Mathlib.Omega.{arith}
use native.Mathlib.Nat.{lt_of_lt_of_le}
use mathlib.Core.Path.{◌≡◌, sym, subst}
use lib.ListN.{length, get_or}
use lib.Pow.{pow_mono}
use Rattle.statement.specs.declared.Splits.{Splits}
use Rattle.statement.specs.Outcomes.{Done}
use Rattle.statement.specs.Matrix.{weight_limit}
use Rattle.statement.specs.Rows.{rows_of, WellFormed}
use Rattle.statement.proofs.Walks.{cluster_range}
use Rattle.statement.proofs.WellFormed.{Roomy, clusters_front, rows_length}
use Rattle.statement.specs.Refusals.{outcome_of, list_checks}
use Rattle.splits_list.proofs.Whole.{taken, taken_list}
use Rattle.tree_write.specs.Vertices.{ClustersOf}

module _ (s : Splits) (room : Roomy s) where
  pub clusters_of_law : ClustersOf (rows_of s) s.clusters s.rows
  clusters_of_law = record { count = rows_length s room; at = (clusters_front s room).at }

  pub cluster_small : (n j : ℕ) → WellFormed weight_limit n s → j < s.rows → get_or s.clusters j 0 < 2 ^ n
  cluster_small n j w l =
      let below = (cluster_range s.taxa (rows_of s) w.up j (omega (arith, rows_length s room))).1 in
      lt_of_lt_of_le (subst (λ (c : ℕ). c < 2 ^ s.taxa) ((clusters_front s room).at j l) below) (pow_mono w.taxa)

pub roomy : (n : ℕ) (s : Splits) → n ≤ 64 → WellFormed weight_limit n s → length s.clusters ≡ 125 → length s.weights ≡ 125 → Roomy s
roomy n s few w hc hw = record { clusters = hc; weights = hw; rows = omega (arith, w.taxa, w.few) }

-- a list that a call takes
pub given : (n : ℕ) (s : Splits) → Done ≡ outcome_of (list_checks n s) → length s.clusters ≡ 125 → length s.weights ≡ 125
    → (n ≤ 64) × WellFormed weight_limit n s
given n s done hc hw = let ok = taken n s (sym done) in (ok.few, taken_list n s hc hw ok)
