-- DEMAND 3, for every accepted matrix and every accepted table. Assumes nothing.
use Prim.Native.Nat.{ℕ, ◌≤◌, ◌<◌}
use native.Mathlib.Omega.{arith}
use mathlib.Core.Path.{◌≡◌, refl, sym, ◌∙◌, ap, subst}
use mathlib.Core.Logic.{◌≢◌, ◌⊎◌, inl, inr, ◌↔◌}
use mathlib.Core.List.{List}
use Rattle.statement.specs.Cluster.{In, Out, Split, Trivial, Across}
use Rattle.statement.specs.Matrix.{distance, score, AcceptedMatrix}
use Rattle.statement.specs.Table.{AcceptedTable, TableSupported}
use Rattle.statement.specs.Rows.{Listed, rows_of, list_of}
use Rattle.statement.specs.Growing.{Manner, by_matrix, by_table, rows_at, whole_run}
use Rattle.statement.specs.Calls.{run_matrix, run_table}
use Rattle.statement.proofs.Rule.{Rule, Distinct, Ok, Supported}
use Rattle.statement.proofs.Bits.{zero_or_one}
use Rattle.statement.proofs.Matrix.{above_zero}
use Rattle.statement.proofs.Lists.{rows_of_list}
use Rattle.statement.proofs.Enlarged.{Sound, WellRows, FullRows}
use Rattle.statement.proofs.Run.{run_full, run_well, run_few, run_bound}
use Rattle.statement.proofs.Walks.{walks_end}
use Rattle.statement.proofs.Accepted.{matrix_accepted, table_accepted}
use Rattle.statement.proofs.Ties.{the_matrix, the_matrix_law, matrix_answer, the_table, the_table_law, table_answer, stands_above}
use Rattle.claims.specs.Demands.{Way, group_number, EveryFour, MatrixAbove, TableAbove, Demand3, FewTrials, MatrixWeights, TableWeights}
use Rattle.claims.proofs.Ways.{number_way, way_supported, pair_is}

-- what holds of the whole run of any plain rule; Above says of a four what the rule says
module _ (r : Rule) (g : Manner) (sound : Sound r g) (two : 2 ≤ r.taxa) (Above : Way r.taxa → ℕ → ℕ → ℕ → ℕ → Type 0)
    (means : (way : Way r.taxa) (u u' v v' : ℕ) → u < r.taxa → u' < r.taxa → v < r.taxa → v' < r.taxa → way.side u ≡ way.side u' → way.side v ≡ way.side v' → way.side u ≢ way.side v
    → Above way u u' v v' ↔ Ok r 1 r.taxa (group_number r.taxa way) u u' v v') where
  same_rows : rows_of (whole_run g r.taxa).list ≡ rows_at g r.taxa
  unfolding whole_run
  same_rows = rows_of_list r.taxa (rows_at g r.taxa)

  supported : (way : Way r.taxa) → EveryFour r.taxa way Above ↔ Supported r r.taxa (group_number r.taxa way)
  supported way = way_supported r sound.laws r.taxa (omega arith) (omega arith) Above way (means way)

  full : FullRows r r.taxa (rows_at g r.taxa)
  full = run_full r g sound r.taxa (omega arith) (omega arith)

  well : WellRows g.most r.taxa (rows_at g r.taxa)
  well = run_well r g sound r.taxa (omega arith) (omega arith)

  no_other : (c : ℕ) → Listed c (rows_at g r.taxa) → (way : Way r.taxa) × (group_number r.taxa way ≡ c) × EveryFour r.taxa way Above
  no_other c m =
      let s = (full.full.exact c).0 m in
      let (way, e, sides) = number_way r.taxa c (omega arith) s.split in
      (way, e, (supported way).1 (subst (Supported r r.taxa) (sym e) s))

  pub whole_demand3 : Demand3 r.taxa Above (whole_run g r.taxa)
  unfolding whole_run list_of
  whole_demand3 =
      record {
        finished = (refl, refl);
        holds_each = λ way f. rw same_rows ((full.full.exact (group_number r.taxa way)).1 ((supported way).0 f));
        once_lowest_first = rw same_rows full.full.up;
        no_other = rw same_rows no_other;
        no_conflict = rw same_rows well.clean.clean;
        at_most = omega (arith, run_few r g sound r.taxa two (omega arith));
        walks_end = rw same_rows (walks_end r.taxa (rows_at g r.taxa) full.full.up);
      }

pub whole_trials : (r : Rule) (g : Manner) → Sound r g → 2 ≤ r.taxa → FewTrials r.taxa (whole_run g r.taxa)
unfolding whole_run
whole_trials r g sound two = run_bound r g sound r.taxa two (omega arith)

-- AN ACCEPTED MATRIX
module _ (n : ℕ) (entries : List ℕ) (accepted : AcceptedMatrix n entries) where
  pub matrix_run : run_matrix n entries ≡ whole_run (by_matrix (distance n entries)) n
  unfolding run_matrix
  matrix_run = rw ((matrix_accepted n entries).1 accepted)

  pub matrix_demand3 : Demand3 n (MatrixAbove n entries) (run_matrix n entries)
  matrix_demand3 =
      rw matrix_run
      (whole_demand3 (the_matrix n entries) (by_matrix (distance n entries)) (the_matrix_law n entries accepted) accepted.two (MatrixAbove n entries)
      (λ way u u' v v' lu lu' lv lv' uu vv uv.
      let pn : 0 < n = omega arith in (
        (λ h asked. (above_zero (score (distance n entries) u u' v v')).1 (h ((pair_is n pn way u u' lu).1 asked.0) ((pair_is n pn way v v' lv).1 asked.1))),
        (λ ok p q. (above_zero (score (distance n entries) u u' v v')).0 (ok ((pair_is n pn way u u' lu).0 p, (pair_is n pn way v v' lv).0 q))),
      )))

  pub matrix_trials : FewTrials n (run_matrix n entries)
  matrix_trials = rw matrix_run (whole_trials (the_matrix n entries) (by_matrix (distance n entries)) (the_matrix_law n entries accepted) accepted.two)

  -- DEMAND 2: weights
  pub matrix_weights : MatrixWeights n entries (run_matrix n entries)
  unfolding whole_run
  matrix_weights =
      rw (matrix_run, rows_of_list n (rows_at (by_matrix (distance n entries)) n))
      ((matrix_answer n entries accepted n (rows_at (by_matrix (distance n entries)) n) (omega (arith, accepted.two)) (omega arith)).0
      (run_full (the_matrix n entries) (by_matrix (distance n entries)) (the_matrix_law n entries accepted) n (omega (arith, accepted.two)) (omega arith))
      ).weigh

-- AN ACCEPTED TABLE
module _ (n : ℕ) (bytes : List ℕ) (accepted : AcceptedTable n bytes) where
  pub table_run : run_table n bytes ≡ whole_run (by_table bytes) n
  unfolding run_table
  table_run = rw ((table_accepted n bytes).1 accepted)

  pub table_demand3 : Demand3 n (TableAbove n bytes) (run_table n bytes)
  table_demand3 =
      rw table_run
      (whole_demand3 (the_table n bytes) (by_table bytes) (the_table_law n bytes) accepted.two (TableAbove n bytes)
      (λ way u u' v v' lu lu' lv lv' uu vv uv. (
        (λ h dis. (stands_above n bytes u u' v v' dis).0 (h dis.wx dis.yz)),
        (λ ok a b. let dis = four way u u' v v' uu vv uv a b in (stands_above n bytes u u' v v' dis).1 (ok dis)),
      )))
    where
      -- two taxa on different sides are different
      four : (way : Way n) (u u' v v' : ℕ) → way.side u ≡ way.side u' → way.side v ≡ way.side v' → way.side u ≢ way.side v → u ≢ u' → v ≢ v' → Distinct u u' v v'
      four way u u' v v' uu vv uv a b =
          record {
            wx = a;
            wy = λ e. uv (ap way.side e);
            wz = λ e. uv (ap way.side e ∙ sym vv);
            xy = λ e. uv (uu ∙ ap way.side e);
            xz = λ e. uv (uu ∙ ap way.side e ∙ sym vv);
            yz = b;
          }

  pub table_trials : FewTrials n (run_table n bytes)
  table_trials = rw table_run (whole_trials (the_table n bytes) (by_table bytes) (the_table_law n bytes) accepted.two)

  pub table_weights : TableWeights (run_table n bytes)
  unfolding whole_run
  table_weights =
      rw (table_run, rows_of_list n (rows_at (by_table bytes) n))
      ((table_answer n bytes n (rows_at (by_table bytes) n)).0
      (run_full (the_table n bytes) (by_table bytes) (the_table_law n bytes) n (omega (arith, accepted.two)) (omega arith))
      ).weigh

-- "A split with a group of one is therefore always supported": a table is asked about no four of it
pub one_supported : (bytes : List ℕ) (k c : ℕ) → Split k c → Trivial k c → TableSupported bytes k c
one_supported bytes k c split (w, l, one) = record { split = split; fours = λ u u' v v' a du dv. absurd (go u u' v v' a du dv (zero_or_one c w)) }
  where
    go : (u u' v v' : ℕ) → Across k c u u' v v' → u ≢ u' → v ≢ v' → Out c w ⊎ In c w → ⊥
    go u u' v v' a du dv (inl o) = du (one.only u a.u_below (a.u_out ∙ sym o) ∙ sym (one.only u' a.u'_below (a.u'_out ∙ sym o)))
    go u u' v v' a du dv (inr i) = dv (one.only v a.v_below (a.v_in ∙ sym i) ∙ sym (one.only v' a.v'_below (a.v'_in ∙ sym i)))
