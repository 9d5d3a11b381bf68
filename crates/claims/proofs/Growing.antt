-- GROWTH, over the replies: one taxon more keeps the growth rule for any well-formed list, also one carried from another source; an allowance of 247
-- always adds a taxon; growing twice is growing once. Assumes nothing.
use Prim.Native.Nat.{ℕ, suc, ◌<◌}
use native.Mathlib.Omega.{arith}
use mathlib.Core.Path.{refl}
use mathlib.Core.List.{List}
use Rattle.statement.specs.declared.Splits.{Splits}
use Rattle.statement.specs.Matrix.{distance, weight_limit, AcceptedMatrix}
use Rattle.statement.specs.Table.{table_weight}
use Rattle.statement.specs.Rows.{rows_of, list_of, WellFormed}
use Rattle.statement.specs.Growing.{by_matrix, by_table, grown_rows, larger, MatrixGrowth, TableGrowth, MatrixAnswer, TableAnswer}
use Rattle.statement.proofs.Lists.{rows_of_list}
use Rattle.statement.proofs.Enlarged.{enlarged_full}
use Rattle.statement.proofs.Allowance.{well_rows, larger_well}
use Rattle.statement.proofs.Ties.{the_matrix, the_matrix_law, matrix_answer, the_table, the_table_law, table_answer}
use Rattle.statement.proofs.GrowthRule.{matrix_growth, table_growth}
use Rattle.claims.specs.Demands.{Grows}

module _ (n : ℕ) (s : Splits) (more : s.taxa < n) where
  pub matrix_grows : (entries : List ℕ) → AcceptedMatrix n entries → WellFormed weight_limit n s
      → Grows (MatrixGrowth n entries s.taxa) (MatrixAnswer n entries) weight_limit n s (larger (by_matrix (distance n entries)) s)
  unfolding list_of
  matrix_grows entries accepted w =
      let g = by_matrix (distance n entries) in
      let sound = the_matrix_law n entries accepted in
      let clean = (well_rows weight_limit n s w).clean in
      let e = rows_of_list (suc s.taxa) (grown_rows g s.taxa (rows_of s)) in
      record {
        taxa = refl;
        rule = rw e (matrix_growth n entries accepted s.taxa more w.one (rows_of s) (well_rows weight_limit n s w));
        well = larger_well (the_matrix n entries) g sound n s (omega arith) more w;
        answer = λ a.
            rw e ((matrix_answer n entries accepted (suc s.taxa) (grown_rows g s.taxa (rows_of s)) (omega arith) more).0
            (enlarged_full (the_matrix n entries) g sound s.taxa more w.one (rows_of s) clean
            ((matrix_answer n entries accepted s.taxa (rows_of s) w.one (omega arith)).1 a)));
      }

  pub table_grows : (bytes : List ℕ) → WellFormed table_weight n s
      → Grows (TableGrowth bytes s.taxa) (TableAnswer bytes) table_weight n s (larger (by_table bytes) s)
  unfolding list_of
  table_grows bytes w =
      let g = by_table bytes in
      let sound = the_table_law n bytes in
      let clean = (well_rows table_weight n s w).clean in
      let e = rows_of_list (suc s.taxa) (grown_rows g s.taxa (rows_of s)) in
      record {
        taxa = refl;
        rule = rw e (table_growth n bytes s.taxa more w.one (rows_of s) (well_rows table_weight n s w));
        well = larger_well (the_table n bytes) g sound n s (omega arith) more w;
        answer = λ a.
            rw e ((table_answer n bytes (suc s.taxa) (grown_rows g s.taxa (rows_of s))).0
            (enlarged_full (the_table n bytes) g sound s.taxa more w.one (rows_of s) clean
            ((table_answer n bytes s.taxa (rows_of s)).1 a)));
      }
