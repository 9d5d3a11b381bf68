-- A matrix and a table grow as growth asks. Assumes nothing.
use Rattle.std.specs.Prelude.{ℕ, ◌≤◌, List}
use Rattle.std.proofs.Common.{arith}
use native.Mathlib.Nat.{mul-le-mul, le_refl}
use Rattle.statement.specs.Matrix.{distance, AcceptedMatrix}
use Rattle.statement.specs.Table.{AcceptedTable}
use Rattle.statement.specs.Rows.{rows_of}
use Rattle.statement.specs.Growing.{Manner, by_matrix, by_table}
use Rattle.statement.proofs.Rule.{Rule}
use Rattle.statement.proofs.Enlarged.{Sound}
use Rattle.statement.proofs.Run.{run_bound}
use Rattle.statement.proofs.Allowance.{well_rows, larger_well, cost_few}
use Rattle.statement.proofs.Ties.{the_matrix, the_matrix_law, the_table, the_table_law}
use Rattle.grow.specs.Source.{Grows}

-- by a rule of n taxa
module _ (r : Rule) (g : Manner) (sound : Sound r g) (two : 2 ≤ r.taxa) (few : r.taxa ≤ 64) where
  grows : Grows r.taxa g
  grows =
      record {
        two = two;
        few = few;
        room = λ s more w. omega (arith, cost_few r g sound r.taxa s few more w);
        up = λ s more w. (sound.extends s.taxa (rows_of s) (well_rows g.most r.taxa s w).clean).clean.up;
        more = λ s more w. larger_well r g sound r.taxa s (le_refl r.taxa) more w;
        covered = omega (arith, run_bound r g sound r.taxa two (le_refl r.taxa), mul-le-mul few (le_refl r.taxa));
      }

pub matrix_grows : (n : ℕ) (entries : List ℕ) → AcceptedMatrix n entries → Grows n (by_matrix (distance n entries))
matrix_grows n entries a = grows (the_matrix n entries) (by_matrix (distance n entries)) (the_matrix_law n entries a) a.two a.few

pub table_grows : (n : ℕ) (bytes : List ℕ) → AcceptedTable n bytes → Grows n (by_table bytes)
table_grows n bytes a = grows (the_table n bytes) (by_table bytes) (the_table_law n bytes) a.two a.few
