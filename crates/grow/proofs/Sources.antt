-- What is extended, and the list with one taxon more: they have room. Assumes nothing.
use Rattle.std.proofs.Common.{ℕ, suc, ◌+◌, ◌*◌, ◌≤◌, ◌<◌, ◌≡◌, List, length, arith, sym, ◌∙◌, ap, ap₂, subst}
use Rattle.statement.specs.declared.Splits.{Splits}
use Rattle.statement.specs.Rows.{Row, rows_of, list_of, WellFormed}
use Rattle.statement.specs.Matrix.{distance, weight_limit, AcceptedMatrix}
use Rattle.statement.specs.Table.{table_weight, AcceptedTable}
use Rattle.statement.specs.Growing.{Manner, by_matrix, by_table, enlarged, grown_rows, larger, cost}
use Rattle.statement.proofs.Lists.{rows_of_list}
use Rattle.grow.specs.Source.{Grows, Extended, with_taxon}
use Rattle.grow.specs.Lawful.{matrix_grows, table_grows}

module _ (n : ℕ) (g : Manner) (grows : Grows n g) (s : Splits) (more : s.taxa < n) (w : WellFormed g.most n s) where
  pub few_rows : s.rows ≤ 125
  few_rows = omega (arith, w.few, grows.few)

  pub one_bare : s.taxa < 2 → s.rows ≡ 0
  one_bare h = omega (arith, w.few)

  -- the list's fixed room is enough for one taxon more
  pub room_enough : length (grown_rows g s.taxa (rows_of s)) ≤ 125
  unfolding list_of
  room_enough = let f = (grows.more s more w).few in omega (arith, f, grows.few)

  -- the same of a list p that holds what is extended
  module _ (p : Splits) (x : Extended g s p) where
    pub cost_is : 2 * p.rows + 1 ≡ cost g s
    cost_is = omega (arith, x.count)

    pub list_room : length (enlarged g.trial g.most p.taxa (rows_of p)) ≤ 125
    list_room =
        subst (λ (rows : List Row). length (enlarged g.trial g.most p.taxa rows) ≤ 125) (sym x.rows)
        (subst (λ (k : ℕ). length (enlarged g.trial g.most k (g.parents s.taxa (rows_of s))) ≤ 125) (sym x.taxa) room_enough)

    pub list_larger : with_taxon g p ≡ larger g s
    list_larger = ap₂ (λ (k : ℕ) (rows : List Row). list_of (suc k) (enlarged g.trial g.most k rows)) x.taxa x.rows

-- so it is on an accepted matrix and on an accepted table
pub matrix_room : (n : ℕ) (entries : List ℕ) → AcceptedMatrix n entries → (s : Splits) → s.taxa < n → WellFormed weight_limit n s
    → length (grown_rows (by_matrix (distance n entries)) s.taxa (rows_of s)) ≤ 125
matrix_room n entries a s more w = room_enough n (by_matrix (distance n entries)) (matrix_grows n entries a) s more w

pub table_room : (n : ℕ) (bytes : List ℕ) → AcceptedTable n bytes → (s : Splits) → s.taxa < n → WellFormed table_weight n s
    → length (grown_rows (by_table bytes) s.taxa (rows_of s)) ≤ 125
table_room n bytes a s more w = room_enough n (by_table bytes) (table_grows n bytes a) s more w

-- a list made of what is extended holds it
pub made_of : (g : Manner) (s p : Splits) → p ≡ list_of s.taxa (g.parents s.taxa (rows_of s)) → Extended g s p
unfolding list_of
made_of g s p e =
    record {
      taxa = ap (λ (t : Splits). t.taxa) e;
      rows = ap rows_of e ∙ rows_of_list s.taxa (g.parents s.taxa (rows_of s));
      count = ap (λ (t : Splits). t.rows) e;
    }
