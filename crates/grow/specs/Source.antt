-- What growth asks of a source, and what its steps hand on.
use Rattle.std.specs.Prelude.{ℕ, suc, ◌^◌, ◌≤◌, ◌<◌, ◌≡◌, cond, eqb, length}
use Rattle.statement.specs.declared.Splits.{Splits}
use Rattle.statement.specs.Matrix.{weight_limit}
use Rattle.statement.specs.Table.{table_weight}
use Rattle.statement.specs.Rows.{clusters, rows_of, list_of, Ascending, WellFormed}
use Rattle.statement.specs.Growing.{Manner, enlarged, larger, trials_at}

-- the most that a split can weigh in a source of this kind (document 01's record kinds: 1 matrix, else table)
abbrev pub most_by : ℕ → ℕ
most_by kind = cond (eqb kind 1) weight_limit table_weight

-- a source of n taxa grows in a manner that keeps lists well-formed and within their room: of a well-formed list with a taxon left to add, what is
-- extended ascends and has room, and so does the list with one taxon more; and 7,751 trials cover the whole run
pub record Grows (n : ℕ) (g : Manner) : Type 0 where
  pub two : 2 ≤ n
  pub few : n ≤ 64
  pub room : (s : Splits) → s.taxa < n → WellFormed g.most n s → length (g.parents s.taxa (rows_of s)) ≤ 125
  pub up : (s : Splits) → s.taxa < n → WellFormed g.most n s → Ascending 1 (2 ^ s.taxa) (clusters (g.parents s.taxa (rows_of s)))
  pub more : (s : Splits) → s.taxa < n → WellFormed g.most n s → WellFormed g.most n (larger g s)
  pub covered : trials_at g n ≤ 7751

-- p holds what is extended of the list s
pub record Extended (g : Manner) (s p : Splits) : Type 0 where
  pub taxa : p.taxa ≡ s.taxa
  pub rows : rows_of p ≡ g.parents s.taxa (rows_of s)
  pub count : p.rows ≡ length (g.parents s.taxa (rows_of s))

-- a list of what is extended, with one taxon more
abbrev pub with_taxon : Manner → Splits → Splits
with_taxon g p = list_of (suc p.taxa) (enlarged g.trial g.most p.taxa (rows_of p))
