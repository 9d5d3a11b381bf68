-- The table of edges: the code's own steps.
use Rattle.std.specs.Prelude.{ℕ, ◌+◌, Bool, cond, not, Option, Some, None, List, map, ltb, eqb, get_or, set, replicate}
use Rattle.statement.specs.Lowest.{lowest}
use Rattle.statement.specs.Matrix.{weight_limit}
use Rattle.newick_edges.specs.Marks.{first_of}
use Rattle.newick_edges.specs.declared.Table.{Table as Kept}

-- the edges so far: what is noted of them, and the columns
pub record Table : Type 0 where
  pub heavy : Option ℕ
  pub bare : Option ℕ
  pub rows : ℕ
  pub clusters : List ℕ
  pub weights : List ℕ
  pub places : List ℕ
  pub many : List ℕ

-- 1 for a row whose cluster another edge had
abbrev pub mark : Bool → ℕ
mark b = cond b 1 0

abbrev pub table_in : Kept → Table
table_in t = record { heavy = t.heavy; bare = t.bare; rows = t.rows; clusters = t.clusters; weights = t.weights; places = t.places; many = map mark t.many }

abbrev pub with_heavy : Table → Option ℕ → Table
with_heavy t p = record { heavy = p; bare = t.bare; rows = t.rows; clusters = t.clusters; weights = t.weights; places = t.places; many = t.many }

abbrev pub with_bare : Table → Option ℕ → Table
with_bare t p = record { heavy = t.heavy; bare = p; rows = t.rows; clusters = t.clusters; weights = t.weights; places = t.places; many = t.many }

unfoldable pub note_heavy : Table → ℕ → ℕ → Table
note_heavy t place w = cond (ltb weight_limit w) (with_heavy t (first_of t.heavy place)) t

unfoldable pub note_bare : Table → ℕ → Table
note_bare t place = with_bare t (first_of t.bare place)

abbrev pub marked : Table → ℕ → Table
marked t j = record { heavy = t.heavy; bare = t.bare; rows = t.rows; clusters = t.clusters; weights = t.weights; places = t.places; many = set t.many j 1 }

abbrev pub pushed : Table → ℕ → ℕ → ℕ → Table
pushed t place c w = record {
  heavy = t.heavy;
  bare = t.bare;
  rows = t.rows + 1;
  clusters = set t.clusters t.rows c;
  weights = set t.weights t.rows w;
  places = set t.places t.rows place;
  many = t.many;
}

-- the first of the rows with the cluster c
abbrev pub found : Table → ℕ → ℕ
found t c = lowest (λ j. eqb (get_or t.clusters j 0) c) t.rows

unfoldable pub added : Table → ℕ → ℕ → ℕ → Table
added t place c w = cond (ltb (found t c) t.rows) (marked t (found t c)) (cond (ltb t.rows 125) (pushed t place c w) t)

unfoldable pub enter : Table → ℕ → ℕ → ℕ → Table
enter t place c w = cond (eqb w 0) t (cond (eqb c 0) (note_bare (note_heavy t place w) place) (added (note_heavy t place w) place c w))

abbrev pub no_table : Table
no_table = record { heavy = None; bare = None; rows = 0; clusters = replicate 125 0; weights = replicate 125 0; places = replicate 125 0; many = replicate 125 0 }

-- the first of the rows that are marked
abbrev pub marked_row : Table → ℕ
marked_row t = lowest (λ j. not (eqb (get_or t.many j 0) 0)) t.rows

-- the place of its edge
abbrev pub twin : Table → Option ℕ
twin t = cond (ltb (marked_row t) t.rows) (Some (get_or t.places (marked_row t) 0)) None
