-- The walk over a sentence, a token at a time: what each token does. These are the code's own steps, on its numbers and arrays put together.
use Rattle.std.specs.Prelude.{ℕ, None, ◌+◌, ◌-◌, Bool, cond, not, ◌||◌, List, ltb, leb, eqb, get_or, set, replicate}
use Rattle.statement.specs.Decimal.{digit}
use Rattle.newick_edges.specs.declared.Met.{Met}
use Rattle.newick_edges.specs.Marks.{meet, mask_of, side}
use Rattle.newick_edges.specs.Table.{Table, table_in, enter, no_table}
use Rattle.newick_walk.specs.declared.Walk.{Walk as Walker}

-- where the walk is, with the arrays: the taxa met before each open bracket, and the table
pub record Walk : Type 0 where
  pub at : ℕ
  pub depth : ℕ
  pub opened : List ℕ
  pub below : ℕ
  pub met : Met
  pub table : Table

abbrev pub walk_in : Walker → Walk
walk_in w =
    record { at = w.at; depth = w.depth; opened = w.opened; below = w.below; met = w.met; table = table_in w.table }

-- one byte on
abbrev pub passing : Walk → Walk
passing w = record { at = w.at + 1; depth = w.depth; opened = w.opened; below = w.below; met = w.met; table = w.table }

unfoldable pub opening : Walk → Walk
opening w =
    cond (ltb w.depth 131)
    (record { at = w.at + 1; depth = w.depth + 1; opened = set w.opened w.depth w.met.seen; below = w.below; met = w.met; table = w.table })
    (passing w)

unfoldable pub closing : Walk → Walk
closing w =
    cond (eqb w.depth 0) (passing w)
    (cond (leb 131 (w.depth - 1)) (passing w)
    (record { at = w.at + 1; depth = w.depth - 1; opened = w.opened; below = w.met.seen - get_or w.opened (w.depth - 1) 0; met = w.met; table = w.table }))

unfoldable pub leafing : ℕ → Walk → ℕ → ℕ → Walk
leafing n w x next =
    record { at = next; depth = w.depth; opened = w.opened; below = mask_of n w.met.seen x; met = meet n w.met w.at x; table = w.table }

unfoldable pub weighing : ℕ → Walk → ℕ → ℕ → Walk
weighing n w x next =
    record { at = next; depth = w.depth; opened = w.opened; below = w.below; met = w.met; table = enter w.table (w.at + 1) (side n w.below) x }

unfoldable pub begun : Walk
begun = record { at = 0; depth = 0; opened = replicate 131 0; below = 0; met = record { seen = 0; stray = None }; table = no_table }

-- a byte that begins no token
unfoldable pub stops_at : ℕ → Bool
stops_at c = not (digit c || eqb c 40 || eqb c 41 || eqb c 44 || eqb c 58)
