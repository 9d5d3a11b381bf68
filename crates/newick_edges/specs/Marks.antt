-- Taxa met, and the side of an edge: the code's own steps.
use Rattle.std.specs.Prelude.{ℕ, Option, Some, ◌+◌, ◌-◌, ◌^◌, Bool, cond, ◌&&◌, ltb, eqb}
use Rattle.std.specs.Option.{option_or}
use Rattle.statement.specs.Cluster.{bit}
use Rattle.newick_edges.specs.declared.Met.{Met}

-- the place noted, where none was
abbrev pub first_of : Option ℕ → ℕ → Option ℕ
first_of old place = option_or old (Some place)

abbrev pub fresh : ℕ → ℕ → ℕ → Bool
fresh n seen x = ltb x n && eqb (bit seen x) 0

unfoldable pub meet : ℕ → Met → ℕ → ℕ → Met
meet n m place x =
    cond (fresh n m.seen x) (record { seen = m.seen + 2 ^ x; stray = m.stray }) (record { seen = m.seen; stray = first_of m.stray place })

unfoldable pub mask_of : ℕ → ℕ → ℕ → ℕ
mask_of n seen x = cond (fresh n seen x) (2 ^ x) 0

unfoldable pub side : ℕ → ℕ → ℕ
side n below = cond (eqb (bit below 0) 0) below (2 ^ n - 1 - below)
