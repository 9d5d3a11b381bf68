-- A list with one row more, and with several.
use Rattle.std.specs.Prelude.{ℕ, ◌+◌, List, [], ◌∷◌, set}
use Rattle.statement.specs.declared.Splits.{Splits}
use Rattle.statement.specs.Rows.{Row}

-- the row c, w stored at the first spare place
abbrev pub pushed : Splits → ℕ → ℕ → Splits
pushed s c w = record { taxa = s.taxa; rows = s.rows + 1; clusters = set s.clusters s.rows c; weights = set s.weights s.rows w }

-- rows pushed, one after the other
abbrev pub appended : Splits → List Row → Splits
appended s [] = s
appended s (r ∷ rs) = appended (pushed s r.cluster r.weight) rs
