-- Rows with a number added to each cluster.
use Rattle.std.specs.Prelude.{ℕ, ◌+◌, List, map}
use Rattle.statement.specs.Rows.{Row, row}

abbrev pub raised : ℕ → List Row → List Row
raised b rows = map (λ r. row (b + r.cluster) r.weight) rows
