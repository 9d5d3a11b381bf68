-- The distances of an accepted matrix, by two taxa.
use Rattle.std.specs.Prelude.{ℕ}
use Rattle.statement.specs.Matrix.{distance}
use Rattle.matrix.specs.declared.Matrix.{Matrix}

abbrev pub distances : Matrix → ℕ → ℕ → ℕ
distances m = distance m.n m.entries.now
