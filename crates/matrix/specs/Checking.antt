-- What one check of all the entries does: it is this line of the table of refusals, where the test says of the entry in row i and column j what the line says of
-- its place, row by row.
use Rattle.std.specs.Prelude.{ℕ, ◌+◌, ◌*◌, ◌<◌, ◌≡◌, Bool}
use Rattle.statement.specs.declared.Reason.{Reason}
use Rattle.statement.specs.Said.{number_of_reason}
use Rattle.statement.specs.Refusals.{Check}

pub record IsLine (n : ℕ) (reason : Reason) (Bad : ℕ → ℕ → Bool → Type 0) (c : Check) : Type 0 where
  pub number : c.number ≡ number_of_reason reason
  pub places : c.places ≡ n * n
  pub same : (i j : ℕ) → i < n → j < n → (r : Bool) → Bad i j r → r ≡ c.bad (i * n + j)
