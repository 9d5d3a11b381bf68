-- WHAT A WALKER SAYS at its place: the end of the file; a record, with the start and the length of its body and the place behind it; or a refused record, with
-- its number and place, at which the walker does not move.
use Rattle.std.specs.Prelude.{ℕ}

pub data Step : Type 0 where
  End : Step
  Found : ℕ → ℕ → ℕ → Step
  Refused : ℕ → ℕ → Step
