-- WHAT A CALL SAYS, and what growth and reading hand back. The code hands back its result or a refusal; Replies.antt says which of these that is.
use Rattle.std.specs.Prelude.{ℕ}
use Rattle.statement.specs.declared.Splits.{Splits}

-- done, stopped for want of allowance, or refused, with the number and the place of document 01's table
pub data Outcome : Type 0 where
  Done : Outcome
  Short : Outcome
  Refused : ℕ → ℕ → Outcome

-- growth and a whole run
pub record Growth : Type 0 where
  pub outcome : Outcome
  pub list : Splits
  pub trials : ℕ

-- the reading of a tree
pub record Reading : Type 0 where
  pub outcome : Outcome
  pub list : Splits
