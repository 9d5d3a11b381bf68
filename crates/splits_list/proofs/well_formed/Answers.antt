-- The four demands, in the same order.
use native.Mathlib.Omega.{arith}
use Rattle.std.proofs.lemmas.Grind.{common_steps}
use Rattle.statement.specs.Rows.{well_formed}
use Rattle.splits_list.proofs.well_formed.Goals as goal

pub returns-then-s-row_limit : goal.returns-then-s-row_limit
unfolding well_formed
returns-then-s-row_limit c = grind (arith, common_steps)

pub returns-else-s-row_limit : goal.returns-else-s-row_limit
unfolding well_formed
returns-else-s-row_limit c = grind (arith, common_steps)
