-- The tests of the code are those of a row by itself, in the same order.
use native.Mathlib.Omega.{arith}
use Rattle.std.proofs.lemmas.Grind.{common_steps}
use Rattle.statement.specs.Rows.{fits}
use Rattle.statement.proofs.Bits.{bit_zero}
use Rattle.splits_list.proofs.row_fits.Goals as goal

pub returns-then-w-ne0 : goal.returns-then-w-ne0
unfolding fits
returns-then-w-ne0 c = grind (arith, common_steps, bit_zero)

pub returns-else-w-ne0 : goal.returns-else-w-ne0
unfolding fits
returns-else-w-ne0 c = grind (arith, common_steps, bit_zero)
