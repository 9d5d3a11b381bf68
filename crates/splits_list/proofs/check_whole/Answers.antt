-- `splits_list::check_whole` meets its contract: a way out for each check.
use native.Mathlib.Omega.{arith}
use Rattle.std.proofs.lemmas.Grind.{common_steps}
use Rattle.splits_list.proofs.Whole.{list_outcome}
use Rattle.splits_list.proofs.check_whole.Goals as goal

pub returns-then-n-lt2 : goal.returns-then-n-lt2
returns-then-n-lt2 c = grind (arith, common_steps, list_outcome c.args.n c.args.s)

pub returns-then-not-well_formed : goal.returns-then-not-well_formed
returns-then-not-well_formed c = grind (arith, common_steps, list_outcome c.args.n c.args.s)

pub returns : goal.returns
returns c = grind (arith, common_steps, list_outcome c.args.n c.args.s)
