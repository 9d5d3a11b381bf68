-- The struct as it is made is the list of no rows.
use mathlib.Core.Path.{refl}
use Rattle.statement.specs.Rows.{list_of, filled}
use Rattle.splits_list.proofs.empty.Goals as goal

pub returns : goal.returns
unfolding list_of filled
returns c = refl
