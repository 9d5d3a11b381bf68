-- The three demands on the length.
use Rattle.std.proofs.Common.{rules}
use Rattle.tree_check.proofs.Tested.{fits_law}
use Rattle.tree_check.proofs.tree_fits.Goals as goal

pub returns : goal.returns
returns c = rw (fits_law c.args.n c.args.len) (search rules)
