-- A shift by k leaves nothing exactly of the numbers below 2 ^ k.
use Rattle.splits_list.proofs.Checks.{shifted}
use Rattle.splits_list.proofs.within.Goals as goal

pub returns-else-k-eq64 : goal.returns-else-k-eq64
returns-else-k-eq64 c = shifted c.args.k c.args.c
