-- `parents::trivial` meets its contract.
use Rattle.std.proofs.Common.{arith}
use lib.Pow.{pow_mono}
use Rattle.parents.proofs.trivial.Goals as goal

pub overflow_sub-result : goal.overflow_sub-result
overflow_sub-result c = omega (arith, c.single.ensures, pow_mono {i = 1} {j = c.args.k} c.requires.1)
