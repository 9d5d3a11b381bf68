-- `table_trial::Sets::prepare` meets its contract: the fours with a greatest earlier taxon that is passed are done.
use Rattle.std.proofs.Common.{◌+◌, ◌*◌}
use Rattle.table_trial.specs.Sets.{Filled}
use Rattle.table_trial.proofs.Sets.prepare.Given as goal

abbrev pub invariant-loop-l : goal.invariant-loop-l
invariant-loop-l l = Filled l.table.bytes.now l.x (l.l * 4096 + 64) l.self.pairs
