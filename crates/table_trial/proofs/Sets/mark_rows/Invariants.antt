-- `table_trial::Sets::mark_rows` meets its contract: the rows passed are done.
use Rattle.std.proofs.Common.{◌+◌, ◌*◌}
use Rattle.table_trial.specs.Sets.{Filled}
use Rattle.table_trial.proofs.Sets.mark_rows.Given as goal

abbrev pub invariant-loop-j : goal.invariant-loop-j
invariant-loop-j l = Filled l.table.bytes.now l.x (l.l * 4096 + l.j * 64) l.self.pairs
