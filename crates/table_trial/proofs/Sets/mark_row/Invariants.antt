-- `table_trial::Sets::mark_row` meets its contract: the fours of the row that are passed are done.
use Rattle.std.proofs.Common.{◌+◌, ◌*◌}
use Rattle.table_trial.specs.Sets.{Filled}
use Rattle.table_trial.proofs.Sets.mark_row.Given as goal

abbrev pub invariant-loop-i : goal.invariant-loop-i
invariant-loop-i l = Filled l.table.bytes.now l.x (l.l * 4096 + l.j * 64 + l.i) l.self.pairs
