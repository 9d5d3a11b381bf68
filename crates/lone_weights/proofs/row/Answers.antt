-- `lone_weights::row` meets its contract: one y more is passed.
use Rattle.std.proofs.Common.{rules}
use Rattle.lone_weights.proofs.Lowering.{row_turn}
use Rattle.lone_weights.proofs.row.Goals as goal

pub loop-y-preserved : goal.loop-y-preserved
loop-y-preserved c = row_turn _ _ _ c.loop-y.y c.loop-y.invariant c.term.ensures (search rules)
