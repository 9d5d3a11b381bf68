-- `record_write::check` meets its contract, by the kind.
use Rattle.std.proofs.Common.{arith}
use Rattle.record_write.proofs.Replies.{read_said}
use Rattle.record_write.proofs.check.Goals as goal

pub returns-in-Tree : goal.returns-in-Tree
returns-in-Tree c = let read = read_said _ _ c.read_tree.result c.read_tree.ensures in grind (arith, read)
