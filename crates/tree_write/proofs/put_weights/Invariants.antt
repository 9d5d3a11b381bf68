-- `tree_write::put_weights` meets its contract: the weights passed are pasted, four bytes each.
use Prim.Native.Nat.{◌*◌}
use mathlib.Core.Path.{◌≡◌}
use lib.ListN.{length}
use lib.Seq.{paste}
use Rattle.statement.specs.Rows.{weights, rows_of}
use Rattle.statement.specs.Bytes.{to_bytes}
use Rattle.tree_write.proofs.put_weights.Given as goal

abbrev pub invariant-loop-i : goal.invariant-loop-i
invariant-loop-i l = (length l.out ≡ length l.initial.out) × (l.out ≡ paste l.initial.out l.at (to_bytes (weights (rows_of l.s))) (4 * l.i))
