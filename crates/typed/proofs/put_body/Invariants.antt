-- `typed::put_body` meets its contract. The entries passed are pasted, four bytes each.
use Prim.Native.Nat.{◌*◌}
use mathlib.Core.Path.{◌≡◌}
use lib.ListN.{length}
use lib.Seq.{paste}
use Rattle.statement.specs.Bytes.{to_bytes}
use Rattle.typed.specs.Typed.{values_in, entries_of}
use Rattle.typed.proofs.put_body.Given as goal

abbrev pub invariant-loop-e : goal.invariant-loop-e
invariant-loop-e l = (length l.out ≡ length l.initial.out) × (l.out ≡ paste l.initial.out 0 (to_bytes (entries_of l.n (values_in l.text))) (4 * l.e))
