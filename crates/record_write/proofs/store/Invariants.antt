-- What is stored so far.
use Rattle.std.proofs.Common.{◌≡◌, length, take}
use Rattle.record_write.proofs.store.Given as goal

abbrev pub invariant-loop-i : goal.invariant-loop-i
invariant-loop-i l = (length l.out ≡ length l.body) × (take l.i l.out ≡ take l.i l.body)
