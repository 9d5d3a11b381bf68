-- The taxa passed are listed where they are on the other side.
use Rattle.bits.specs.Members.{Members}
use Rattle.bits.proofs.members.Given as goal

abbrev pub invariant-loop-y : goal.invariant-loop-y
invariant-loop-y l = Members l.y l.a l.c l.taxa l.count
