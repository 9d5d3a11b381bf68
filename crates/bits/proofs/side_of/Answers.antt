-- `bits::side_of` meets its contract.
use Rattle.bits.proofs.Sides.{side_in, side_out}
use Rattle.bits.proofs.side_of.Goals as goal

pub returns-then-c-a-eq1 : goal.returns-then-c-a-eq1
returns-then-c-a-eq1 c = side_in c.args.a c.args.c _ c.single-all.ensures c.if-c-a-eq1.true

pub returns-else-c-a-eq1 : goal.returns-else-c-a-eq1
returns-else-c-a-eq1 c = side_out c.args.a c.args.c _ c.single-all.ensures c.if-c-a-eq1.false
