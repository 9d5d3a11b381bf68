-- `is_own` meets its contract.
use Rattle.statement.proofs.Parts.{on_side}
use Rattle.neighbours.proofs.Reaches.{own_tested}
use Rattle.neighbours.proofs.is_own.Goals as goal

pub returns-then-same_side : goal.returns-then-same_side
returns-then-same_side c =
    let s = c.args in
    own_tested s.k s.a s.c s.x (on_side s.c s.a s.x c.same_side.ensures c.if-same_side.true) c.is_pair.ensures c.requires.3
