-- `lone_weights::lower` meets its contract: one row decides.
use native.Mathlib.Omega.{arith}
use Rattle.matrix.specs.Distances.{distances}
use Rattle.lone_weights.proofs.Lowering.{row_most, lowered_none, lowered_row}
use Rattle.lone_weights.proofs.lower.Goals as goal

pub returns-then-best-eq0 : goal.returns-then-best-eq0
returns-then-best-eq0 c = lowered_none _ _ _ _ c.if-best-eq0.true

pub overflow_add-row : goal.overflow_add-row
overflow_add-row c = omega (arith, c.at.ensures.1, row_most c.row.ensures)

pub returns : goal.returns
returns c =
    let a = c.args in
    lowered_row (distances a.m.now) a.v a.z a.count c.requires.3 c.at.ensures.1 c.row.ensures c.at.ensures.0 c.lowered_by.ensures
