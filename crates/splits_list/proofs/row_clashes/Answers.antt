-- The test of a row before row i is whether it clashes with it: all these are splits.
use Rattle.std.proofs.Common.{rules, get_or, ◌<◌}
use native.Mathlib.Omega.{arith}
use Rattle.statement.specs.Cluster.{Split}
use Rattle.statement.specs.Rows.{clashes}
use Rattle.splits_list.proofs.row_clashes.Goals as goal

pub returns : goal.returns
unfolding clashes
returns c =
    let a = c.args in
    c.somewhere.ensures (clashes a.k a.clusters.now a.i) (λ j l r e.
    let some : 0 < a.k = c.requires.i_bound.1 in
    let there : Split a.k (get_or a.clusters.now j 0) = c.requires.by_index j (omega arith) in
    let here : Split a.k (get_or a.clusters.now a.i 0) = c.requires.by_index a.i (omega arith) in
    search rules)
