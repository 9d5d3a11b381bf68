-- The `parents` of a table meets its contract: the rows are extended as they are.
use Rattle.std.proofs.Common.{rules, arith, refl, sym}
use Rattle.splits_list.proofs.Laws.{Roomy, rows_length}
use Rattle.grow.proofs.TableSource.parents.Goals as goal

pub returns : goal.returns
returns c =
    let s = c.args.s in
    let roomy : Roomy s = record { clusters = search rules; weights = search rules; rows = omega (arith, c.requires.1.few, c.args.self.now.accepted.few) } in
    record { taxa = refl; rows = refl; count = sym (rows_length s roomy) }
