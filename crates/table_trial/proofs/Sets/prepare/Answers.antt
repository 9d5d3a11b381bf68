-- `table_trial::Sets::prepare` meets its contract: the fours with a greatest earlier taxon that is passed are done.
use Rattle.std.proofs.Common.{arith, ℕ, replicate}
use Rattle.std.proofs.lemmas.List.{get_or-replicate, length-replicate}
use Rattle.table_trial.proofs.Marks.{filled_none, prepared}
use Rattle.table_trial.proofs.Sets.prepare.Goals as goal

pub loop-l-init : goal.loop-l-init
loop-l-init c =
    let a = c.args in
    filled_none a.table.now.bytes.now a.x (omega arith) (replicate {A = ℕ} 2016 0) (length-replicate {A = ℕ} 2016 0) (λ p l. get_or-replicate 2016 p 0 0 l)

pub returns : goal.returns
returns c =
    let a = c.args in
    prepared a.table.now.bytes.now a.x (omega arith) c.loop-l.l c.loop-l.self.pairs c.loop-l-test.false c.loop-l.invariant
