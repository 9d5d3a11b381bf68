-- `bits::is_alone` meets its contract: somewhere there is another one on u's side, or nowhere.
use Rattle.std.proofs.Common.{rules, not, ◌&&◌, eqb, ap}
use Rattle.statement.specs.Cluster.{bit}
use Rattle.statement.specs.Growing.{alone}
use Rattle.bits.proofs.is_alone.Goals as goal

pub returns : goal.returns
unfolding alone
returns c =
    let a = c.args in
    ap not (c.somewhere.ensures (λ i. eqb (bit a.c i) (bit a.c a.u) && not (eqb i a.u)) (λ i l r e. search rules))
