-- `table::binomial` meets its contract. The loop has C(p,i), and goes on by (q + 1) C(p,q+1) = C(p,q) (p - q).
use Rattle.std.proofs.Common.{◌≡◌}
use Rattle.statement.specs.Table.{choose}
use Rattle.table.proofs.binomial.Given as goal

abbrev pub invariant-loop-i : goal.invariant-loop-i
invariant-loop-i l = l.r ≡ choose l.p l.i
