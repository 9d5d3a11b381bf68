-- `table::binomial` meets its contract. The loop has C(p,i), and goes on by (q + 1) C(p,q+1) = C(p,q) (p - q).
use Prim.Native.Nat.{◌*◌, ◌-◌, ◌^◌, ◌≤◌}
use native.Mathlib.Numerals.{add-one}
use native.Mathlib.Omega.{arith}
use mathlib.Core.Path.{refl, sym}
use Rattle.statement.specs.Table.{choose}
use Rattle.table.proofs.Choose.{choose_none, choose_next, choose_fits}
use Rattle.table.proofs.binomial.Goals as goal

pub returns-then-p-q : goal.returns-then-p-q
returns-then-p-q c = sym (choose_none c.args.p c.args.q (omega arith))

pub loop-i-init : goal.loop-i-init
unfolding choose
loop-i-init c = refl

pub overflow_mul-r : goal.overflow_mul-r
overflow_mul-r c =
    let p = c.args.p in
    let l = c.loop-i in
    let f : l.r * (p - l.i) ≤ 64 ^ 5 = rw l.invariant (choose_fits p l.i (omega arith) (omega arith)) in
    omega arith

pub loop-i-preserved : goal.loop-i-preserved
loop-i-preserved c = let l = c.loop-i in rw (l.invariant, add-one) (choose_next c.args.p l.i)
