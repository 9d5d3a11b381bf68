-- The common group is compared with nothing and with the lesser cluster, both by one test: conflict by the mask.
use native.Mathlib.Omega.{arith}
use mathlib.Core.Path.{sym}
use Rattle.std.proofs.lemmas.Bool.{ltb_from_iff}
use Rattle.std.proofs.lemmas.Nat.{and_le_l}
use Rattle.splits_list.proofs.Checks.{conflicts_apart}
use Rattle.splits_list.proofs.conflict.Goals as goal

pub returns : goal.returns
returns c k pk l sa sb =
    let apart = conflicts_apart k c.args.a c.args.b pk sa sb in
    let part = and_le_l c.args.a c.args.b in
    sym (ltb_from_iff (
      (λ e. let (some, more, other) = apart.0 e in omega (arith, part, c.ranges.a)),
      (λ m. apart.1 ((λ e. omega (arith, m)), (λ e. omega (arith, m)), (λ e. omega (arith, part)))),
    ))
