-- `Seen::fails_with_yz` meets its contract: half a score that is not above zero, for some x, fails the trial.
use native.Mathlib.Omega.{arith}
use mathlib.Core.Path.{◌∙◌}
use mir.Syntax.{w64}
use mir.ValLaws.{to_z-of_z}
use borrow.Author.Rules.{sfits_of}
use borrow.Author.Tests.{not-true}
use Rattle.neighbours.proofs.Reaches.{reach_cap}
use Rattle.neighbours.proofs.Looks.{half_fails}
use Rattle.neighbours.proofs.Seen.fails_with_yz.Goals as goal

pub overflow_add-ay_z : goal.overflow_add-ay_z
overflow_add-ay_z c = omega (arith, c.at.ensures.1, reach_cap c.requires.2)

pub returns-then-y-z : goal.returns-then-y-z
returns-then-y-z c r =
    let s = c.args.self.now in
    let (y, z, reach) = c.requires in
    half_fails s.matrix.n s.matrix.entries.now s.matrix.accepted s.k s.a s.c c.args.y c.args.z _ s.few s.within y.0 z.0 y.1 z.1
    c.if-y-z.true reach c.at.ensures.0 c.at-zy.ensures.0 (to_z-of_z w64 _ (sfits_of c.less.type_inv) ∙ c.less.ensures) c.supports.ensures
    (not-true _ r)
