-- `Seen::fails_four` meets its contract: a four that is not supported fails the trial.
use mathlib.Core.Path.{◌∙◌}
use mir.Syntax.{w64}
use mir.ValLaws.{to_z-of_z}
use borrow.Author.Rules.{sfits_of}
use borrow.Author.Tests.{not-true}
use Rattle.matrix.specs.Distances.{distances}
use Rattle.neighbours.proofs.Looks.{four_fails}
use Rattle.neighbours.proofs.Seen.fails_four.Goals as goal

pub returns-then-y-z : goal.returns-then-y-z
returns-then-y-z c r =
    let s = c.args.self.now in
    let (lx, own, y, z) = c.requires in
    four_fails (distances s.matrix) s.k s.a s.c c.args.x c.args.y c.args.z lx y.0 z.0 own y.1 z.1 c.if-y-z.true
    (to_z-of_z w64 _ (sfits_of c.score-score.type_inv) ∙ c.score-score.ensures) c.supports.ensures (not-true _ r)
