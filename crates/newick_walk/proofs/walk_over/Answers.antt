-- The walk from nothing.
use Rattle.std.proofs.Common.{◌≡◌}
use mathlib.Core.Path.{◌∙◌, ap, subst}
use Rattle.newick_walk.specs.Machine.{Walk, walk_in}
use Rattle.newick_walk.specs.Tokens.{Walks}
use Rattle.newick_walk.proofs.Steps.{begun_zero}
use Rattle.newick_walk.proofs.walk_over.Goals as goal

pub walk_on-requires : goal.walk_on-requires
walk_on-requires c =
    let e = c.new.ensures in
    (c.requires, ap (λ (v : Walk). v.at) e ∙ begun_zero.0, ap (λ (v : Walk). v.depth) e ∙ begun_zero.1)

pub returns : goal.returns
returns c = subst (λ (v : Walk). Walks c.args.n c.args.t.now v (walk_in c.walk_on.result)) c.new.ensures c.walk_on.ensures
