-- By the bit of taxon 0.
use Prim.Native.Nat.{ℕ, ◌-◌}
use mathlib.Core.Path.{◌∙◌, ap}
use Rattle.newick_edges.proofs.Marking.{side_same, side_other}
use Rattle.newick_edges.proofs.side.Goals as goal

pub returns-then-below-eq0 : goal.returns-then-below-eq0
returns-then-below-eq0 c = side_same c.args.n c.args.below c.if-below-eq0.true

pub returns-else-below-eq0 : goal.returns-else-below-eq0
returns-else-below-eq0 c = c.saturating_sub.ensures ∙ ap (λ (f : ℕ). f - c.args.below) c.full.ensures ∙ side_other c.args.n c.args.below c.if-below-eq0.false
