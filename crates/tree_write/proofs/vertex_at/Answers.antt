-- `tree_write::vertex_at` meets its contract: a link, or past the links a home.
use native.Mathlib.Omega.{arith}
use mathlib.Core.Path.{◌∙◌}
use Rattle.tree_write.proofs.Stores.{vertex_link, vertex_home}
use Rattle.tree_write.proofs.vertex_at.Goals as goal

pub link_of-requires : goal.link_of-requires
link_of-requires c = (omega arith, omega arith, c.requires.by_index c.args.i (omega arith))

pub returns-then-i-m : goal.returns-then-i-m
returns-then-i-m c = λ rows these.
    let a = c.args in c.link_of.ensures.value rows these ∙ vertex_link a.n rows a.i (omega (arith, these.count))

pub returns-else-i-m : goal.returns-else-i-m
returns-else-i-m c = λ rows these.
    let a = c.args in c.home_of.ensures.value rows these ∙ vertex_home a.n rows a.i _ (omega arith) (omega (arith, these.count))
