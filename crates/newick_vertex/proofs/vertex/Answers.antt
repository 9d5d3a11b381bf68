-- The arrays, cut to the lengths that are asked for, hold the same tree.
use native.Mathlib.Omega.{arith}
use mathlib.Core.Path.{sym, ◌∙◌, ap}
use lib.ListN.{length}
use lib.Seq.{sets}
use borrow.Author.Rules.{rules}
use Rattle.newick_vertex.proofs.Cut.{cut_text}
use Rattle.newick_vertex.proofs.vertex.Goals as goal

pub vertex-requires-clause-v_bound : goal.vertex-requires-clause-v_bound
vertex-requires-clause-v_bound c =
    let a = c.args in let pre = c.requires.v_le_m in
    omega (arith, c.requires.v_bound, ap length (cut_text a.n a.m a.links.now a.homes.now a.weights.now pre.1 pre.3 a.v pre.0))

pub returns-clause-out_after : goal.returns-clause-out_after
returns-clause-out_after c =
    let a = c.args in let pre = c.requires.v_le_m in
    let told = c.vertex.ensures.stored ∙ ap (sets a.out.now a.at) (cut_text a.n a.m a.links.now a.homes.now a.weights.now pre.1 pre.3 a.v pre.0) in
    let same = sym c.vertex.ensures.same in
    search (rules, told, same)

pub returns-clause-value : goal.returns-clause-value
returns-clause-value c =
    let a = c.args in let pre = c.requires.v_le_m in
    omega (arith, c.vertex.ensures.place, ap length (cut_text a.n a.m a.links.now a.homes.now a.weights.now pre.1 pre.3 a.v pre.0))
