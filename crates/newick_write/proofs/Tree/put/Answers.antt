-- The arrays hold the tree.
use native.Mathlib.Omega.{arith}
use mathlib.Core.Path.{◌∙◌, refl, sym}
use borrow.Author.Rules.{rules}
use Rattle.newick_write.proofs.Cut.{rows_few, cut_short, text_put}
use Rattle.newick_write.proofs.Tree.put.Goals as goal

pub shared_ref_as_front-arrays-2 : goal.shared_ref_as_front-arrays-2
shared_ref_as_front-arrays-2 c = rows_few c.args.self.now (search rules) (search rules)

pub vertex-requires-clause-v_bound : goal.vertex-requires-clause-v_bound
vertex-requires-clause-v_bound c = omega (arith, cut_short c.args.self.now (search rules) (search rules))

pub put-requires : goal.put-requires
put-requires c = omega (arith, c.vertex.ensures.place, cut_short c.args.self.now (search rules) (search rules))

pub returns : goal.returns
returns c =
    let told = text_put c.args.self.now (search rules) (search rules) refl c.vertex.ensures c.put.ensures in
    let same = sym (c.put.ensures.same ∙ c.vertex.ensures.same) in
    (search (rules, told, same), told.1)
