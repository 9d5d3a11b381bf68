-- `tree_write::put_vertices` meets its contract: the vertices passed are pasted.
use Prim.Native.Nat.{◌+◌}
use native.Mathlib.Omega.{arith}
use mathlib.Core.Path.{◌≡◌, refl, ◌∙◌, ap}
use lib.ListN.{length-set}
use lib.Seq.{paste, paste-zero}
use borrow.Author.Rules.{rules}
use Rattle.statement.specs.Rows.{rows_of}
use Rattle.statement.specs.Tree.{tree_of}
use Rattle.tree_write.specs.Vertices.{vertices}
use Rattle.tree_write.proofs.GivenRows.{roomy, clusters_of_law, cluster_small}
use Rattle.tree_write.proofs.Stores.{one_more, vertices_length}
use Rattle.tree_write.proofs.put_vertices.Goals as goal

pub loop-i-init : goal.loop-i-init
loop-i-init c = let a = c.args in (refl, λ rows these. paste-zero a.out.now 1 (vertices (tree_of a.n rows)))

pub vertex_at-requires : goal.vertex_at-requires
vertex_at-requires c =
    let room = roomy c.args.n c.args.s.now c.requires.0 c.requires.1 (search rules) (search rules) in
    record { i_bound = (omega arith, room.rows, c.requires.0); by_index = λ j l. cluster_small c.args.s.now room c.args.n j c.requires.1 l }

pub loop-i-preserved : goal.loop-i-preserved
loop-i-preserved c = (
  length-set c.loop-i.out _ _ ∙ c.loop-i.invariant.0,
  λ rows these.
      one_more c.args.out.now (vertices (tree_of c.args.n rows)) c.loop-i.out 1 c.loop-i.i _ (omega arith)
      (omega (arith, vertices_length c.args.n rows, these.count)) (c.loop-i.invariant.1 rows these) (c.vertex_at.ensures rows these),
)

pub returns : goal.returns
returns c =
    let room = roomy c.args.n c.args.s.now c.requires.0 c.requires.1 (search rules) (search rules) in
    let end : c.loop-i.i ≡ c.args.s.now.rows + c.args.n = omega arith in
    c.loop-i.invariant.1 (rows_of c.args.s.now) (clusters_of_law c.args.s.now room)
    ∙ ap (paste c.args.out.now 1 (vertices (tree_of c.args.n (rows_of c.args.s.now)))) end
