-- `tree_write::put_tree` meets its contract: the first byte, the vertices, the weights.
use Prim.Native.Nat.{◌+◌, ◌*◌, ◌≤◌}
use native.Mathlib.Omega.{arith}
use mathlib.Core.Path.{◌≡◌, ◌∙◌}
use lib.ListN.{length, length-set}
use borrow.Author.Rules.{rules}
use Rattle.statement.specs.Rows.{rows_of}
use Rattle.statement.specs.Tree.{tree_of}
use Rattle.statement.proofs.WellFormed.{rows_length}
use Rattle.statement.proofs.Walks.{root_is}
use Rattle.tree_write.proofs.GivenRows.{roomy}
use Rattle.tree_write.proofs.Body.{tree_size}
use Rattle.tree_write.proofs.Stores.{body_written_law}
use Rattle.tree_write.proofs.put_tree.Goals as goal

pub overflow_cast-out : goal.overflow_cast-out
overflow_cast-out c =
    let room = roomy c.args.n c.args.s.now c.requires.0 c.requires.1 (search rules) (search rules) in
    omega (arith, room.rows)

pub put_vertices-requires : goal.put_vertices-requires
put_vertices-requires c = (c.requires.0, c.requires.1, simp length-set (omega arith))

pub put_weights-requires : goal.put_weights-requires
put_weights-requires c =
    let room = roomy c.args.n c.args.s.now c.requires.0 c.requires.1 (search rules) (search rules) in
    let kept : length c.put_vertices.new.out ≡ length c.args.out.now =
    c.put_vertices.auto.out ∙ length-set c.args.out.now 0 _ in
    let enough : 1 + c.args.s.now.rows + c.args.n + 4 * c.args.s.now.rows ≤ length c.put_vertices.new.out = omega (arith, kept) in
    (room.rows, enough)

pub shape_of-out : goal.shape_of-out
shape_of-out c =
    let kept : length c.put_vertices.new.out ≡ length c.args.out.now =
    c.put_vertices.auto.out ∙ length-set c.args.out.now 0 _ in
    c.put_weights.auto.out ∙ kept

pub returns : goal.returns
unfolding tree_of
returns c =
    let room = roomy c.args.n c.args.s.now c.requires.0 c.requires.1 (search rules) (search rules) in
    let weighed = c.put_weights in
    let filled = c.put_vertices in
    let rows = rows_of c.args.s.now in
    body_written_law c.args.n (tree_of c.args.n rows) (tree_size c.args.n rows) c.args.s.now.rows
    (root_is c.args.n rows ∙ rows_length c.args.s.now room) c.args.out.now filled.new.out weighed.new.out c.requires.2
    filled.ensures filled.auto.out weighed.ensures weighed.auto.out
