-- `tree_write::write_tree` meets its contract: each way out is a law of such calls.
use Rattle.std.proofs.Common.{rules, ◌≡◌, ◌∙◌, ap, sym}
use native.Mathlib.Omega.{arith}
use Rattle.statement.specs.Calls.{write_tree, tree_written}
use Rattle.statement.specs.Replies.{said, refused_for}
use Rattle.splits_list.proofs.Whole.{list_off_law, size_off, accepted}
use Rattle.tree_write.proofs.GivenRows.{given}
use Rattle.tree_write.proofs.write_tree.Goals as goal

pub returns-in_err-check_whole : goal.returns-in_err-check_whole
unfolding write_tree tree_written
returns-in_err-check_whole c =
    let a = c.args in
    let told : said c.from_residual.result ≡ refused_for c.in_err-check_whole.field-0.0 = search rules in
    let off = list_off_law a.n a.s a.out.now _ _ _ c.in_err-check_whole.ensures in
    record { value = told ∙ off.0; out_after = off.1 }

pub overflow_add-n : goal.overflow_add-n
overflow_add-n c = omega (arith, given c.args.n c.args.s c.in_ok-check_whole.ensures (search rules) (search rules))

pub overflow_mul-s : goal.overflow_mul-s
overflow_mul-s c = omega (arith, given c.args.n c.args.s c.in_ok-check_whole.ensures (search rules) (search rules))

pub overflow_add-n-2 : goal.overflow_add-n-2
overflow_add-n-2 c = omega (arith, given c.args.n c.args.s c.in_ok-check_whole.ensures (search rules) (search rules))

pub returns-then-out-n : goal.returns-then-out-n
unfolding write_tree tree_written
returns-then-out-n c =
    let a = c.args in
    let off = size_off a.n a.s a.out.now _ _ (sym c.in_ok-check_whole.ensures) c.if-out-n.true in
    record { value = ap refused_for c.at.ensures ∙ off.0; out_after = off.1 }

pub put_tree-requires : goal.put_tree-requires
put_tree-requires c =
    let (few, well) = given c.args.n c.args.s c.in_ok-check_whole.ensures (search rules) (search rules) in
    (few, well, c.if-out-n.false)

pub returns : goal.returns
unfolding write_tree tree_written
returns c =
    let a = c.args in
    let told = accepted a.n a.s a.out.now _ _ (sym c.in_ok-check_whole.ensures) c.if-out-n.false c.put_tree.new.out c.put_tree.ensures in
    record { value = told.0; out_after = told.1 }
