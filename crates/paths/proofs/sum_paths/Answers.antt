-- `paths::sum_paths` meets its contract: each way out is a law of such calls.
use Rattle.std.proofs.Common.{rules, ◌≡◌, ◌∙◌, ap, sym}
use native.Mathlib.Omega.{arith}
use native.Mathlib.Nat.{mul-le-mul}
use Rattle.statement.specs.Calls.{sum_paths, paths_written}
use Rattle.statement.specs.Replies.{said, refused_for}
use Rattle.splits_list.proofs.Whole.{taken, taken_list, list_off_law, size_off, accepted}
use Rattle.paths.proofs.sum_paths.Goals as goal

pub returns-in_err-check_whole : goal.returns-in_err-check_whole
unfolding sum_paths paths_written
returns-in_err-check_whole c =
    let a = c.args in
    let told : said c.from_residual.result ≡ refused_for c.in_err-check_whole.field-0.0 = search rules in
    let off = list_off_law a.n a.s a.out.now _ _ _ c.in_err-check_whole.ensures in
    record { value = told ∙ off.0; out_after = off.1 }

pub overflow_mul-n : goal.overflow_mul-n
overflow_mul-n c =
    let few = (taken c.args.n c.args.s (sym c.in_ok-check_whole.ensures)).few in
    omega (arith, mul-le-mul few few)

pub returns-then-out-n : goal.returns-then-out-n
unfolding sum_paths paths_written
returns-then-out-n c =
    let a = c.args in
    let off = size_off a.n a.s a.out.now _ _ (sym c.in_ok-check_whole.ensures) c.if-out-n.true in
    record { value = ap refused_for c.at.ensures ∙ off.0; out_after = off.1 }

pub put_sums-requires : goal.put_sums-requires
put_sums-requires c =
    let ok = taken c.args.n c.args.s (sym c.in_ok-check_whole.ensures) in
    (ok.two, ok.few, taken_list c.args.n c.args.s (search rules) (search rules) ok, ok.whole, c.if-out-n.false)

pub returns : goal.returns
unfolding sum_paths paths_written
returns c =
    let a = c.args in
    let told = accepted a.n a.s a.out.now _ _ (sym c.in_ok-check_whole.ensures) c.if-out-n.false c.put_sums.new.out c.put_sums.ensures in
    record { value = told.0; out_after = told.1 }
