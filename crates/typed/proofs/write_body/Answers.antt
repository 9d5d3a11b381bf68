-- `typed::write_body` meets its contract, by what the check says of the text and the room.
use native.Mathlib.Omega.{arith}
use mathlib.Core.Path.{sym, ◌∙◌}
use Rattle.std.proofs.lemmas.Result.{err_from_is_err_and}
use Rattle.typed.proofs.Texts.{matrix_taken}
use Rattle.typed.proofs.Body.{refused, no_room, written}
use Rattle.typed.proofs.Entries.{square_small}
use Rattle.typed.proofs.write_body.Goals as goal

pub returns-in_err-n-clause-value : goal.returns-in_err-n-clause-value
returns-in_err-n-clause-value c =
    let p = err_from_is_err_and c.from_residual.result c.from_residual.ensures.1 in
    rw (p.1, p.2) (refused c.args.text.now c.args.out.now c.in_err-n.field-0.0 (sym c.in_err-n.was ∙ c.check.ensures)).0

pub returns-in_err-n-clause-out_after : goal.returns-in_err-n-clause-out_after
returns-in_err-n-clause-out_after c =
    (refused c.args.text.now c.args.out.now c.in_err-n.field-0.0 (sym c.in_err-n.was ∙ c.check.ensures)).1

pub overflow_mul-n : goal.overflow_mul-n
overflow_mul-n c = omega (arith, square_small c.in_ok-n.n (matrix_taken c.args.text.now c.in_ok-n.n (sym c.in_ok-n.was ∙ c.check.ensures)).few)

pub overflow_mul-n-2 : goal.overflow_mul-n-2
overflow_mul-n-2 c = omega (arith, square_small c.in_ok-n.n (matrix_taken c.args.text.now c.in_ok-n.n (sym c.in_ok-n.was ∙ c.check.ensures)).few)

pub returns-then-out-n-clause-value : goal.returns-then-out-n-clause-value
returns-then-out-n-clause-value c = (no_room c.args.text.now c.args.out.now c.in_ok-n.n (sym c.in_ok-n.was ∙ c.check.ensures) c.if-out-n.true).0

pub returns-then-out-n-clause-out_after : goal.returns-then-out-n-clause-out_after
returns-then-out-n-clause-out_after c = (no_room c.args.text.now c.args.out.now c.in_ok-n.n (sym c.in_ok-n.was ∙ c.check.ensures) c.if-out-n.true).1

pub put_body-requires : goal.put_body-requires
put_body-requires c = (matrix_taken c.args.text.now c.in_ok-n.n (sym c.in_ok-n.was ∙ c.check.ensures), c.if-out-n.false)

pub returns-clause-value : goal.returns-clause-value
returns-clause-value c = (written c.args.text.now c.args.out.now c.in_ok-n.n (sym c.in_ok-n.was ∙ c.check.ensures) c.if-out-n.false).0

pub returns-clause-out_after : goal.returns-clause-out_after
returns-clause-out_after c = c.put_body.ensures ∙ (written c.args.text.now c.args.out.now c.in_ok-n.n (sym c.in_ok-n.was ∙ c.check.ensures) c.if-out-n.false).1
