-- `Matrix::read` meets its contract, one check after the other.
use mathlib.Core.Path.{sym, ◌∙◌}
use mathlib.Core.Logic.{⊎_elim}
use Rattle.std.proofs.Common.{rules}
use Rattle.std.proofs.lemmas.Result.{err_from_is_err_and}
use Rattle.statement.specs.Refusals.{diagonal_off, distance_off, pair_off}
use Rattle.statement.proofs.Accepted.{too_few, too_many, wrong_length, matrix_accepted}
use Rattle.matrix.proofs.Checks.{refused_first, diagonal_line, distance_line, pair_line, entries_left, past_diagonal, past_distance}
use Rattle.matrix.proofs.Matrix.read.Goals as goal

pub returns-then-n-lt2-clause-said : goal.returns-then-n-lt2-clause-said
returns-then-n-lt2-clause-said c =
    rw c.at.ensures (⊎_elim (λ w. sym (too_few _ _ w)) (λ w. sym (too_many _ _ w.1)) c.then-n-lt2.either)

pub returns-then-entries-n-clause-said : goal.returns-then-entries-n-clause-said
returns-then-entries-n-clause-said c =
    rw c.at-then-entries-n.ensures (sym (wrong_length _ _ c.if-n-lt2.false c.if-n-gt64.false _ _ c.if-entries-n.true))

pub returns-in_err-check_entries-clause-said : goal.returns-in_err-check_entries-clause-said
returns-in_err-check_entries-clause-said c =
    let n = c.args.n in
    let es = c.args.entries.now in
    let p = err_from_is_err_and c.from_residual.result c.from_residual.ensures.1 in
    let here = c.in_err-check_entries.ensures (diagonal_off n es) (diagonal_line n es _ (λ i j r e. search rules)) in
    rw (p.1, p.2) (refused_first _ _ here ∙ entries_left n es c.if-n-lt2.false c.if-n-gt64.false c.if-entries-n.false)

pub returns-in_err-check_entries-2-clause-said : goal.returns-in_err-check_entries-2-clause-said
returns-in_err-check_entries-2-clause-said c =
    let n = c.args.n in
    let es = c.args.entries.now in
    let p = err_from_is_err_and c.from_residual-in_err-check_entries-2.result c.from_residual-in_err-check_entries-2.ensures.1 in
    let first = c.in_ok-check_entries.ensures (diagonal_off n es) (diagonal_line n es _ (λ i j r e. search rules)) in
    let here = c.in_err-check_entries-2.ensures (distance_off n es) (distance_line n es _ (λ i j r e. search rules)) in
    rw (p.1, p.2) (refused_first _ _ here ∙ past_diagonal n es c.if-n-lt2.false c.if-n-gt64.false c.if-entries-n.false first)

pub returns-in_err-check_entries-3-clause-said : goal.returns-in_err-check_entries-3-clause-said
returns-in_err-check_entries-3-clause-said c =
    let n = c.args.n in
    let es = c.args.entries.now in
    let p = err_from_is_err_and c.from_residual-in_err-check_entries-3.result c.from_residual-in_err-check_entries-3.ensures.1 in
    let first = c.in_ok-check_entries.ensures (diagonal_off n es) (diagonal_line n es _ (λ i j r e. search rules)) in
    let second = c.in_ok-check_entries-2.ensures (distance_off n es) (distance_line n es _ (λ i j r e. search rules)) in
    let here = c.in_err-check_entries-3.ensures (pair_off n es) (pair_line n es _ (λ i j r e. search rules)) in
    rw (p.1, p.2) (here ∙ past_distance n es c.if-n-lt2.false c.if-n-gt64.false c.if-entries-n.false first second)

pub invariant_of-result : goal.invariant_of-result
invariant_of-result c =
    let n = c.args.n in
    let es = c.args.entries.now in
    let first = c.in_ok-check_entries.ensures (diagonal_off n es) (diagonal_line n es _ (λ i j r e. search rules)) in
    let second = c.in_ok-check_entries-2.ensures (distance_off n es) (distance_line n es _ (λ i j r e. search rules)) in
    let third = c.in_ok-check_entries-3.ensures (pair_off n es) (pair_line n es _ (λ i j r e. search rules)) in
    record { accepted = (matrix_accepted n es).0 (sym (third ∙ past_distance n es c.if-n-lt2.false c.if-n-gt64.false c.if-entries-n.false first second)) }

pub returns-clause-said : goal.returns-clause-said
returns-clause-said c =
    let n = c.args.n in
    let es = c.args.entries.now in
    let first = c.in_ok-check_entries.ensures (diagonal_off n es) (diagonal_line n es _ (λ i j r e. search rules)) in
    let second = c.in_ok-check_entries-2.ensures (distance_off n es) (distance_line n es _ (λ i j r e. search rules)) in
    let third = c.in_ok-check_entries-3.ensures (pair_off n es) (pair_line n es _ (λ i j r e. search rules)) in
    third ∙ past_distance n es c.if-n-lt2.false c.if-n-gt64.false c.if-entries-n.false first second
