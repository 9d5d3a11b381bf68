-- `table::Table::read` meets its contract, one check after the other.
use Rattle.std.proofs.Common.{rules, ℕ, ◌≤◌, List, length, ◌≡◌, sym, ◌∙◌, ap, [], ◌∷◌}
use mathlib.Core.Logic.{⊎_elim}
use Rattle.statement.specs.Table.{choose}
use Rattle.statement.specs.Refusals.{outcome_of, table_checks, byte_off}
use Rattle.statement.specs.Replies.{said, refused_for}
use Rattle.statement.proofs.Accepted.{too_few, too_many, wrong_length, past_length, table_accepted}
use Rattle.table.proofs.Table.read.Goals as goal

pub returns-then-n-lt2-clause-said : goal.returns-then-n-lt2-clause-said
returns-then-n-lt2-clause-said c =
    ap refused_for c.at.ensures ∙ ⊎_elim (λ w. sym (too_few _ _ w)) (λ w. sym (too_many _ _ w.1)) c.then-n-lt2.either

pub returns-then-bytes-fours-clause-said : goal.returns-then-bytes-fours-clause-said
returns-then-bytes-fours-clause-said c =
    ap refused_for c.at-then-bytes-fours.ensures
    ∙ sym (wrong_length _ _ c.if-n-lt2.false c.if-n-gt64.false _ _ (λ e. c.if-bytes-fours.true (e ∙ sym c.fours.ensures)))

-- what the checks before the bytes leave
left : (n : ℕ) (bytes : List ℕ) {wanted : ℕ} → 2 ≤ n → n ≤ 64 → length bytes ≡ wanted → wanted ≡ choose n 4 → outcome_of (table_checks n bytes) ≡ outcome_of (byte_off bytes ∷ [])
left n bytes low high e f = past_length _ _ low high _ _ (e ∙ f)

pub returns-in_err-check_bytes-clause-said : goal.returns-in_err-check_bytes-clause-said
returns-in_err-check_bytes-clause-said c =
    (let e : said c.from_residual.result ≡ refused_for c.in_err-check_bytes.field-0.0 = search rules in e) ∙ c.in_err-check_bytes.ensures ∙ sym (left c.args.n c.args.bytes.now c.if-n-lt2.false c.if-n-gt64.false c.if-bytes-fours.false c.fours.ensures)

pub invariant_of-result : goal.invariant_of-result
invariant_of-result c =
    let n = c.args.n in
    let bytes = c.args.bytes.now in
    record { accepted = (table_accepted n bytes).0 (left n bytes c.if-n-lt2.false c.if-n-gt64.false c.if-bytes-fours.false c.fours.ensures ∙ sym c.in_ok-check_bytes.ensures) }

pub returns-clause-said : goal.returns-clause-said
returns-clause-said c =
    c.in_ok-check_bytes.ensures ∙ sym (left c.args.n c.args.bytes.now c.if-n-lt2.false c.if-n-gt64.false c.if-bytes-fours.false c.fours.ensures)
