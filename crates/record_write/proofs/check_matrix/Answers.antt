-- `record_write::check_matrix` meets its contract: 1, 2, then the entries' own checks.
use Rattle.std.proofs.Common.{sym, ⊎_elim}
use Rattle.statement.proofs.Accepted.{too_few, too_many, wrong_length}
use Rattle.record_write.proofs.check_matrix.Goals as goal

pub returns-then-n-lt2 : goal.returns-then-n-lt2
returns-then-n-lt2 c = rw c.at.ensures (⊎_elim (λ w. sym (too_few _ _ w)) (λ w. sym (too_many _ _ w.1)) c.then-n-lt2.either)

pub returns-then-body-count : goal.returns-then-body-count
returns-then-body-count c = rw c.at-then-body-count.ensures (sym (wrong_length _ _ c.if-n-lt2.false c.if-n-gt64.false _ _ c.if-body-count.true))
