-- `run::grow_matrix` meets its contract: refused by the matrix's checks, or grown on it.
use Rattle.std.proofs.Common.{rules, ◌≡◌, ◌∙◌, ap, ap₂, ℕ, List}
use Rattle.statement.specs.Matrix.{distance}
use Rattle.statement.specs.Growing.{by_matrix}
use Rattle.statement.specs.Refusals.{matrix_checks}
use Rattle.statement.specs.Calls.{grow_matrix, refused_growth}
use Rattle.statement.specs.Replies.{growth_said, refused_for}
use Rattle.run.specs.Replies.{growth_on}
use Rattle.run.proofs.Laws.{grow_refused, grow_accepted}
use Rattle.run.proofs.grow_matrix.Goals as goal

pub returns-in_err-read : goal.returns-in_err-read
unfolding grow_matrix
returns-in_err-read c =
    let a = c.args in
    let e : growth_said a.s c.from_residual.result ≡ refused_growth (refused_for c.in_err-read.field-0.0) a.s = search rules in
    e ∙ grow_refused (matrix_checks a.n a.entries.now) (by_matrix (distance a.n a.entries.now)) a.n a.s a.allowance _ c.in_err-read.ensures.said

pub returns : goal.returns
unfolding grow_matrix
returns c =
    let a = c.args in
    let read = c.in_ok-read.ensures.ok in
    c.grow.ensures
    ∙ ap₂ (λ (n : ℕ) (entries : List ℕ). growth_on (by_matrix (distance n entries)) n a.s a.allowance) read.0 (ap (λ b. b.now) read.1)
    ∙ grow_accepted (matrix_checks a.n a.entries.now) (by_matrix (distance a.n a.entries.now)) a.n a.s a.allowance c.in_ok-read.ensures.said
