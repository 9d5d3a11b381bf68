-- `run::run_matrix` meets its contract: refused by the matrix's checks, or run on it.
use Rattle.std.proofs.Common.{rules, ◌≡◌, ◌∙◌, ap, ap₂, ℕ, List}
use Rattle.statement.specs.Matrix.{distance}
use Rattle.statement.specs.Growing.{by_matrix, whole_run}
use Rattle.statement.specs.Refusals.{matrix_checks}
use Rattle.statement.specs.Calls.{empty_list, run_matrix, refused_run}
use Rattle.statement.specs.Replies.{growth_said, refused_for}
use Rattle.run.proofs.Laws.{run_refused, run_accepted}
use Rattle.run.proofs.run_matrix.Goals as goal

pub returns-in_err-read : goal.returns-in_err-read
unfolding run_matrix
returns-in_err-read c =
    let a = c.args in
    let e : growth_said (empty_list 0) c.from_residual.result ≡ refused_run (refused_for c.in_err-read.field-0.0) = search rules in
    e ∙ run_refused (matrix_checks a.n a.entries.now) (by_matrix (distance a.n a.entries.now)) a.n _ c.in_err-read.ensures.said

pub returns : goal.returns
unfolding run_matrix
returns c =
    let a = c.args in
    let read = c.in_ok-read.ensures.ok in
    c.run.ensures
    ∙ ap₂ (λ (n : ℕ) (entries : List ℕ). whole_run (by_matrix (distance n entries)) n) read.0 (ap (λ b. b.now) read.1)
    ∙ run_accepted (matrix_checks a.n a.entries.now) (by_matrix (distance a.n a.entries.now)) a.n c.in_ok-read.ensures.said
