-- `run::run_table` meets its contract: refused by the table's checks, or run on it.
use Rattle.std.proofs.Common.{rules, ◌≡◌, ◌∙◌, ap, ap₂, ℕ, List}
use Rattle.statement.specs.Growing.{by_table, whole_run}
use Rattle.statement.specs.Refusals.{table_checks}
use Rattle.statement.specs.Calls.{empty_list, run_table, refused_run}
use Rattle.statement.specs.Replies.{growth_said, refused_for}
use Rattle.run.proofs.Laws.{run_refused, run_accepted}
use Rattle.run.proofs.run_table.Goals as goal

pub returns-in_err-read : goal.returns-in_err-read
unfolding run_table
returns-in_err-read c =
    let a = c.args in
    let e : growth_said (empty_list 0) c.from_residual.result ≡ refused_run (refused_for c.in_err-read.field-0.0) = search rules in
    e ∙ run_refused (table_checks a.n a.bytes.now) (by_table a.bytes.now) a.n _ c.in_err-read.ensures.said

pub returns : goal.returns
unfolding run_table
returns c =
    let a = c.args in
    let read = c.in_ok-read.ensures.ok in
    c.run.ensures
    ∙ ap₂ (λ (n : ℕ) (bytes : List ℕ). whole_run (by_table bytes) n) read.0 (ap (λ b. b.now) read.1)
    ∙ run_accepted (table_checks a.n a.bytes.now) (by_table a.bytes.now) a.n c.in_ok-read.ensures.said
