-- Refused before the clusters, or read.
use Rattle.std.proofs.Common.{rules, ◌≡◌, ◌∙◌}
use Rattle.std.specs.Prelude.{Err}
use Rattle.statement.specs.Replies.{reading_said}
use Rattle.tree_read.proofs.Replies.{first_refused}
use Rattle.tree_read.proofs.read_tree.Goals as goal

pub returns-in_err-check : goal.returns-in_err-check
returns-in_err-check c =
    let told : reading_said c.from_residual.result ≡ reading_said (Err c.in_err-check.field-0.0) = search rules in
    told ∙ first_refused c.args.n c.args.body.now _ c.in_err-check.ensures
