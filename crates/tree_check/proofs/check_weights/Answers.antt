-- The word at a weight's place is that weight.
use Rattle.std.proofs.Common.{rules}
use native.Mathlib.Omega.{arith}
use Rattle.statement.specs.Bytes.{from_bytes}
use Rattle.tree_body.proofs.Body.{word_at_law}
use Rattle.tree_check.specs.Parts.{bad_weight}
use Rattle.tree_check.proofs.check_weights.Goals as goal

pub returns : goal.returns
returns c =
    let bytes = c.args.bytes.now in
    c.refuse.ensures (bad_weight (from_bytes bytes)) (λ v l r e. rw (word_at_law bytes v (omega arith)) (search rules))
