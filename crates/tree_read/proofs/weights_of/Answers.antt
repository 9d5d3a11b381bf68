-- The weights passed are in their places.
use Rattle.std.proofs.Common.{◌≡◌, ◌<◌, length, get_or, length-set, sym, ◌∙◌}
use native.Mathlib.Omega.{arith}
use Rattle.statement.specs.Bytes.{from_bytes}
use Rattle.bits.proofs.Stored.{stored}
use Rattle.tree_body.proofs.Body.{word_at_law}
use Rattle.tree_read.proofs.weights_of.Goals as goal

pub loop-v-preserved : goal.loop-v-preserved
loop-v-preserved c =
    let l = c.loop-v in
    let b = c.args.bytes.now in
    let room : l.v < length l.weights = omega (arith, l.invariant.0) in (
      simp length-set l.invariant.0,
      stored (λ u w. w ≡ get_or (from_bytes b) u 0) l.weights l.v c.word_at.result room (c.word_at.ensures ∙ sym (word_at_law b l.v (omega arith))) l.invariant.1,
    )
