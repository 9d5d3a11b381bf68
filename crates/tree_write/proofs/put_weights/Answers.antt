-- `tree_write::put_weights` meets its contract: the weights passed are pasted, four bytes each.
use Prim.Native.Nat.{◌*◌}
use native.Mathlib.Omega.{arith}
use mathlib.Core.Path.{◌≡◌, refl, sym, ◌∙◌, ap}
use lib.Seq.{paste, paste-zero}
use borrow.Author.Rules.{rules}
use Rattle.statement.specs.Rows.{weights, rows_of}
use Rattle.statement.specs.Bytes.{to_bytes}
use Rattle.statement.proofs.WellFormed.{Roomy, weights_front}
use Rattle.tree_write.proofs.Stores.{word_more}
use Rattle.tree_write.proofs.put_weights.Goals as goal

pub loop-i-init : goal.loop-i-init
loop-i-init c = let a = c.args in (refl, paste-zero a.out.now a.at (to_bytes (weights (rows_of a.s.now))))

pub loop-i-preserved : goal.loop-i-preserved
loop-i-preserved c =
    let room : Roomy c.args.s.now =
    record { clusters = search rules; weights = search rules; rows = c.requires.0 } in
    let call = c.put_four in
    let front = weights_front c.args.s.now room in (
      call.auto.out ∙ c.loop-i.invariant.0,
      word_more c.args.out.now (weights (rows_of c.args.s.now)) c.loop-i.out call.new.out c.args.at c.loop-i.i _ (omega arith)
          (omega (arith, front.long)) c.loop-i.invariant.1 (sym (front.at c.loop-i.i (omega arith))) call.ensures,
    )

pub returns : goal.returns
returns c =
    let a = c.args in
    let end : 4 * c.loop-i.i ≡ 4 * a.s.now.rows = omega arith in
    c.loop-i.invariant.1 ∙ ap (paste a.out.now a.at (to_bytes (weights (rows_of a.s.now)))) end
