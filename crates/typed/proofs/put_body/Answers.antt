-- `typed::put_body` meets its contract. The entries passed are pasted, four bytes each.
use Prim.Native.Nat.{ℕ, ◌+◌, ◌*◌}
use native.Mathlib.Omega.{arith}
use mathlib.Core.Path.{◌≡◌, ◌∙◌, ap}
use lib.ListN.{get_or}
use lib.Seq.{paste}
use Rattle.statement.specs.Bytes.{four_bytes, to_bytes}
use Rattle.tree_write.proofs.Body.{bytes_length}
use Rattle.tree_write.proofs.Stores.{word_more}
use Rattle.typed.specs.Typed.{values_in, entries_of}
use Rattle.typed.proofs.Body.{paste_whole}
use Rattle.typed.proofs.Entries.{entries_length}
use Rattle.typed.proofs.put_body.Goals as goal

pub loop-e-preserved : goal.loop-e-preserved
loop-e-preserved c =
    let a = c.args in
    let call = c.put_four in
    let values = values_in a.text.now in
    let entries = entries_of a.n values in
    let at : 4 * c.loop-e.e ≡ 0 + 4 * c.loop-e.e = omega arith in (
      call.auto.out ∙ c.loop-e.invariant.0,
      word_more a.out.now entries c.loop-e.out call.new.out 0 c.loop-e.e c.entry.result (omega arith)
          (omega (arith, entries_length a.n values)) c.loop-e.invariant.1
          (c.entry.ensures ∙ ap (λ (n : ℕ). get_or (entries_of n values) c.loop-e.e 0) c.of-shape.ensures.taxa)
          (call.ensures ∙ ap (λ (k : ℕ). paste c.loop-e.out k (four_bytes c.entry.result) 4) at),
    )

pub returns : goal.returns
returns c =
    let a = c.args in
    let entries = entries_of a.n (values_in a.text.now) in
    let end : 4 * c.loop-e.e ≡ 4 * (a.n * a.n) = omega arith in
    c.loop-e.invariant.1 ∙ ap (paste a.out.now 0 (to_bytes entries)) end
    ∙ paste_whole a.out.now (to_bytes entries) (4 * (a.n * a.n)) c.requires.1 (omega (arith, bytes_length entries, entries_length a.n (values_in a.text.now)))
