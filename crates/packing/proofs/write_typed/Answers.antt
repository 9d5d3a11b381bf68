-- `packing::write_typed` meets its contract: the body is that of the typed matrix.
use Prim.Native.Nat.{ℕ}
use mathlib.Core.Path.{sym, ◌∙◌, ap₂}
use mathlib.Core.List.{List}
use Rattle.std.proofs.Common.{rules}
use Rattle.statement.specs.Calls.{write_record, record_written}
use Rattle.typed.proofs.Body.{written}
use Rattle.packing.proofs.write_typed.Goals as goal

pub unwrap-requires : goal.unwrap-requires
unwrap-requires c =
    let a = c.args in
    rw (c.write_body.ensures.value ∙ sym (written a.text.now a.body.now a.n c.requires.0 c.requires.1).0) (search rules)

pub returns-clause-value : goal.returns-clause-value
returns-clause-value c =
    let a = c.args in
    c.write_record.ensures.reply ∙ ap₂ (λ (k : ℕ) (b : List ℕ). write_record k a.n b a.out.now) c.code.ensures
    (c.write_body.ensures.out_after ∙ sym (written a.text.now a.body.now a.n c.requires.0 c.requires.1).1)

pub returns-clause-out_after : goal.returns-clause-out_after
returns-clause-out_after c =
    let a = c.args in
    c.write_record.ensures.contents ∙ ap₂ (λ (k : ℕ) (b : List ℕ). record_written k a.n b a.out.now) c.code.ensures
    (c.write_body.ensures.out_after ∙ sym (written a.text.now a.body.now a.n c.requires.0 c.requires.1).1)
