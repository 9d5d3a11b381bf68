-- 1, 19, or a sentence.
use mathlib.Core.Path.{◌∙◌, ap}
use Rattle.std.specs.Prelude.{Err}
use Rattle.statement.specs.declared.Refusal.{Refusal}
use Rattle.statement.specs.Replies.{reading_said}
use Rattle.newick_reading.proofs.Reply.{taxa_reply, taxa_few, taxa_many, text_reply}
use Rattle.newick_meaning.proofs.Parses.{parsed_bad}
use Rattle.newick_read.proofs.read_newick.Goals as goal
use Rattle.newick_read.proofs.read_newick.Goals.{then-n-lt2-via-then-n-lt2, then-n-lt2-via-else-n-lt2+then-n-gt64}

pub returns-then-n-lt2 : goal.returns-then-n-lt2
returns-then-n-lt2 c =
    let a = c.args in
    elim c.then-n-lt2.branch [
      | then-n-lt2-via-then-n-lt2 w ↦ ap (λ (r : Refusal). reading_said (Err r)) c.at.ensures ∙ taxa_reply a.n a.text.now (taxa_few a.n w.if-n-lt2.true)
      | then-n-lt2-via-else-n-lt2+then-n-gt64 w ↦ ap (λ (r : Refusal). reading_said (Err r)) c.at.ensures ∙ taxa_reply a.n a.text.now (taxa_many a.n w.if-n-gt64.true)
    ]

pub returns-in-Err : goal.returns-in-Err
returns-in-Err c =
    let a = c.args in let k = c.in-Err in
    ap (λ (r : Refusal). reading_said (Err r)) c.at-in-Err.ensures
    ∙ text_reply a.n c.if-n-lt2.false c.if-n-gt64.false a.text.now k.place (parsed_bad a.text.now k.place k.ensures.result_in_bounds k.ensures.start_value)
