-- `newick_write::newick_length` meets its contract: a refused list, or the length.
use Rattle.std.proofs.Common.{rules, ◌≡◌, ◌∙◌, sym}
use Prim.Native.Nat.{ℕ}
use mathlib.Core.Path.{ap₂}
use Rattle.statement.specs.declared.Splits.{Splits}
use Rattle.statement.specs.Rows.{rows_of}
use Rattle.statement.specs.NewickText.{newick_length}
use Rattle.statement.specs.Replies.{said, refused_for}
use Rattle.splits_list.proofs.Whole.{taken}
use Rattle.newick_write.proofs.Ways.{length_checks}
use Rattle.newick_write.proofs.newick_length.Goals as goal

pub returns-in_err-check_whole-clause-said : goal.returns-in_err-check_whole-clause-said
returns-in_err-check_whole-clause-said c =
    let a = c.args in
    let told : said c.from_residual.result ≡ refused_for c.in_err-check_whole.field-0.0 = search rules in
    told ∙ c.in_err-check_whole.ensures ∙ length_checks a.n a.s

pub of-requires : goal.of-requires
of-requires c =
    let a = c.args in let ok = taken a.n a.s (sym c.in_ok-check_whole.ensures) in
    (ok.few, ok.well, ok.whole)

pub returns : goal.returns
returns c =
    let a = c.args in
    record { said = c.in_ok-check_whole.ensures ∙ length_checks a.n a.s; ok = c.length.ensures ∙ ap₂ (λ (k : ℕ) (t : Splits). newick_length k (rows_of t)) c.of.ensures.0 c.of.ensures.1 }
