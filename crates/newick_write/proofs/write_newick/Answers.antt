-- `newick_write::write_newick` meets its contract: each way out is a law of such calls.
use borrow.Author.Rules.{rules}
use Prim.Native.Nat.{ℕ}
use Rattle.statement.specs.Replies.{said, refused_for}
use mathlib.Core.Path.{◌≡◌, sym, ◌∙◌, ap, ap₂}
use lib.Seq.{sets}
use Rattle.statement.specs.declared.Splits.{Splits}
use lib.ListN.{length}
use Rattle.statement.specs.Rows.{rows_of}
use Rattle.statement.specs.NewickText.{newick_of, newick_length}
use Rattle.statement.specs.Calls.{write_newick, newick_written}
use Rattle.splits_list.proofs.Whole.{taken, list_off_law, size_off, accepted}
use Rattle.newick_write.proofs.Given.{sets_whole}
use Rattle.newick_write.proofs.write_newick.Goals as goal

pub returns-in_err-check_whole : goal.returns-in_err-check_whole
unfolding write_newick newick_written
returns-in_err-check_whole c =
    let a = c.args in
    let told : said c.from_residual.result ≡ refused_for c.in_err-check_whole.field-0.0 = search rules in
    let off = list_off_law a.n a.s a.out.now _ _ _ c.in_err-check_whole.ensures in
    record { value = told ∙ off.0; out_after = off.1 }

pub of-tree-requires : goal.of-tree-requires
of-tree-requires c =
    let a = c.args in let ok = taken a.n a.s (sym c.in_ok-check_whole.ensures) in
    (ok.few, ok.well, ok.whole)

pub returns-then-out-len : goal.returns-then-out-len
unfolding write_newick newick_written
returns-then-out-len c =
    let a = c.args in
    let long = c.length-len.ensures ∙ ap₂ (λ (k : ℕ) (t : Splits). newick_length k (rows_of t)) c.of-tree.ensures.0 c.of-tree.ensures.1 in
    let told = size_off a.n a.s a.out.now _ _ (sym c.in_ok-check_whole.ensures) (λ e. c.if-out-len.true (e ∙ sym long)) in
    record { value = ap refused_for c.at.ensures ∙ told.0; out_after = told.1 }

pub returns : goal.returns
unfolding write_newick newick_written
returns c =
    let a = c.args in
    let none = sym c.in_ok-check_whole.ensures in
    let same : newick_of c.of-tree.result.n (rows_of c.of-tree.result.list.now) ≡ newick_of a.n (rows_of a.s) = ap₂ (λ (k : ℕ) (t : Splits). newick_of k (rows_of t)) c.of-tree.ensures.0 c.of-tree.ensures.1 in
    let size : length a.out.now ≡ length (newick_of a.n (rows_of a.s)) =
    c.if-out-len.false ∙ c.length-len.ensures ∙ ap₂ (λ (k : ℕ) (t : Splits). newick_length k (rows_of t)) c.of-tree.ensures.0 c.of-tree.ensures.1 in
    let told = accepted a.n a.s a.out.now _ _ none size c.put.new.out
    (c.put.ensures.0 ∙ ap (sets a.out.now 0) same ∙ sets_whole (newick_of a.n (rows_of a.s)) a.out.now size) in
    record { value = told.0; out_after = told.1 }
