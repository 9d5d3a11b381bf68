-- `newick_out::list_in` meets its contract, by its ways out (Lists).
use Rattle.std.proofs.Common.{rules, ◌≡◌, sym, ◌∙◌, ap, ap₂}
use Rattle.std.specs.Prelude.{Err}
use Rattle.statement.specs.Said.{code_of_kind}
use Rattle.statement.specs.Calls.{read_tree}
use Rattle.statement.specs.Replies.{reading_said}
use Rattle.newick_out.proofs.Lists.{list_refused, list_tree, list_run_refused, list_run, no_tree}
use Rattle.newick_out.proofs.list_in.Goals as goal

pub returns-in_err-found : goal.returns-in_err-found
returns-in_err-found c =
    let told : reading_said c.from_residual.result ≡ reading_said (Err c.in_err-found.field-0.0) = search rules in
    told ∙ list_refused _ c.in_err-found.field-0.0 c.in_err-found.ensures.said

pub returns-in-Tree : goal.returns-in-Tree
returns-in-Tree c =
    let h = c.in_ok-found.ensures.ok in
    c.read_tree.ensures ∙ ap₂ read_tree h.taxa h.contents ∙ list_tree _ (sym c.in_ok-found.ensures.said) (sym h.kind_is ∙ ap code_of_kind c.in-Tree.is)

pub returns-in_err-run_record-in-Matrix : goal.returns-in_err-run_record-in-Matrix
returns-in_err-run_record-in-Matrix c =
    let no = c.in_err-run_record-in-Matrix in
    let told : reading_said c.from_residual-in_err-run_record-in-Matrix.result ≡ reading_said (Err no.field-0.0) = search rules in
    told
    ∙ list_run_refused _ (sym c.in_ok-found.ensures.said) (no_tree _ _ c.in-Matrix.is c.in_ok-found.ensures.ok.kind_is) no.field-0.0 no.ensures

pub returns-in_ok-run_record-in-Matrix : goal.returns-in_ok-run_record-in-Matrix
returns-in_ok-run_record-in-Matrix c =
    let done = c.in_ok-run_record-in-Matrix in
    list_run _ (sym c.in_ok-found.ensures.said) (no_tree _ _ c.in-Matrix.is c.in_ok-found.ensures.ok.kind_is) done.field-0 done.ensures
