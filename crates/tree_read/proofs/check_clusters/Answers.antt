-- Two lines of the table: 12, then 13.
use Rattle.std.proofs.Common.{rules, ◌≡◌, get_or, sym, ◌∙◌, ℕ}
use lib.Dec.{eqb}
use Rattle.statement.specs.Replies.{said, refused_for}
use Rattle.places.proofs.Orders.{refused_first, passed_on}
use Rattle.tree_read.specs.Columns.{twinned}
use Rattle.tree_read.proofs.check_clusters.Goals as goal

pub returns-in_err-refuse : goal.returns-in_err-refuse
returns-in_err-refuse c =
    let cs = c.args.clusters.now in
    let told : said c.from_residual.result ≡ refused_for c.in_err-refuse.field-0.0 = search rules in
    told ∙ refused_first _ _ _ (c.in_err-refuse.ensures (λ (v : ℕ). eqb (get_or cs v 0) 0) (λ v l r e. search rules))

pub returns : goal.returns
returns c =
    let cs = c.args.clusters.now in
    c.refuse-2.ensures (twinned cs) (λ v l r e. search rules)
    ∙ sym (passed_on _ _ (c.in_ok-refuse.ensures (λ (v : ℕ). eqb (get_or cs v 0) 0) (λ v l r e. search rules)))
