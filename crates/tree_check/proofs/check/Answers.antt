-- Each way out is a law of the list of checks.
use Rattle.std.proofs.Common.{rules, refl, ◌≡◌, sym, ◌∙◌}
use native.Mathlib.Omega.{arith}
use Rattle.std.proofs.lemmas.Grind.{common_steps}
use Rattle.statement.specs.Replies.{said, refused_for}
use Rattle.tree_check.proofs.Tested.{fits_long}
use Rattle.tree_check.proofs.Ways.{first_outcome, shaped, wrong_weight, weights_good, wrong_walk, walks_good, home_outcome}
use Rattle.tree_check.proofs.check.Goals as goal

pub returns-then-n-lt2 : goal.returns-then-n-lt2
returns-then-n-lt2 c = grind (arith, common_steps, first_outcome c.args.n c.args.body.now _ refl)

pub returns-then-not-tree_fits : goal.returns-then-not-tree_fits
returns-then-not-tree_fits c = grind (arith, common_steps, first_outcome c.args.n c.args.body.now _ refl)

pub bounds-body-0 : goal.bounds-body-0
bounds-body-0 c = omega (arith, fits_long _ _ (sym c.if-not-tree_fits.false ∙ c.tree_fits.ensures))

pub returns-then-body-n : goal.returns-then-body-n
returns-then-body-n c = grind (arith, common_steps, first_outcome c.args.n c.args.body.now c.from-m.result c.from-m.ensures)

pub returns-in_err-check_weights : goal.returns-in_err-check_weights
returns-in_err-check_weights c =
    let a = c.args in
    let shape = shaped a.n a.body.now c.from-m.result c.if-n-lt2.false c.if-n-gt64.false (sym c.tree_fits.ensures ∙ c.if-not-tree_fits.false) c.from-m.ensures c.if-body-n.false
    (sym c.some_above.ensures ∙ c.if-some_above.false) in
    let told : said c.from_residual.result ≡ refused_for c.in_err-check_weights.field-0.0 = search rules in
    told ∙ wrong_weight a.n a.body.now _ shape _ c.weights_in.ensures _ c.in_err-check_weights.ensures

pub returns-in_err-check_walks : goal.returns-in_err-check_walks
returns-in_err-check_walks c =
    let a = c.args in
    let shape = shaped a.n a.body.now c.from-m.result c.if-n-lt2.false c.if-n-gt64.false (sym c.tree_fits.ensures ∙ c.if-not-tree_fits.false) c.from-m.ensures c.if-body-n.false
    (sym c.some_above.ensures ∙ c.if-some_above.false) in
    let weighed = weights_good a.n a.body.now _ shape _ c.weights_in.ensures c.in_ok-check_weights.ensures in
    let told : said c.from_residual-in_err-check_walks.result ≡ refused_for c.in_err-check_walks.field-0.0 = search rules in
    told ∙ wrong_walk a.n a.body.now _ shape _ c.links_in.ensures _ weighed _ c.in_err-check_walks.ensures

pub returns-then-from-m : goal.returns-then-from-m
returns-then-from-m c =
    let a = c.args in
    let shape = shaped a.n a.body.now c.from-m.result c.if-n-lt2.false c.if-n-gt64.false (sym c.tree_fits.ensures ∙ c.if-not-tree_fits.false) c.from-m.ensures c.if-body-n.false
    (sym c.some_above.ensures ∙ c.if-some_above.false) in
    let weighed = weights_good a.n a.body.now _ shape _ c.weights_in.ensures c.in_ok-check_weights.ensures in
    let walked = walks_good a.n a.body.now _ shape _ c.links_in.ensures _ weighed c.in_ok-check_walks.ensures in
    let home = home_outcome a.n a.body.now _ shape _ c.from.ensures in
    grind (arith, common_steps, walked, home)

pub returns : goal.returns
returns c =
    let a = c.args in
    let shape = shaped a.n a.body.now c.from-m.result c.if-n-lt2.false c.if-n-gt64.false (sym c.tree_fits.ensures ∙ c.if-not-tree_fits.false) c.from-m.ensures c.if-body-n.false
    (sym c.some_above.ensures ∙ c.if-some_above.false) in
    let weighed = weights_good a.n a.body.now _ shape _ c.weights_in.ensures c.in_ok-check_weights.ensures in
    let walked = walks_good a.n a.body.now _ shape _ c.links_in.ensures _ weighed c.in_ok-check_walks.ensures in
    let home = home_outcome a.n a.body.now _ shape _ c.from.ensures in
    grind (arith, common_steps, walked, home)
