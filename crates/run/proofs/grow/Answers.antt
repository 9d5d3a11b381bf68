-- `run::grow` meets its contract: refused by the list's check, or grown.
use Rattle.std.proofs.Common.{rules, ◌≡◌, sym, ◌∙◌, ap, ap₂, ℕ, length}
use Rattle.statement.specs.Rows.{well_formed}
use Rattle.statement.specs.Replies.{refused_for}
use Rattle.statement.specs.Calls.{refused_growth}
use Rattle.statement.proofs.WellFormed.{well_formed_is}
use Rattle.run.proofs.Laws.{grow_unsound, grow_sound}
use Rattle.run.proofs.grow.Goals as goal

pub returns-then-not-well_formed : goal.returns-then-not-well_formed
returns-then-not-well_formed g c =
    let s = c.args.s in
    let tested = c.well_formed-2.ensures ∙ ap₂ (λ (most n : ℕ). well_formed most n c.args.s) c.most.ensures c.taxa.ensures in
    ap (λ r. refused_growth (refused_for r) s) c.at.ensures ∙ grow_unsound _ _ s _ (sym tested ∙ c.if-not-well_formed.true)

pub grow_taxa-requires : goal.grow_taxa-requires
grow_taxa-requires g c =
    let s = c.args.s in
    let tested = c.well_formed-2.ensures ∙ ap₂ (λ (most n : ℕ). well_formed most n c.args.s) c.most.ensures c.taxa.ensures in
    let hc : length s.clusters ≡ 125 = search rules in
    let hw : length s.weights ≡ 125 = search rules in
    (well_formed_is _ _ s hc hw (g.met.S.Source.grows c.args.source.now).few).0 (sym tested ∙ c.if-not-well_formed.false)

pub returns : goal.returns
returns g c =
    let tested = c.well_formed-2.ensures ∙ ap₂ (λ (most n : ℕ). well_formed most n c.args.s) c.most.ensures c.taxa.ensures in
    c.grow_taxa.ensures ∙ grow_sound _ _ _ _ (sym tested ∙ c.if-not-well_formed.false)
