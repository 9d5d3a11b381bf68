-- The reply of growth on an accepted source of n taxa: the list's check, then the growth.
use Rattle.std.specs.Prelude.{ℕ, ◌-◌, [], ◌∷◌}
use Rattle.statement.specs.declared.Splits.{Splits}
use Rattle.statement.specs.Outcomes.{Growth}
use Rattle.statement.specs.Growing.{Manner, grown}
use Rattle.statement.specs.Refusals.{outcome_of, list_off}
use Rattle.statement.specs.Calls.{unless_refused, refused_growth}

unfoldable pub growth_on : Manner → ℕ → Splits → ℕ → Growth
growth_on g n s allowance =
    let o = outcome_of (list_off g.most n s ∷ []) in
    unless_refused o (refused_growth o s) (grown g (n - s.taxa) allowance 0 s)
