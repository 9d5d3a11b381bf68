-- The replies of growth and of the whole run, for any checks of the source and any manner of growth. Assumes nothing.
use Rattle.std.proofs.Common.{ℕ, ◌-◌, ◌≡◌, sym, ◌∙◌, ap, subst, arith, true, false, List, [], ◌∷◌, ◌++◌}
use Rattle.statement.specs.declared.Splits.{Splits}
use Rattle.statement.specs.Outcomes.{Growth, Done, Refused}
use Rattle.statement.specs.declared.Refusal.{Refusal}
use Rattle.statement.specs.Rows.{list_of, well_formed, WellFormed}
use Rattle.statement.specs.Growing.{Manner, grown, whole_run}
use Rattle.statement.specs.Lowest.{lowest_from}
use Rattle.statement.specs.Refusals.{Check, outcome_of, list_off}
use Rattle.statement.specs.Calls.{unless_refused, refused_run, refused_growth}
use Rattle.statement.specs.Replies.{refused_for}
use Rattle.statement.proofs.Refused.{append_checks}
use Rattle.statement.proofs.Lists.{rows_of_list}
use Rattle.statement.proofs.Run.{grown_whole}
use Rattle.grow.specs.Source.{Grows}
use Rattle.run.specs.Replies.{growth_on}

-- THE LIST'S CHECK, and the growth
module _ (g : Manner) (n : ℕ) (s : Splits) (allowance : ℕ) where
  pub grow_unsound : well_formed g.most n s ≡ false → refused_growth (Refused 8 0) s ≡ growth_on g n s allowance
  unfolding growth_on outcome_of lowest_from
  grow_unsound e = rw e

  pub grow_sound : well_formed g.most n s ≡ true → grown g (n - s.taxa) allowance 0 s ≡ growth_on g n s allowance
  unfolding growth_on outcome_of lowest_from
  grow_sound e = rw e

-- THE WHOLE RUN from the empty list
module _ (g : Manner) (n : ℕ) (grows : Grows n g) (one : Splits) (is : one ≡ list_of 1 []) where
  pub start_well : WellFormed g.most n one
  unfolding list_of
  start_well =
      subst (WellFormed g.most n) (sym is)
      (let e = rows_of_list 1 [] in
      record {
        one = omega arith;
        taxa = omega (arith, grows.two);
        few = omega arith;
        up = rw e (omega arith);
        free = rw e (λ c m. absurd m);
        weigh = rw e (λ w m. absurd m);
        clean = rw e (λ a b m. absurd m);
      })

  pub run_whole : grown g (n - one.taxa) 7751 0 one ≡ whole_run g n
  unfolding list_of
  run_whole = ap (λ (s : Splits). grown g (n - s.taxa) 7751 0 s) is ∙ grown_whole g n 7751 (omega (arith, grows.two)) grows.covered

-- A CALL: the source's own checks, then the list's
abbrev pub grow_call : List Check → Manner → ℕ → Splits → ℕ → Growth
grow_call checks g n s allowance =
    let o = outcome_of (checks ++ (list_off g.most n s ∷ [])) in
    unless_refused o (refused_growth o s) (grown g (n - s.taxa) allowance 0 s)

abbrev pub run_call : List Check → Manner → ℕ → Growth
run_call checks g n = let o = outcome_of checks in unless_refused o (refused_run o) (whole_run g n)

module _ (checks : List Check) (g : Manner) (n : ℕ) where
  pub grow_refused : (s : Splits) (allowance : ℕ) (r : Refusal) → refused_for r ≡ outcome_of checks → refused_growth (refused_for r) s ≡ grow_call checks g n s allowance
  grow_refused s allowance r e = rw (append_checks checks (list_off g.most n s ∷ []), ← e)

  pub grow_accepted : (s : Splits) (allowance : ℕ) → Done ≡ outcome_of checks → growth_on g n s allowance ≡ grow_call checks g n s allowance
  unfolding growth_on
  grow_accepted s allowance e = rw (append_checks checks (list_off g.most n s ∷ []), ← e)

  pub run_refused : (r : Refusal) → refused_for r ≡ outcome_of checks → refused_run (refused_for r) ≡ run_call checks g n
  run_refused r e = rw (← e)

  pub run_accepted : Done ≡ outcome_of checks → whole_run g n ≡ run_call checks g n
  run_accepted e = rw (← e)
