-- Growth under way: what remains, from the list t with left of the allowance and spent trials, completes the growth from s. Assumes nothing.
use Prim.Native.Nat.{ℕ, suc, ◌+◌, ◌-◌, ◌≤◌, ◌<◌}
use native.Mathlib.Omega.{arith}
use mathlib.Core.Path.{◌≡◌, refl, sym, ◌∙◌, ap, ap₂, subst}
use Rattle.statement.specs.declared.Splits.{Splits}
use Rattle.statement.specs.Outcomes.{Done, Short}
use Rattle.statement.specs.Rows.{list_of, WellFormed}
use Rattle.statement.specs.Growing.{Manner, larger, cost, grown}
use Rattle.statement.proofs.Run.{grown_covered, grown_short}

pub record Going (g : Manner) (n allowance : ℕ) (s t : Splits) (left spent : ℕ) : Type 0 where
  pub well : WellFormed g.most n t
  pub sum : left + spent ≡ allowance
  pub same : grown g (n - t.taxa) left spent t ≡ grown g (n - s.taxa) allowance 0 s

module _ (g : Manner) (n allowance : ℕ) (s : Splits) where
  pub going_from : WellFormed g.most n s → Going g n allowance s s allowance 0
  going_from w = record { well = w; sum = omega arith; same = refl }

  module _ (t : Splits) (left spent : ℕ) (inv : Going g n allowance s t left spent) where
    fuel : t.taxa < n → n - t.taxa ≡ suc (n - suc t.taxa)
    fuel l = omega arith

    pub going_done : n ≤ t.taxa → record { outcome = Done; list = t; trials = spent } ≡ grown g (n - s.taxa) allowance 0 s
    unfolding grown
    going_done l = let none : n - t.taxa ≡ 0 = omega arith in sym (ap (λ (f : ℕ). grown g f left spent t) none) ∙ inv.same

    pub going_short : t.taxa < n → left < cost g t → record { outcome = Short; list = t; trials = spent } ≡ grown g (n - s.taxa) allowance 0 s
    going_short l h =
        sym (ap (λ (f : ℕ). grown g f left spent t) (fuel l) ∙ grown_short g (n - suc t.taxa) left spent t h) ∙ inv.same

    -- one taxon more
    module _ (l : t.taxa < n) (u : Splits) (is : u ≡ larger g t) where
      pub more_taxa : u.taxa ≡ suc t.taxa
      unfolding list_of
      more_taxa = ap (λ (x : Splits). x.taxa) is

      pub going_turn : cost g t ≤ left → WellFormed g.most n (larger g t)
          → Going g n allowance s u (left - cost g t) (spent + cost g t)
      going_turn h w =
          let e : n - u.taxa ≡ n - suc t.taxa = omega (arith, more_taxa) in
          record {
            well = subst (WellFormed g.most n) (sym is) w;
            sum = omega (arith, inv.sum);
            same =
                ap₂ (λ (f : ℕ) (x : Splits). grown g f (left - cost g t) (spent + cost g t) x) e is
                ∙ sym (ap (λ (f : ℕ). grown g f left spent t) (fuel l) ∙ grown_covered g (n - suc t.taxa) left spent t h)
                ∙ inv.same;
          }
