-- GROWTH WITH AN ALLOWANCE, from any well-formed list: the list stays well-formed, an allowance of 247 adds a taxon where one remains, and
-- growing twice is growing once. Assumes nothing.
use Prim.Native.Nat.{ℕ, zero, suc, ◌+◌, ◌-◌, ◌≤◌, ◌<◌}
use native.Mathlib.Omega.{arith}
use native.Mathlib.Decide.{dec_le}
use mathlib.Core.Path.{◌≡◌, refl, sym, ◌∙◌, ap, ap₂, subst}
use mathlib.Core.Bool.{Bool, true, false, cond}
use mathlib.Core.List.{List}
use lib.Dec.{leb}
use lib.ListN.{length}
use Rattle.statement.specs.declared.Splits.{Splits}
use Rattle.statement.specs.Outcomes.{Growth, Short}
use Rattle.statement.specs.Rows.{Row, clusters, rows_of, list_of, WellFormed}
use Rattle.statement.specs.Growing.{Manner, grown_rows, larger, cost, grown}
use Rattle.statement.proofs.Rule.{Rule}
use Rattle.statement.proofs.Answer.{Clean}
use Rattle.statement.proofs.Lists.{rows_of_list}
use Rattle.statement.proofs.Enlarged.{Sound, WellRows, enlarged_well}
use Rattle.statement.proofs.Run.{rows_few, parents_few, one_none, grown_covered, grown_short}

pub well_rows : (most n : ℕ) (s : Splits) → WellFormed most n s → WellRows most s.taxa (rows_of s)
well_rows most n s w = record { clean = record { up = w.up; free = w.free; clean = w.clean }; weigh = w.weigh }

pub rows_well : (most n k : ℕ) (rows : List Row) → 2 ≤ k → k ≤ n → WellRows most k rows → WellFormed most n (list_of k rows)
unfolding list_of
rows_well most n k rows two fits w =
    let e = rows_of_list k rows in
    record {
      one = omega arith;
      taxa = fits;
      few = omega (arith, rows_few most k rows two w);
      up = rw e w.clean.up;
      free = rw e w.clean.free;
      weigh = rw e w.weigh;
      clean = rw e w.clean.clean;
    }

-- a growth, with more trials spent before it
abbrev pub counted : ℕ → Growth → Growth
counted more g = record { outcome = g.outcome; list = g.list; trials = more + g.trials }

module _ (g : Manner) where
  more_taxa : (s : Splits) → (larger g s).taxa ≡ suc s.taxa
  unfolding list_of
  more_taxa s = refl

  -- what is spent before is counted in, and changes nothing else
  pub grown_spent : (f left spent more : ℕ) (s : Splits) → grown g f left (more + spent) s ≡ counted more (grown g f left spent s)
  unfolding grown
  grown_spent zero left spent more s = refl
  grown_spent (suc f) left spent more s =
      go (leb (cost g s) left) (ap (λ (m : ℕ). grown g f (left - cost g s) m (larger g s)) (omega arith)
      ∙ grown_spent f (left - cost g s) (spent + cost g s) more (larger g s))
    where
      go : (b : Bool) → grown g f (left - cost g s) (more + spent + cost g s) (larger g s)
          ≡ counted more (grown g f (left - cost g s) (spent + cost g s) (larger g s))
          → cond b (grown g f (left - cost g s) (more + spent + cost g s) (larger g s)) (record { outcome = Short; list = s; trials = more + spent })
          ≡ counted more (cond b (grown g f (left - cost g s) (spent + cost g s) (larger g s)) (record { outcome = Short; list = s; trials = spent }))
      go true ih = ih
      go false ih = refl

  -- a growth either covers the next taxon or stops short of it
  data Turn (f left : ℕ) (s : Splits) : Type 0 where
    covers : cost g s ≤ left → grown g (suc f) left 0 s ≡ counted (cost g s) (grown g f (left - cost g s) 0 (larger g s)) → Turn f left s
    stops : left < cost g s → grown g (suc f) left 0 s ≡ record { outcome = Short; list = s; trials = 0 } → Turn f left s

  turn : (f left : ℕ) (s : Splits) → Turn f left s
  turn f left s = go (dec_le (cost g s) left)
    where
      go : Dec (cost g s ≤ left) → Turn f left s
      go (yes h) =
          covers h (grown_covered g f left 0 s h
          ∙ ap (λ (m : ℕ). grown g f (left - cost g s) m (larger g s)) (omega arith)
          ∙ grown_spent f (left - cost g s) 0 (cost g s) (larger g s))
      go (no h) = let l : left < cost g s = omega arith in stops l (grown_short g f left 0 s l)

  -- taxa are only added
  pub grown_taxa : (f left : ℕ) (s : Splits) → (s.taxa ≤ (grown g f left 0 s).list.taxa) × ((grown g f left 0 s).list.taxa ≤ s.taxa + f)
  unfolding grown
  grown_taxa zero left s = (omega arith, omega arith)
  grown_taxa (suc f) left s = go (turn f left s) (grown_taxa f (left - cost g s) (larger g s))
    where
      go : Turn f left s
          → ((larger g s).taxa ≤ (grown g f (left - cost g s) 0 (larger g s)).list.taxa) × ((grown g f (left - cost g s) 0 (larger g s)).list.taxa ≤ (larger g s).taxa + f)
          → (s.taxa ≤ (grown g (suc f) left 0 s).list.taxa) × ((grown g (suc f) left 0 s).list.taxa ≤ s.taxa + suc f)
      go (covers h e) ih = let q = ap (λ (y : Growth). y.list.taxa) e in (omega (arith, ih.0, more_taxa s), omega (arith, ih.1, more_taxa s))
      go (stops h e) ih = let q = ap (λ (y : Growth). y.list.taxa) e in (omega arith, omega arith)

  counted_none : (y : Growth) → y ≡ counted 0 y
  counted_none y = ap (λ (m : ℕ). record { outcome = y.outcome; list = y.list; trials = m }) (omega arith)

  -- GROWING TWICE, with allowances a and then b: growing once, with b and what the first growth spent of a. A rest of a that covered no taxon is lost
  abbrev pub Twice : ℕ → ℕ → Splits → Growth → Type 0
  Twice f b s y = grown g f (y.trials + b) 0 s ≡ counted y.trials (grown g (f - (y.list.taxa - s.taxa)) b 0 y.list)

  -- where the first growth ends at once
  at_once : (f b : ℕ) (s : Splits) → grown g f (0 + b) 0 s ≡ counted 0 (grown g (f - (s.taxa - s.taxa)) b 0 s)
  at_once f b s =
      let same : 0 + b ≡ b = omega arith in
      let all : f ≡ f - (s.taxa - s.taxa) = omega arith in
      ap (λ (l : ℕ). grown g f l 0 s) same ∙ counted_none (grown g f b 0 s) ∙ ap (λ (m : ℕ). counted 0 (grown g m b 0 s)) all

  -- where it covers a taxon, and so does the longer one
  one_more : (f b : ℕ) (s : Splits) (y : Growth) → (larger g s).taxa ≤ y.list.taxa → Twice f b (larger g s) y → Twice (suc f) b s (counted (cost g s) y)
  one_more f b s y low ih =
      let left : cost g s + y.trials + b - cost g s ≡ y.trials + b = omega arith in
      let spent : 0 + cost g s ≡ cost g s + 0 = omega arith in
      let fuel : f - (y.list.taxa - (larger g s).taxa) ≡ suc f - (y.list.taxa - s.taxa) = omega (arith, more_taxa s) in
      let again : Growth = grown g (suc f - (y.list.taxa - s.taxa)) b 0 y.list in
      let sum : cost g s + (y.trials + again.trials) ≡ cost g s + y.trials + again.trials = omega arith in
      grown_covered g f (cost g s + y.trials + b) 0 s (omega arith)
      ∙ ap₂ (λ (l m : ℕ). grown g f l m (larger g s)) left spent
      ∙ grown_spent f (y.trials + b) 0 (cost g s) (larger g s)
      ∙ ap (counted (cost g s)) (ih ∙ ap (λ (m : ℕ). counted y.trials (grown g m b 0 y.list)) fuel)
      ∙ ap (λ (m : ℕ). record { outcome = again.outcome; list = again.list; trials = m }) sum

  pub grown_twice : (f a b : ℕ) (s : Splits) → Twice f b s (grown g f a 0 s)
  unfolding grown
  grown_twice zero a b s = at_once 0 b s
  grown_twice (suc f) a b s = go (turn f a s) (grown_twice f (a - cost g s) b (larger g s))
    where
      go : Turn f a s → Twice f b (larger g s) (grown g f (a - cost g s) 0 (larger g s)) → Twice (suc f) b s (grown g (suc f) a 0 s)
      go (covers h e) ih =
          subst (Twice (suc f) b s) (sym e)
          (one_more f b s (grown g f (a - cost g s) 0 (larger g s)) (grown_taxa f (a - cost g s) (larger g s)).0 ih)
      go (stops h e) ih = subst (Twice (suc f) b s) (sym e) (at_once (suc f) b s)

-- FROM A WELL-FORMED LIST of a rule's source
module _ (r : Rule) (g : Manner) (sound : Sound r g) where
  pub larger_well : (n : ℕ) (s : Splits) → n ≤ r.taxa → s.taxa < n → WellFormed g.most n s → WellFormed g.most n (larger g s)
  larger_well n s fits more w =
      let w' = well_rows g.most n s w in
      rows_well g.most n (suc s.taxa) (grown_rows g s.taxa (rows_of s)) (omega (arith, w.one)) more
      (enlarged_well r g sound s.taxa (omega arith) w.one (rows_of s) w'.clean w')

  -- the list stays well-formed, for f taxa that remain
  pub grown_well : (n f left : ℕ) (s : Splits) → n ≤ r.taxa → s.taxa + f ≤ n → WellFormed g.most n s → WellFormed g.most n (grown g f left 0 s).list
  unfolding grown
  grown_well n zero left s fits more w = w
  grown_well n (suc f) left s fits more w =
      go (turn g f left s)
      (λ m. grown_well n f (left - cost g s) (larger g s) fits m (larger_well n s fits (omega arith) w))
    where
      go : Turn g f left s
          → ((larger g s).taxa + f ≤ n → WellFormed g.most n (grown g f (left - cost g s) 0 (larger g s)).list)
          → WellFormed g.most n (grown g (suc f) left 0 s).list
      go (covers h e) ih = subst (λ (y : Growth). WellFormed g.most n y.list) (sym e) (ih (omega (arith, more_taxa g s)))
      go (stops h e) ih = subst (λ (y : Growth). WellFormed g.most n y.list) (sym e) w

  -- the next taxon costs at most 247 trials
  pub cost_few : (n : ℕ) (s : Splits) → n ≤ 64 → s.taxa < n → WellFormed g.most n s → cost g s ≤ 247
  cost_few n s few more w = go (dec_le 2 s.taxa)
    where
      clean : Clean s.taxa (clusters (rows_of s))
      clean = (well_rows g.most n s w).clean

      go : Dec (2 ≤ s.taxa) → cost g s ≤ 247
      go (yes two) = omega (arith, parents_few r g sound s.taxa (rows_of s) two clean)
      go (no h) =
          let e : s.taxa ≡ 1 = omega (arith, w.one) in
          omega (arith, ap (λ (k : ℕ). length (g.parents k (rows_of s))) e, one_none r g sound (rows_of s) (subst (λ (k : ℕ). Clean k (clusters (rows_of s))) e clean))

  -- AN ALLOWANCE OF 247 always adds a taxon when one remains
  pub adds_one : (n f left : ℕ) (s : Splits) → n ≤ 64 → s.taxa < n → WellFormed g.most n s → 247 ≤ left
      → suc s.taxa ≤ (grown g (suc f) left 0 s).list.taxa
  adds_one n f left s few more w enough = go (turn g f left s)
    where
      go : Turn g f left s → suc s.taxa ≤ (grown g (suc f) left 0 s).list.taxa
      go (covers h e) = omega (arith, ap (λ (y : Growth). y.list.taxa) e, (grown_taxa g f (left - cost g s) (larger g s)).0, more_taxa g s)
      go (stops h e) = absurd (omega (arith, cost_few n s few more w))
