-- THE WHOLE RUN of a rule: it ends with the full answer, within 2n² - 7n + 7 trials, and growth from the empty list is the same run. Assumes nothing.
use Prim.Native.Nat.{ℕ, zero, suc, ◌+◌, ◌*◌, ◌-◌, ◌≤◌, ◌<◌}
use native.Mathlib.Omega.{arith}
use mathlib.Core.Path.{◌≡◌, refl, sym, ◌∙◌, ap, ap₂}
use mathlib.Core.Logic.{inl}
use mathlib.Core.List.{List, [], ◌∷◌}
use lib.ListN.{length, length-map}
use borrow.Author.Tests.{le-leb, lt-leb}
use Rattle.statement.specs.declared.Splits.{Splits}
use Rattle.statement.specs.Outcomes.{Done, Short}
use Rattle.statement.specs.Rows.{Row, clusters, rows_of, list_of}
use Rattle.statement.specs.Growing.{Manner, grown_rows, larger, cost_of, cost, grown, rows_at, trials_at, whole_run}
use Rattle.statement.proofs.Rule.{Rule}
use Rattle.statement.proofs.Full.{full_one, full_well, well_length}
use Rattle.statement.proofs.Answer.{Clean}
use Rattle.statement.proofs.Bits.{bit_zero}
use Rattle.statement.proofs.Listed.{asc_mem}
use Rattle.statement.proofs.Lists.{rows_of_list}
use Rattle.statement.proofs.Enlarged.{Sound, WellRows, FullRows, enlarged_well, enlarged_full}

-- rows without conflict are few: at most 2k-3
pub rows_few : (most k : ℕ) (rows : List Row) → 2 ≤ k → WellRows most k rows → length rows + 3 ≤ 2 * k
rows_few most k rows two w = omega (arith, well_length k (clusters rows) two w.clean, length-map rows (λ r. r.cluster))

pub no_rows : (most : ℕ) → WellRows most 1 []
no_rows most =
    record {
      clean = record { up = omega arith; free = λ c m. absurd m; clean = λ a b m. absurd m };
      weigh = λ w m. absurd m;
    }

module _ (r : Rule) (g : Manner) (sound : Sound r g) where
  pub run_full : (k : ℕ) → 0 < k → k ≤ r.taxa → FullRows r k (rows_at g k)
  unfolding rows_at
  run_full zero pk fits = absurd (omega arith)
  run_full (suc zero) pk fits = record { full = full_one r; weights = λ c m. absurd m }
  run_full (suc (suc k)) pk fits =
      let f = run_full (suc k) (omega arith) (omega arith) in
      enlarged_full r g sound (suc k) fits (omega arith) (rows_at g (suc k)) (full_well r sound.laws (suc k) (omega arith) (clusters (rows_at g (suc k))) f.full) f

  pub run_well : (k : ℕ) → 0 < k → k ≤ r.taxa → WellRows g.most k (rows_at g k)
  unfolding rows_at
  run_well zero pk fits = absurd (omega arith)
  run_well (suc zero) pk fits = no_rows g.most
  run_well (suc (suc k)) pk fits =
      let w = run_well (suc k) (omega arith) (omega arith) in
      enlarged_well r g sound (suc k) fits (omega arith) (rows_at g (suc k)) w.clean w

  pub run_few : (k : ℕ) → 2 ≤ k → k ≤ r.taxa → length (rows_at g k) + 3 ≤ 2 * k
  run_few k two fits = rows_few g.most k (rows_at g k) two (run_well k (omega arith) fits)

  -- what is extended is few too
  pub parents_few : (k : ℕ) (rows : List Row) → 2 ≤ k → Clean k (clusters rows) → length (g.parents k rows) + 3 ≤ 2 * k
  parents_few k rows two w = omega (arith, well_length k (clusters (g.parents k rows)) two (sound.extends k rows w).clean, length-map (g.parents k rows) (λ r. r.cluster))

  pub one_none : (rows : List Row) → Clean 1 (clusters rows) → length (g.parents 1 rows) ≡ 0
  one_none rows w = sym (length-map (g.parents 1 rows) (λ r. r.cluster)) ∙ none (clusters (g.parents 1 rows)) (sound.extends 1 rows w).clean
    where
      none : (cs : List ℕ) → Clean 1 cs → length cs ≡ 0
      none [] c = refl
      none (x ∷ xs) c =
          let b = asc_mem 1 2 (x ∷ xs) c.up x (inl refl) in
          absurd (omega (arith, b, c.free x (inl refl), bit_zero x))

  cost_few : (k : ℕ) → 2 ≤ k → k ≤ r.taxa → length (g.parents k (rows_at g k)) + 3 ≤ 2 * k
  cost_few k two fits = parents_few k (rows_at g k) two (run_well k (omega arith) fits).clean

  -- THE TRIALS of the run itself: at most 2n² - 7n + 7
  run_trials : (m : ℕ) → suc (suc m) ≤ r.taxa → trials_at g (suc (suc m)) + 7 * suc (suc m) ≤ 2 * (suc (suc m) * suc (suc m)) + 7
  unfolding trials_at rows_at
  run_trials zero fits = omega (arith, one_none [] (no_rows g.most).clean)
  run_trials (suc m) fits = omega (arith, run_trials m (omega arith), cost_few (suc (suc m)) (omega arith) (omega arith))

  pub run_bound : (n : ℕ) → 2 ≤ n → n ≤ r.taxa → trials_at g n + 7 * n ≤ 2 * (n * n) + 7
  run_bound zero two fits = absurd (omega arith)
  run_bound (suc zero) two fits = absurd (omega arith)
  run_bound (suc (suc m)) two fits = run_trials m fits

-- GROWTH IS THE RUN, where the allowance covers it
module _ (g : Manner) where
  pub grown_covered : (f left spent : ℕ) (s : Splits) → cost g s ≤ left
      → grown g (suc f) left spent s ≡ grown g f (left - cost g s) (spent + cost g s) (larger g s)
  unfolding grown
  grown_covered f left spent s h = rw (le-leb (cost g s) left h)

  pub grown_short : (f left spent : ℕ) (s : Splits) → left < cost g s → grown g (suc f) left spent s ≡ record { outcome = Short; list = s; trials = spent }
  unfolding grown
  grown_short f left spent s h = rw (lt-leb (cost g s) left h)

  trials_up : (f k n : ℕ) → suc k + f ≡ n → trials_at g (suc k) ≤ trials_at g n
  unfolding trials_at
  trials_up zero k n e = let q : suc k ≡ n = omega arith in omega (arith, ap (trials_at g) q)
  trials_up (suc f) k n e = omega (arith, trials_up f (suc k) n (omega arith))

  trials_next : (k : ℕ) → trials_at g (suc (suc k)) ≡ trials_at g (suc k) + cost_of g (suc k) (rows_at g (suc k))
  unfolding trials_at
  trials_next k = refl

  rows_next : (k : ℕ) → grown_rows g (suc k) (rows_of (list_of (suc k) (rows_at g (suc k)))) ≡ rows_at g (suc (suc k))
  unfolding rows_at
  rows_next k = ap (grown_rows g (suc k)) (rows_of_list (suc k) (rows_at g (suc k)))

  listed : (k : ℕ) (rows : List Row) → (list_of k rows).taxa ≡ k
  unfolding list_of
  listed k rows = refl

  -- the list of the run after k + 1 taxa, and that list grown by one
  here : ℕ → Splits
  here k = list_of (suc k) (rows_at g (suc k))

  here_cost : (k : ℕ) → cost g (here k) ≡ cost_of g (suc k) (rows_at g (suc k))
  unfolding here
  here_cost k = taken (suc k) (rows_at g (suc k))
    where
      taken : (k : ℕ) (rows : List Row) → cost g (list_of k rows) ≡ cost_of g k rows
      taken k rows = same (list_of k rows) k (listed k rows) rows (rows_of_list k rows)
        where
          same : (s : Splits) (k : ℕ) → s.taxa ≡ k → (rows : List Row) → rows_of s ≡ rows → cost g s ≡ cost_of g k rows
          same s k e rows q = ap₂ (λ (m : ℕ) (l : List Row). cost_of g m l) e q

  here_next : (k : ℕ) → larger g (here k) ≡ here (suc k)
  unfolding here list_of
  here_next k = ap (list_of (suc (suc k))) (rows_next k)

  -- from that list on, what is spent so far counted in
  run_grown : (f k n left : ℕ) → suc k + f ≡ n → trials_at g n ≤ left + trials_at g (suc k)
      → grown g f left (trials_at g (suc k)) (here k) ≡ whole_run g n
  unfolding grown whole_run here
  run_grown zero k n left e h =
      let q : suc k ≡ n = omega arith in ap (λ (m : ℕ). record { outcome = Done; list = list_of m (rows_at g m); trials = trials_at g m }) q
  run_grown (suc f) k n left e h =
      let covered : cost g (here k) ≤ left = omega (arith, trials_next k, trials_up f (suc k) n (omega arith), here_cost k) in
      let spent : trials_at g (suc k) + cost g (here k) ≡ trials_at g (suc (suc k)) = omega (arith, trials_next k, here_cost k) in
      grown_covered f left (trials_at g (suc k)) (here k) covered
      ∙ ap₂ (λ (p : ℕ) (s : Splits). grown g f (left - cost g (here k)) p s) spent (here_next k)
      ∙ run_grown f (suc k) n (left - cost g (here k)) (omega arith) (omega arith)

  start : (f allowance : ℕ) → grown g f allowance 0 (list_of 1 []) ≡ grown g f allowance (trials_at g 1) (here 0)
  unfolding trials_at here rows_at
  start f allowance = refl

  none_spent : trials_at g 1 ≡ 0
  unfolding trials_at
  none_spent = refl

  -- GROWTH FROM THE EMPTY LIST, with an allowance that covers the run, is the whole run
  pub grown_whole : (n allowance : ℕ) → 1 ≤ n → trials_at g n ≤ allowance → grown g (n - 1) allowance 0 (list_of 1 []) ≡ whole_run g n
  grown_whole n allowance one covers = start (n - 1) allowance ∙ run_grown (n - 1) 0 n allowance (omega arith) (omega (arith, none_spent))
