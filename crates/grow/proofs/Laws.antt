-- Rows kept and pushed. Assumes nothing.
use Prim.Native.Nat.{ℕ, suc, ◌+◌, ◌≤◌, ◌<◌}
use native.Mathlib.Omega.{arith}
use native.Mathlib.Numerals.{add-one}
use mathlib.Core.Path.{◌≡◌, refl, sym, ◌∙◌, ap, ap₂}
use mathlib.Core.Bool.{Bool, true, false}
use mathlib.Core.List.{List, [], ◌∷◌, ◌++◌}
use lib.Dec.{ltb}
use lib.ListN.{length, drop, get_or, length-append}
use borrow.Author.Tests.{lt-ltb, le-ltb}
use Rattle.statement.specs.declared.Splits.{Splits}
use Rattle.statement.specs.Rows.{Row, row, rows_of}
use Rattle.statement.specs.Growing.{cons_if, kept}
use Rattle.splits_list.specs.Pushed.{pushed, appended}
use Rattle.splits_list.proofs.Laws.{Roomy, rows_at, rows_end, appended_append, appended_rows}
use Rattle.grow.specs.Raised.{raised}

-- kept rows of two lists
pub kept_append : (f : ℕ → ℕ → ℕ) (xs ys : List Row) → kept f (xs ++ ys) ≡ kept f xs ++ kept f ys
unfolding kept
kept_append f [] ys = refl
kept_append f (r ∷ rs) ys = go (ltb 0 (f r.cluster r.weight)) (kept_append f rs ys)
  where
    x : Row
    x = row r.cluster (f r.cluster r.weight)

    go : (b : Bool) → kept f (rs ++ ys) ≡ kept f rs ++ kept f ys → cons_if b x (kept f (rs ++ ys)) ≡ cons_if b x (kept f rs) ++ kept f ys
    go true e = ap (λ (l : List Row). x ∷ l) e
    go false e = e

-- one candidate, kept or not
pub kept_one : (f : ℕ → ℕ → ℕ) (c w : ℕ) → 0 < f c w → kept f (row c w ∷ []) ≡ row c (f c w) ∷ []
unfolding kept
kept_one f c w h = rw (lt-ltb 0 (f c w) h)

pub kept_none : (f : ℕ → ℕ → ℕ) (c w : ℕ) → f c w ≤ 0 → kept f (row c w ∷ []) ≡ []
unfolding kept
kept_none f c w h = rw (le-ltb 0 (f c w) h)

-- nothing added
pub raised_none : (rows : List Row) → raised 0 rows ≡ rows
raised_none [] = refl
raised_none (r ∷ rs) = ap₂ (λ (c : ℕ) (l : List Row). row c r.weight ∷ l) (omega arith) (raised_none rs)

-- A PASS over the rows of a list: what remains at row i
module _ (f : ℕ → ℕ → ℕ) (b : ℕ) (s : Splits) (room : Roomy s) (i : ℕ) (l : i < s.rows) where
  pub pass_turn : kept f (raised b (drop i (rows_of s)))
      ≡ kept f (row (b + get_or s.clusters i 0) (get_or s.weights i 0) ∷ []) ++ kept f (raised b (drop (i + 1) (rows_of s)))
  pass_turn =
      rw add-one (ap (λ (rows : List Row). kept f (raised b rows)) (rows_at s room i l)
      ∙ kept_append f (row (b + get_or s.clusters i 0) (get_or s.weights i 0) ∷ []) (raised b (drop (suc i) (rows_of s))))

pub pass_end : (f : ℕ → ℕ → ℕ) (b : ℕ) (s : Splits) → Roomy s → kept f (raised b (drop s.rows (rows_of s))) ≡ []
unfolding kept
pass_end f b s room = ap (λ (rows : List Row). kept f (raised b rows)) (rows_end s room)

-- ONE CANDIDATE offered: v is what its trial says
module _ (f : ℕ → ℕ → ℕ) (t : Splits) (c w v : ℕ) (is : v ≡ f c w) where
  pub offer_kept : 0 < v → pushed t c v ≡ appended t (kept f (row c w ∷ []))
  offer_kept h = ap (pushed t c) is ∙ sym (ap (appended t) (kept_one f c w (omega arith)))

  pub offer_none : v ≤ 0 → t ≡ appended t (kept f (row c w ∷ []))
  offer_none h = sym (ap (appended t) (kept_none f c w (omega arith)))

  pub offer_room : 0 < v → t.rows + length (kept f (row c w ∷ [])) ≤ 125 → t.rows < 125
  offer_room h l = omega (arith, ap length (kept_one f c w (omega arith)))

-- the loop of a pass: what is kept of the rows from i on, pushed onto t, is what the whole pass gives
pub record Passing (f : ℕ → ℕ → ℕ) (b : ℕ) (s into t : Splits) (i : ℕ) : Type 0 where
  pub low : i ≤ s.rows
  pub room : t.rows + length (kept f (raised b (drop i (rows_of s)))) ≤ 125
  pub same : appended t (kept f (raised b (drop i (rows_of s)))) ≡ appended into (kept f (raised b (rows_of s)))

module _ (f : ℕ → ℕ → ℕ) (b : ℕ) (s into : Splits) where
  pub passing_from : into.rows + length (kept f (raised b (rows_of s))) ≤ 125 → Passing f b s into into 0
  passing_from h = record { low = omega arith; room = h; same = refl }

  module _ (t : Splits) (i : ℕ) (room : Roomy s) (l : i < s.rows) (inv : Passing f b s into t i) where
    one : List Row
    one = kept f (row (b + get_or s.clusters i 0) (get_or s.weights i 0) ∷ [])

    rest : List Row
    rest = kept f (raised b (drop (i + 1) (rows_of s)))

    sizes : length (kept f (raised b (drop i (rows_of s)))) ≡ length one + length rest
    unfolding one rest
    sizes = ap length (pass_turn f b s room i l) ∙ length-append one rest

    pub passing_room : t.rows + length (kept f (row (b + get_or s.clusters i 0) (get_or s.weights i 0) ∷ [])) ≤ 125
    unfolding one
    passing_room = omega (arith, inv.room, sizes)

    pub passing_turn : (u : Splits) → u ≡ appended t (kept f (row (b + get_or s.clusters i 0) (get_or s.weights i 0) ∷ [])) → Passing f b s into u (i + 1)
    unfolding one rest
    passing_turn u e =
        record {
          low = omega arith;
          room = omega (arith, inv.room, sizes, ap (λ (x : Splits). x.rows) e, appended_rows t one);
          same =
              ap (λ (x : Splits). appended x rest) e ∙ sym (appended_append t one rest)
              ∙ ap (appended t) (sym (pass_turn f b s room i l)) ∙ inv.same;
        }

  pub passing_end : (t : Splits) (i : ℕ) → Roomy s → i ≡ s.rows → Passing f b s into t i → t ≡ appended into (kept f (raised b (rows_of s)))
  passing_end t i room e inv =
      ap (appended t) (sym (ap (λ (m : ℕ). kept f (raised b (drop m (rows_of s)))) e ∙ pass_end f b s room)) ∙ inv.same
