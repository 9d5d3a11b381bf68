-- What the tests of the code say, as facts: of a cluster and its taxa, of two clusters, and of a row, by itself and against those before it. Assumes nothing.
use Prim.Native.Nat.{ℕ, ◌/◌, ◌^◌, ◌≤◌, ◌<◌}
use native.Mathlib.Omega.{arith}
use native.Mathlib.Decide.{dec_lt}
use native.Mathlib.Nat.{div-eq_of_lt, div-lt_iff_lt-mul}
use mathlib.Core.Path.{◌≡◌, sym, ◌∙◌}
use mathlib.Core.Bool.{Bool, true, false}
use mathlib.Core.Logic.Iff
use mathlib.Core.Logic.{◌≢◌, ◌↔◌}
use lib.Bits.{bit_and}
use lib.Dec.{ltb, eqb}
use lib.ListN.{get_or}
use lib.Pow.{pow_pos}
use borrow.Author.Count.{below_more}
use borrow.Author.Tests.{lt-ltb, le-ltb, eq-eqb, ne_eqb}
use Rattle.statement.specs.declared.Splits.{Splits}
use Rattle.statement.specs.Cluster.{Split}
use Rattle.statement.specs.Rows.{conflicts, fits, bad_row}
use Rattle.statement.proofs.Mask.{conflict_mask}
use Rattle.statement.proofs.WellFormed.{conflicts_is, Fit, fit_is, row_is}

-- a cluster is within the first k taxa where a shift by k leaves nothing of it
pub shifted : (k c : ℕ) → eqb (c / 2 ^ k) 0 ≡ ltb c (2 ^ k)
shifted k c = go (dec_lt c (2 ^ k))
  where
    go : Dec (c < 2 ^ k) → eqb (c / 2 ^ k) 0 ≡ ltb c (2 ^ k)
    go (yes l) = eq-eqb (c / 2 ^ k) 0 (div-eq_of_lt l) ∙ sym (lt-ltb c (2 ^ k) l)
    go (no l) =
        let more : c / 2 ^ k ≡ 0 → ⊥ = λ e. omega (arith, (div-lt_iff_lt-mul {k = 2 ^ k} {x = c} {y = 1} (pow_pos k)).0 (omega arith)) in
        ne_eqb (c / 2 ^ k) 0 more ∙ sym (le-ltb c (2 ^ k) (omega arith))

-- two splits conflict exactly where their common group is neither empty nor one of the two clusters
pub conflicts_apart : (k a b : ℕ) → 0 < k → Split k a → Split k b → (conflicts k a b ≡ true) ↔ ((bit_and a b ≢ 0) × (bit_and a b ≢ a) × (bit_and a b ≢ b))
conflicts_apart k a b pk sa sb = Iff.trans (conflicts_is k a b) (conflict_mask k a b sa sb pk)

-- a row by itself
module _ (most k c w : ℕ) where
  pub is_fit : fits most k c w ≡ true → Fit most k c w
  unfolding fits
  is_fit = (fit_is most k c w).0

-- row i, where the rows before it are good
module _ (most : ℕ) (s : Splits) (i : ℕ) where
  abbrev pub here : Bool
  here = fits most s.taxa (get_or s.clusters i 0) (get_or s.weights i 0)

  -- where the rows before it are good, and it fits by itself, all are splits
  pub splits : ((j : ℕ) → j < i → bad_row most s j ≡ false) → here ≡ true → (j : ℕ) → j ≤ i → Split s.taxa (get_or s.clusters j 0)
  splits good e j l =
      below_more (λ j. Split s.taxa (get_or s.clusters j 0)) i (λ j b. ((row_is most s j).0 (good j b)).fit.split) (is_fit _ _ _ _ e).split j (omega arith)
