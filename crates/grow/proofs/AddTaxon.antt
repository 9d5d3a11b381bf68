-- One taxon more, in the three steps of the code: each has room, and together they make the enlarged list. Assumes nothing.
use Prim.Native.Nat.{ℕ, suc, ◌+◌, ◌^◌, ◌≤◌, ◌<◌}
use native.Mathlib.Omega.{arith}
use native.Mathlib.Numerals.{add-one}
use mathlib.Core.Path.{◌≡◌, sym, ◌∙◌, ap, ap₂}
use mathlib.Core.List.{List, [], ◌∷◌, ◌++◌, append_assoc}
use lib.ListN.{length, get_or, length-append, length-map}
use lib.Pow.{pow_mono}
use Rattle.statement.specs.declared.Splits.{Splits}
use Rattle.statement.specs.Rows.{Row, row, clusters, rows_of, list_of, Ascending}
use Rattle.statement.specs.Growing.{kept, enlarged}
use Rattle.statement.proofs.Listed.{asc_mem, mem_get_d}
use Rattle.splits_list.proofs.Laws.{Roomy, rows_length, cluster_at_law, appended_list}
use Rattle.splits_list.specs.Pushed.{appended}
use Rattle.grow.specs.Raised.{raised}
use Rattle.grow.proofs.Laws.{kept_append, raised_none}

-- a cluster of a list within its taxa, with the newcomer or without, is a number of 64 bits
pub cluster_fits : (n : ℕ) (s : Splits) → Roomy s → n ≤ 64 → s.taxa < n → Ascending 1 (2 ^ s.taxa) (clusters (rows_of s)) → (b : ℕ) → b ≤ 2 ^ s.taxa
    → (i : ℕ) → i < s.rows → b + get_or s.clusters i 0 < 2 ^ 64
cluster_fits n s room few more up b lb i l =
    let m = mem_get_d (clusters (rows_of s)) i (omega (arith, rows_length s room, length-map (rows_of s) (λ r. r.cluster))) in
    omega (arith, asc_mem 1 (2 ^ s.taxa) (clusters (rows_of s)) up (get_or (clusters (rows_of s)) i 0) m, cluster_at_law s room i l, pow_mono {i = suc s.taxa} {j = 64} (omega arith))

-- what is kept: of the old splits without the newcomer, of the newcomer by itself, of the old splits with it
abbrev pub tries : (ℕ → ℕ → ℕ → ℕ → ℕ) → Splits → ℕ → ℕ → ℕ
tries trial s = trial (suc s.taxa) s.taxa

abbrev pub without : (ℕ → ℕ → ℕ → ℕ → ℕ) → Splits → List Row
without trial s = kept (tries trial s) (rows_of s)

abbrev pub single : (ℕ → ℕ → ℕ → ℕ → ℕ) → ℕ → Splits → List Row
single trial most s = kept (tries trial s) (row (2 ^ s.taxa) most ∷ [])

abbrev pub within : (ℕ → ℕ → ℕ → ℕ → ℕ) → Splits → List Row
within trial s = kept (tries trial s) (raised (2 ^ s.taxa) (rows_of s))

module _ (trial : ℕ → ℕ → ℕ → ℕ → ℕ) (most : ℕ) (s : Splits) (room : length (enlarged trial most s.taxa (rows_of s)) ≤ 125) where
  parts : enlarged trial most s.taxa (rows_of s) ≡ (without trial s) ++ ((single trial most s) ++ (within trial s))
  unfolding enlarged
  parts =
      kept_append (tries trial s) (rows_of s) (row (2 ^ s.taxa) most ∷ raised (2 ^ s.taxa) (rows_of s))
      ∙ ap (λ (l : List Row). (without trial s) ++ l) (kept_append (tries trial s) (row (2 ^ s.taxa) most ∷ []) (raised (2 ^ s.taxa) (rows_of s)))

  sizes : length (without trial s) + (length (single trial most s) + length (within trial s)) ≤ 125
  sizes = omega (arith, ap length parts, length-append (without trial s) ((single trial most s) ++ (within trial s)), length-append (single trial most s) (within trial s))

  -- the old splits without the newcomer, onto the empty list
  module _ (none : Splits) (is : none ≡ list_of (s.taxa + 1) []) where
    empty_rows : none.rows ≡ 0
    unfolding list_of
    empty_rows = ap (λ (t : Splits). t.rows) is

    pub first_room : none.rows + length (kept (tries trial s) (raised 0 (rows_of s))) ≤ 125
    first_room = omega (arith, empty_rows, ap (λ (l : List Row). length (kept (tries trial s) l)) (raised_none (rows_of s)), sizes)

    pub first_is : (t : Splits) → t ≡ appended none (kept (tries trial s) (raised 0 (rows_of s))) → t ≡ list_of (suc s.taxa) (without trial s)
    first_is t e =
        e ∙ ap₂ (λ (u : Splits) (l : List Row). appended u (kept (tries trial s) l)) (is ∙ ap (λ (k : ℕ). list_of k []) (add-one s.taxa)) (raised_none (rows_of s))
        ∙ appended_list (suc s.taxa) [] (without trial s) (omega (arith, sizes))

  rows_is : (t : Splits) (rows : List Row) → t ≡ list_of (suc s.taxa) rows → t.rows ≡ length rows
  unfolding list_of
  rows_is t rows e = ap (λ (u : Splits). u.rows) e

  -- the newcomer by itself
  module _ (t : Splits) (is : t ≡ list_of (suc s.taxa) (without trial s)) (b w : ℕ) (eb : b ≡ 2 ^ s.taxa) (ew : w ≡ most) where
    single_is : kept (tries trial s) (row b w ∷ []) ≡ (single trial most s)
    single_is = ap₂ (λ (c v : ℕ). kept (tries trial s) (row c v ∷ [])) eb ew

    pub second_room : t.rows + length (kept (tries trial s) (row b w ∷ [])) ≤ 125
    second_room = omega (arith, rows_is t (without trial s) is, ap length single_is, sizes)

    pub second_is : (u : Splits) → u ≡ appended t (kept (tries trial s) (row b w ∷ [])) → u ≡ list_of (suc s.taxa) ((without trial s) ++ (single trial most s))
    second_is u e = e ∙ ap₂ appended is single_is ∙ appended_list (suc s.taxa) (without trial s) (single trial most s) (omega (arith, sizes))

  -- the old splits with it
  module _ (t : Splits) (is : t ≡ list_of (suc s.taxa) ((without trial s) ++ (single trial most s))) (b : ℕ) (eb : b ≡ 2 ^ s.taxa) where
    with_is : kept (tries trial s) (raised b (rows_of s)) ≡ (within trial s)
    with_is = ap (λ (c : ℕ). kept (tries trial s) (raised c (rows_of s))) eb

    pub third_room : t.rows + length (kept (tries trial s) (raised b (rows_of s))) ≤ 125
    third_room = omega (arith, rows_is t ((without trial s) ++ (single trial most s)) is, length-append (without trial s) (single trial most s), ap length with_is, sizes)

    pub third_is : (u : Splits) → u ≡ appended t (kept (tries trial s) (raised b (rows_of s))) → u ≡ list_of (suc s.taxa) (enlarged trial most s.taxa (rows_of s))
    third_is u e =
        e ∙ ap₂ appended is with_is ∙ appended_list (suc s.taxa) ((without trial s) ++ (single trial most s)) (within trial s) (omega (arith, length-append (without trial s) (single trial most s), sizes))
        ∙ ap (list_of (suc s.taxa)) (append_assoc (without trial s) (single trial most s) (within trial s) ∙ sym parts)
