-- Trivial splits put in among the rows of a list, in one pass over both.
use Rattle.std.specs.Prelude.{ℕ, ◌+◌, ◌-◌, ◌^◌, ◌≤◌, ◌<◌, ◌≡◌, cond, List, [], ◌∷◌, ◌++◌, eqb, drop}
use Rattle.statement.specs.declared.Splits.{Splits}
use Rattle.statement.specs.Rows.{Row, row, rows_of}
use Rattle.statement.specs.Growing.{put_in}
use Rattle.splits_list.specs.Pushed.{appended}

-- the trivial splits of k taxa, in the order of their clusters: 2, 4, .. and all taxa but taxon 0. Two taxa have the last only
abbrev pub first_of : ℕ → ℕ
first_of k = cond (eqb k 2) 2 1

abbrev pub trivial_at : ℕ → ℕ → ℕ
trivial_at k i = cond (eqb i k) (2 ^ k - 2) (2 ^ i)

-- every cluster is below c
unfoldable pub Below : ℕ → List Row → Type 0
Below c [] = Unit {0}
Below c (r ∷ rs) = (r.cluster < c) × Below c rs

-- u is t with the rows of old from `at` to `to` pushed, whose clusters are below c
pub record Passed (old t u : Splits) (c at to : ℕ) : Type 0 where
  pub pre : List Row
  pub is : u ≡ appended t pre
  pub same : pre ++ drop to (rows_of old) ≡ drop at (rows_of old)
  pub below : Below c pre
  pub low : to ≤ old.rows

-- u is t with rows up to the cluster c pushed: with those of old from `to` on they are those from `at` on with the row c, w put in
pub record Put (old t u : Splits) (c w at to : ℕ) : Type 0 where
  pub pre : List Row
  pub is : u ≡ appended t pre
  pub same : pre ++ drop to (rows_of old) ≡ put_in (row c w) (drop at (rows_of old))
  pub below : Below (c + 1) pre
  pub low : to ≤ old.rows
