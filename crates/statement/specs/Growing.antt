-- Document 01, "Growing and the allowance": the trial, the candidates and the enlarged list, growth with an allowance, the whole run.
-- Document 02 §7: on a matrix every trivial split is extended, listed or not.
use Rattle.std.specs.Prelude.{ℕ, zero, suc, ◌+◌, ◌*◌, ◌-◌, ◌%◌, ◌^◌, ◌≤◌, min, ◌≡◌, ◌⊎◌, ◌↔◌, ◌≢◌, Bool, true, cond, not, ◌&&◌, ◌||◌, List, [], ◌∷◌, ◌++◌, map, ltb, leb, eqb, length, ℤ, pos, negsuc, ◌≤ℤ◌, ◌<ℤ◌}
use Rattle.statement.specs.declared.Splits.{Splits}
use Rattle.statement.specs.Outcomes.{Growth, Done, Short}
use Rattle.statement.specs.Cluster.{bit, Split, Across, Trivial}
use Rattle.statement.specs.Lowest.{lowest, somewhere, nowhere}
use Rattle.statement.specs.Matrix.{distance, score, weight_limit, Asked, MatrixWeight, MatrixSupported, RepeatWeight, RepeatSupported}
use Rattle.statement.specs.Table.{stands, table_weight, TableSupported}
use Rattle.statement.specs.Rows.{Row, row, clusters, Listed, weight_in, Ascending, FullAnswer, rows_of, list_of}

-- the lesser of w and f 0, .. f (m - 1)
unfoldable pub lesser : ℕ → (ℕ → ℕ) → ℕ → ℕ
lesser w f zero = w
lesser w f (suc m) = min (f m) (lesser w f m)

-- x, y and z part as ax|yz in the split c: x is on a's side (x may be a), y and z are on the other
abbrev pub parts_as : ℕ → ℕ → ℕ → ℕ → ℕ → Bool
parts_as c a x y z = eqb (bit c x) (bit c a) && (not (eqb (bit c y) (bit c a)) && not (eqb (bit c z) (bit c a)))

-- A TRIAL of the split c of the first n taxa, over its fours ax|yz that include the taxon a: the lesser of w and what f says of each
unfoldable pub over_fours : (ℕ → ℕ → ℕ → ℕ) → ℕ → ℕ → ℕ → ℕ → ℕ
over_fours f n a c w = lesser w (λ x. lesser w (λ y. lesser w (λ z. cond (parts_as c a x y z) (f x y z) w) n) n) n

-- a score as a weight: 0 where it is zero or below
abbrev pub above : ℤ → ℕ
above (pos m) = m
above (negsuc m) = 0

-- u is the only taxon of its group, in the split c of the first n taxa; and whether u, u' is a pair that their group gives
unfoldable pub alone : ℕ → ℕ → ℕ → Bool
alone n c u = nowhere (λ i. eqb (bit c i) (bit c u) && not (eqb i u)) n

abbrev pub pairs : ℕ → ℕ → ℕ → ℕ → Bool
pairs n c u u' = not (eqb u u') || alone n c u

-- on a matrix: 0 where some score is zero or below, else the least of w and the scores, over the fours of the split that include a
unfoldable pub pair_trial : (ℕ → ℕ → ℕ) → ℕ → ℕ → ℕ → ℕ → ℕ
pair_trial d n a c w = over_fours (λ x y z. cond (pairs n c a x && pairs n c y z) (above (score d a x y z)) w) n a c w

-- whose fours are looked at: those of the lowest taxon that is alone in its group, which are all that the split has; else those of a
unfoldable pub looked : ℕ → ℕ → ℕ → ℕ
looked n a c = let u = lowest (alone n c) n in cond (ltb u n) u a

unfoldable pub matrix_trial : (ℕ → ℕ → ℕ) → ℕ → ℕ → ℕ → ℕ → ℕ
matrix_trial d n a c w = pair_trial d n (looked n a c) c w

-- by the rule before §7
unfoldable pub repeat_trial : (ℕ → ℕ → ℕ) → ℕ → ℕ → ℕ → ℕ → ℕ
repeat_trial d n a c w = over_fours (λ x y z. above (score d a x y z)) n a c w

-- on a table: 0 where some four of different taxa does not stand in it, else the lesser of w and 1
unfoldable pub table_trial : List ℕ → ℕ → ℕ → ℕ → ℕ → ℕ
table_trial bytes n a c w = over_fours (λ x y z. cond (eqb a x || eqb y z) w (cond (stands bytes a x y z) table_weight 0)) n a c w

-- ONE TAXON MORE. The candidates: each old split without the newcomer k, the newcomer by itself, each old split with it. Each comes with the
-- weight that its trial starts from: the old weight, or the most that a split can weigh
abbrev pub candidates : ℕ → ℕ → List Row → List Row
candidates most k rows = rows ++ (row (2 ^ k) most ∷ map (λ r. row (2 ^ k + r.cluster) r.weight) rows)

abbrev pub cons_if : Bool → Row → List Row → List Row
cons_if b r rows = cond b (r ∷ rows) rows

-- a four that includes the newcomer k
abbrev pub Includes : ℕ → ℕ → ℕ → ℕ → ℕ → Type 0
Includes k u u' v v' = (u ≡ k) ⊎ ((u' ≡ k) ⊎ ((v ≡ k) ⊎ (v' ≡ k)))

-- the candidates whose trial is above zero, at what it says
unfoldable pub kept : (ℕ → ℕ → ℕ) → List Row → List Row
kept trial [] = []
kept trial (r ∷ rs) = cons_if (ltb 0 (trial r.cluster r.weight)) (row r.cluster (trial r.cluster r.weight)) (kept trial rs)

-- the enlarged list: trial n a c w tries the split c of the first n taxa by its fours that include a
unfoldable pub enlarged : (ℕ → ℕ → ℕ → ℕ → ℕ) → ℕ → ℕ → List Row → List Row
enlarged trial most k rows = kept (trial (suc k) k) (candidates most k rows)

-- A row put in at its place; a row of the same cluster gives way
unfoldable pub put_in : Row → List Row → List Row
put_in r [] = r ∷ []
put_in r (x ∷ xs) = cond (ltb r.cluster x.cluster) (r ∷ (x ∷ xs)) (cond (eqb r.cluster x.cluster) (r ∷ xs) (x ∷ put_in r xs))

-- the rows with the cluster of each single taxon from 1 to k - 1 put in, at the weight most
unfoldable pub with_singles : ℕ → ℕ → List Row → List Row
with_singles most zero rows = rows
with_singles most (suc zero) rows = rows
with_singles most (suc (suc i)) rows = put_in (row (2 ^ suc i) most) (with_singles most (suc i) rows)

-- and with the split of taxon 0 by itself: every trivial split of k taxa (one taxon has none, two have one)
unfoldable pub with_trivial : ℕ → ℕ → List Row → List Row
with_trivial most zero rows = rows
with_trivial most (suc zero) rows = rows
with_trivial most (suc (suc k)) rows = put_in (row (2 ^ suc (suc k) - 2) most) (with_singles most (suc (suc k)) rows)

-- HOW A SOURCE GROWS: its trial, the most that a split can weigh, and what is extended, with the weights that the trials start from
pub record Manner : Type 0 where
  pub trial : ℕ → ℕ → ℕ → ℕ → ℕ
  pub most : ℕ
  pub parents : ℕ → List Row → List Row

-- a matrix extends its rows with every trivial split put in, a table its rows as they are
abbrev pub by_matrix : (ℕ → ℕ → ℕ) → Manner
by_matrix d = record { trial = matrix_trial d; most = weight_limit; parents = with_trivial weight_limit }

abbrev pub by_table : List ℕ → Manner
by_table bytes = record { trial = table_trial bytes; most = table_weight; parents = λ k rows. rows }

-- a matrix by the rule before §7
abbrev pub by_repeats : (ℕ → ℕ → ℕ) → Manner
by_repeats d = record { trial = repeat_trial d; most = weight_limit; parents = λ k rows. rows }

abbrev pub grown_rows : Manner → ℕ → List Row → List Row
grown_rows g k rows = enlarged g.trial g.most k (g.parents k rows)

-- THE GROWTH RULE of a table, for a well-formed list: the enlarged one holds exactly the candidates whose fours that include the newcomer are all
-- supported
pub record TableGrowth (bytes : List ℕ) (k : ℕ) (rows more : List Row) : Type 0 where
  pub up : Ascending 1 (2 ^ suc k) (clusters more)
  pub exact : (c : ℕ) → Listed c more
      ↔ (Listed c (candidates table_weight k rows)
      × ((u u' v v' : ℕ) → Across (suc k) c u u' v v' → Includes k u u' v v' → u ≢ u' → v ≢ v' → stands bytes u u' v v' ≡ true))
  pub weigh : (c : ℕ) → Listed c more → weight_in more c ≡ table_weight

-- THE GROWTH RULE of a matrix. A candidate is the newcomer by itself, or extends a split of the k taxa, without the newcomer or with it: a trivial
-- one, listed or not, or a listed one
abbrev pub ParentIn : ℕ → List Row → ℕ → Type 0
ParentIn k rows p = (Split k p × Trivial k p) ⊎ Listed p rows

abbrev pub Candidate : ℕ → List Row → ℕ → Type 0
Candidate k rows c = (c ≡ 2 ^ k) ⊎ ((p : ℕ) × ParentIn k rows p × ((c ≡ p) ⊎ (c ≡ 2 ^ k + p)))

-- all fours are looked at where the newcomer is by itself or a trivial split is extended (c % 2 ^ k is c without the newcomer), else those that
-- include the newcomer
abbrev pub Anew : ℕ → ℕ → Type 0
Anew k c = (c ≡ 2 ^ k) ⊎ Trivial k (c % 2 ^ k)

abbrev pub LookedAt : ℕ → ℕ → ℕ → ℕ → ℕ → ℕ → Type 0
LookedAt k c u u' v v' = Anew k c ⊎ Includes k u u' v v'

-- the weight of a carried split: the lesser of its old weight and the new scores
pub record NewWeight (d : ℕ → ℕ → ℕ) (k : ℕ) (rows : List Row) (c w : ℕ) : Type 0 where
  pub old : w ≤ weight_in rows (c % 2 ^ k)
  pub new : (u u' v v' : ℕ) → Asked (suc k) c u u' v v' → Includes k u u' v v' → pos w ≤ℤ score d u u' v v'
  pub reached : (w ≡ weight_in rows (c % 2 ^ k))
      ⊎ ((u u' v v' : ℕ) × Asked (suc k) c u u' v v' × Includes k u u' v v' × (score d u u' v v' ≡ pos w))

-- for a well-formed list: the enlarged one holds exactly the candidates whose fours that are looked at all score above zero. Where all are looked at
-- the weight is that of the matrix, whatever the list said; else the lesser of the old weight and the new scores
pub record MatrixGrowth (n : ℕ) (entries : List ℕ) (k : ℕ) (rows more : List Row) : Type 0 where
  pub up : Ascending 1 (2 ^ suc k) (clusters more)
  pub exact : (c : ℕ) → Listed c more
      ↔ (Candidate k rows c
      × ((u u' v v' : ℕ) → Asked (suc k) c u u' v v' → LookedAt k c u u' v v' → pos 0 <ℤ score (distance n entries) u u' v v'))
  pub anew : (c : ℕ) → Listed c more → Anew k c → MatrixWeight (distance n entries) (suc k) c (pos (weight_in more c))
  pub carried : (c : ℕ) → Listed c more → (Anew k c → ⊥) → NewWeight (distance n entries) k rows c (weight_in more c)

-- THE FULL ANSWER of a matrix, and of a table, for the first k taxa
abbrev pub MatrixAnswer : ℕ → List ℕ → ℕ → List Row → Type 0
MatrixAnswer n entries k rows =
    let d = distance n entries in FullAnswer (MatrixSupported d k) (λ c w. MatrixWeight d k c (pos w)) k rows

abbrev pub TableAnswer : List ℕ → ℕ → List Row → Type 0
TableAnswer bytes k rows = FullAnswer (TableSupported bytes k) (λ c w. w ≡ table_weight) k rows

abbrev pub RepeatAnswer : ℕ → List ℕ → ℕ → List Row → Type 0
RepeatAnswer n entries k rows =
    let d = distance n entries in FullAnswer (RepeatSupported d k) (λ c w. RepeatWeight d k c (pos w)) k rows

-- the list with one taxon more
abbrev pub larger : Manner → Splits → Splits
larger g s = list_of (suc s.taxa) (grown_rows g s.taxa (rows_of s))

-- what adding a taxon costs: a trial for each of both extensions of what is extended, and one for the newcomer by itself
abbrev pub cost_of : Manner → ℕ → List Row → ℕ
cost_of g k rows = 2 * length (g.parents k rows) + 1

abbrev pub cost : Manner → Splits → ℕ
cost g s = cost_of g s.taxa (rows_of s)

-- as document 02 §7 counts it on a matrix: the trivial splits of k taxa (one taxon has none, two have one), listed or not, and of some clusters those
-- that are not trivial
unfoldable pub trivials : ℕ → ℕ
trivials zero = 0
trivials (suc zero) = 0
trivials (suc (suc zero)) = 1
trivials (suc (suc (suc k))) = suc (suc (suc k))

unfoldable pub others : ℕ → List ℕ → ℕ
others k [] = 0
others k (c ∷ cs) = cond (somewhere (alone k c) k) (others k cs) (suc (others k cs))

-- GROWTH WITH AN ALLOWANCE: up to f taxa are added; left remains of the allowance, and spent trials are spent
unfoldable pub grown : Manner → ℕ → ℕ → ℕ → Splits → Growth
grown g zero left spent s = record { outcome = Done; list = s; trials = spent }
grown g (suc f) left spent s =
    cond (leb (cost g s) left)
    (grown g f (left - cost g s) (spent + cost g s) (larger g s))
    (record { outcome = Short; list = s; trials = spent })

-- THE WHOLE RUN, from k = 1 with no row and without an allowance: the rows of the first k taxa
unfoldable pub rows_at : Manner → ℕ → List Row
rows_at g zero = []
rows_at g (suc zero) = []
rows_at g (suc (suc k)) = grown_rows g (suc k) (rows_at g (suc k))

-- and the trials spent on the way
unfoldable pub trials_at : Manner → ℕ → ℕ
trials_at g zero = 0
trials_at g (suc zero) = 0
trials_at g (suc (suc k)) = trials_at g (suc k) + cost_of g (suc k) (rows_at g (suc k))

unfoldable pub whole_run : Manner → ℕ → Growth
whole_run g n = record { outcome = Done; list = list_of n (rows_at g n); trials = trials_at g n }
