-- THE THREE DEMANDS, as statements. What stands in them are the definitions of the crate `statement`, and nothing else has to be believed.
use Rattle.std.specs.Prelude.{ℕ, suc, ◌+◌, ◌*◌, ◌-◌, ◌^◌, ◌≤◌, ◌<◌, ◌≡◌, ◌≢◌, ◌↔◌, Bool, true, not, List, length, pos, ◌<ℤ◌}
use Rattle.std.specs.Bool.{beq}
use Rattle.statement.specs.declared.Splits.{Splits}
use Rattle.statement.specs.Outcomes.{Growth, Outcome, Done, Refused}
use Rattle.statement.specs.Cluster.{group_of, Conflict}
use Rattle.statement.specs.Matrix.{distance, score, weight_limit, MatrixWeight}
use Rattle.statement.specs.Table.{stands, table_weight}
use Rattle.statement.specs.Rows.{Row, clusters, Listed, weight_in, Ascending, rows_of, list_of, Same, WellFormed}
use Rattle.statement.specs.Growing.{by_matrix, cost, trivials, others}
use Rattle.statement.specs.Tree.{root, tree_of, walk}
use Rattle.statement.specs.Bytes.{tree_in, tree_length}
use Rattle.statement.specs.Refusals.{Check, Given}
use Rattle.statement.specs.Record.{body_in}
use Rattle.statement.specs.Calls.{write_tree, tree_written, read_tree, sum_paths, paths_written, find_record, write_record, record_written}
use Rattle.paths.specs.RowSum.{PathSums}
use Rattle.tree_read.specs.SameTree.{SameTree, row_place}

-- A WAY TO PART the first n trees into two non-empty groups: the side of each; some tree is on another side than tree 0
pub record Way (n : ℕ) : Type 0 where
  pub side : ℕ → Bool
  pub other : (i : ℕ) × (i < n) × (side i ≢ side 0)

-- its group number: that of the group without tree 0
abbrev pub group_number : (n : ℕ) → Way n → ℕ
group_number n way = group_of (λ i. not (beq (way.side i) (way.side 0))) n

-- every four uu'|vv' with u and u' in one group, v and v' in the other
abbrev pub EveryFour : (n : ℕ) → Way n → (Way n → ℕ → ℕ → ℕ → ℕ → Type 0) → Type 0
EveryFour n way Above =
    (u u' v v' : ℕ) → u < n → u' < n → v < n → v' < n → way.side u ≡ way.side u' → way.side v ≡ way.side v' → way.side u ≢ way.side v
    → Above way u u' v v'

-- two trees of a group are different, unless the tree is alone on its side
abbrev pub DifferentUnlessAlone : (n : ℕ) → Way n → ℕ → ℕ → Type 0
DifferentUnlessAlone n way u u' = u ≡ u' → ((i : ℕ) → i < n → way.side i ≡ way.side u → i ≡ u)

-- what the rule asks about scores above zero: on a matrix a group of two or more gives only pairs of different trees; on a table each four of different
-- taxa stands in it, so parted
abbrev pub MatrixAbove : (n : ℕ) → List ℕ → Way n → ℕ → ℕ → ℕ → ℕ → Type 0
MatrixAbove n entries way u u' v v' =
    DifferentUnlessAlone n way u u' → DifferentUnlessAlone n way v v' → pos 0 <ℤ score (distance n entries) u u' v v'

abbrev pub TableAbove : (n : ℕ) → List ℕ → Way n → ℕ → ℕ → ℕ → ℕ → Type 0
TableAbove n bytes way u u' v v' = u ≢ u' → v ≢ v' → stands bytes u u' v v' ≡ true

-- DEMAND 3. "Of every way to part the trees into two non-empty groups, the list holds each way whose every four the rule asks about scores above
-- zero, once, lowest group number first, and no other. No two listed splits conflict, there are at most 2n-3, and every walk up the finished tree
-- ends at its root."
pub record Demand3 (n : ℕ) (Above : Way n → ℕ → ℕ → ℕ → ℕ → Type 0) (reply : Growth) : Type 0 where
  pub finished : (reply.outcome ≡ Done) × (reply.list.taxa ≡ n)
  pub holds_each : (way : Way n) → EveryFour n way Above → Listed (group_number n way) (rows_of reply.list)
  pub once_lowest_first : Ascending 1 (2 ^ n) (clusters (rows_of reply.list))
  pub no_other : (c : ℕ) → Listed c (rows_of reply.list) → (way : Way n) × (group_number n way ≡ c) × EveryFour n way Above
  pub no_conflict : (a b : ℕ) → Listed a (rows_of reply.list) → Listed b (rows_of reply.list) → Conflict n a b → ⊥
  pub at_most : reply.list.rows ≤ 2 * n - 3
  pub walks_end : (v : ℕ) → v ≤ reply.list.rows
      → walk (tree_of n (rows_of reply.list)) reply.list.rows v ≡ root (tree_of n (rows_of reply.list))

-- and what it costs: at most 2n² - 7n + 7 trials
abbrev pub FewTrials : ℕ → Growth → Type 0
FewTrials n reply = reply.trials + 7 * n ≤ 2 * (n * n) + 7

-- the next taxon, on a matrix (document 02 §7): both extensions of every trivial split, listed or not, and of every listed one that is not trivial, plus
-- one
abbrev pub NextCost : (ℕ → ℕ → ℕ) → Splits → Type 0
NextCost d s = cost (by_matrix d) s ≡ 2 * (trivials s.taxa + others s.taxa (clusters (rows_of s))) + 1

-- DEMAND 2, of the weights: each listed split weighs the least score over its fours; on a table, 1
abbrev pub MatrixWeights : ℕ → List ℕ → Growth → Type 0
MatrixWeights n entries reply =
    (c : ℕ) → Listed c (rows_of reply.list) → MatrixWeight (distance n entries) n c (pos (weight_in (rows_of reply.list) c))

abbrev pub TableWeights : Growth → Type 0
TableWeights reply = (c : ℕ) → Listed c (rows_of reply.list) → weight_in (rows_of reply.list) c ≡ table_weight

-- DEMAND 2, of trees: "A list of splits becomes its tree, that tree read again yields the list"
abbrev pub ReadsBack : ℕ → Splits → List ℕ → Type 0
ReadsBack n s out = write_tree n s out ≡ Done → read_tree n (tree_written n s out) ≡ record { outcome = Done; list = list_of n (rows_of s) }

-- a tree read in any numbering gives a well-formed list with k = n, and writing that list gives the same tree in row order
pub record TreeRead (n : ℕ) (body : List ℕ) (list : Splits) : Type 0 where
  pub taxa : list.taxa ≡ n
  pub well : WellFormed weight_limit n list
  pub written : (out : List ℕ) → length out ≡ tree_length n list.rows → write_tree n list out ≡ Done
  pub same : (out : List ℕ) → length out ≡ tree_length n list.rows
      → SameTree n (tree_in n body) (tree_in n (tree_written n list out)) (row_place n (tree_in n body) (rows_of list))

-- "path lengths are exact sums": an accepted call leaves, for each two taxa, the sum along the tree's path between their homes; it is the sum over
-- the rows that part them, the same both ways, 0 to itself, and never above 250,000,000
abbrev pub ExactSums : ℕ → Splits → List ℕ → Type 0
ExactSums n s out = sum_paths n s out ≡ Done → PathSums n (rows_of s) (paths_written n s out)

-- "finding what was written gives that body": after an accepted writing the slice holds a record that is found, with the body that was written
abbrev pub FoundAgain : ℕ → ℕ → List ℕ → List ℕ → Type 0
FoundAgain kind n body out =
    write_record kind n body out ≡ Done → (find_record (record_written kind n body out) ≡ Done) × (body_in (record_written kind n body out) ≡ body)

-- DEMAND 1: a reply is refused with a number at a place exactly when the table of refusals says so
abbrev pub ExactlyWhen : Outcome → List Check → Type 0
ExactlyWhen outcome checks = (number place : ℕ) → (outcome ≡ Refused number place) ↔ Given checks number place

-- and a refused reply is the one listed: a run hands back an empty list with k = 0 and 0 trials, growth the given list and 0 trials, a tree reading
-- an empty list with k = 0
abbrev pub RefusedIs : {A : Type 0} → (A → Outcome) → A → (Outcome → A) → Type 0
RefusedIs outcome_in reply listed = (number place : ℕ) → outcome_in reply ≡ Refused number place → reply ≡ listed (Refused number place)

-- "No refusal alters a lent buffer": where the outcome is a refusal, what the buffer holds afterwards is what it held before
abbrev pub Unaltered : Outcome → List ℕ → List ℕ → Type 0
Unaltered outcome before after = (number place : ℕ) → outcome ≡ Refused number place → after ≡ before

-- GROWTH BY ONE TAXON, of any well-formed list s to the list more: it keeps the growth rule, is well-formed again, and where s was the full answer
-- for its taxa, it is that for one more
pub record Grows (Rule : List Row → List Row → Type 0) (Answer : ℕ → List Row → Type 0) (most n : ℕ) (s more : Splits) : Type 0 where
  pub taxa : more.taxa ≡ suc s.taxa
  pub rule : Rule (rows_of s) (rows_of more)
  pub well : WellFormed most n more
  pub answer : Answer s.taxa (rows_of s) → Answer (suc s.taxa) (rows_of more)

-- "Spare rows of a given list aren't looked at": two lists that are the same, each in its room of 125 rows, get replies that say the same
pub record InRoom (s : Splits) : Type 0 where
  pub clusters : length s.clusters ≡ 125
  pub weights : length s.weights ≡ 125

pub record SameReply (g h : Growth) : Type 0 where
  pub outcome : g.outcome ≡ h.outcome
  pub list : Same g.list h.list
  pub trials : g.trials ≡ h.trials

abbrev pub SpareUnseen : (Splits → Growth) → Type 0
SpareUnseen reply = (s t : Splits) → InRoom s → InRoom t → Same s t → SameReply (reply s) (reply t)

abbrev pub SpareUnseenBy : {A : Type 0} → (Splits → A) → Type 0
SpareUnseenBy reply = (s t : Splits) → InRoom s → InRoom t → Same s t → reply s ≡ reply t
