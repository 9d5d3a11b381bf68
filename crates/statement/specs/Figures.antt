-- Document 01, "Figures to check against": the items marked P, as one table, two of them as document 02 §7 changes them. What the definitions say, beside
-- what the documents say.
use Rattle.std.specs.Prelude.{ℕ, ◌≡◌, List, [], ◌∷◌, ℤ, negsuc, get_or}
use Rattle.statement.specs.Outcomes.{Growth, Outcome, Short, Refused}
use Rattle.statement.specs.Matrix.{distance, score}
use Rattle.statement.specs.Rows.{Row, row, clusters, weight_in, rows_of}
use Rattle.statement.specs.Tree.{tree_of, path_sum}
use Rattle.statement.specs.Calls.{empty_list, run_matrix, run_table, grow_matrix, read_tree}

-- the matrices of four, three and two taxa with these distances: d01, d02, d03, d12, d13, d23
abbrev pub four : ℕ → ℕ → ℕ → ℕ → ℕ → ℕ → List ℕ
four a b c d e f = 0 ∷ a ∷ b ∷ c ∷ a ∷ 0 ∷ d ∷ e ∷ b ∷ d ∷ 0 ∷ f ∷ c ∷ e ∷ f ∷ 0 ∷ []

abbrev pub three : ℕ → ℕ → ℕ → List ℕ
three a b c = 0 ∷ a ∷ b ∷ a ∷ 0 ∷ c ∷ b ∷ c ∷ 0 ∷ []

abbrev pub two : ℕ → List ℕ
two a = 0 ∷ a ∷ a ∷ 0 ∷ []

abbrev pub matrix_a : List ℕ
matrix_a = four 5 9 10 10 11 9

-- a run's list and trials, and how a growth ended: outcome, taxa and trials
pub record Listing : Type 0 where
  pub taxa : ℕ
  pub trials : ℕ
  pub rows : List Row

abbrev pub listing : Growth → Listing
listing g = record { taxa = g.list.taxa; trials = g.trials; rows = rows_of g.list }

pub record Ending : Type 0 where
  pub outcome : Outcome
  pub taxa : ℕ
  pub trials : ℕ

abbrev pub ending : Growth → Ending
ending g = record { outcome = g.outcome; taxa = g.list.taxa; trials = g.trials }

-- the rows, the clusters, and the weight of one cluster (0 where it is absent) of a run
abbrev pub rows_in : Growth → List Row
rows_in g = rows_of g.list

abbrev pub clusters_in : Growth → List ℕ
clusters_in g = clusters (rows_in g)

abbrev pub weight_of : Growth → ℕ → ℕ
weight_of g c = weight_in (rows_in g) c

-- the path sum between two taxa in a run's tree
abbrev pub path_in : Growth → ℕ → ℕ → ℕ
path_in g i j = let t = tree_of g.list.taxa (rows_in g) in path_sum t (get_or t.homes i 0) (get_or t.homes j 0)

-- ONE FIGURE: what is got from the definitions, and what is stated in the document
pub record Figure : Type 1 where
  pub Of : Type 0
  pub got : Of
  pub stated : Of

abbrev pub Holds : List Figure → Type 0
Holds [] = Unit {0}
Holds (f ∷ fs) = (f.got ≡ f.stated) × Holds fs

abbrev pub figures : List Figure
figures =
    -- A's list
    record { Of = Listing; got = listing (run_matrix 4 matrix_a); stated = record { taxa = 4; trials = 11; rows = row 2 6 ∷ row 4 8 ∷ row 8 10 ∷ row 12 6 ∷ row 14 4 ∷ [] } }
    -- A with allowance 10 is short at k = 3, 4 trials spent
    ∷ record { Of = Ending; got = ending (grow_matrix 4 matrix_a (empty_list 1) 10); stated = record { outcome = Short; taxa = 3; trials = 4 } }
    -- A with d01 = 10 has cluster 12 at weight 1; with d01 = 11 it has not
    ∷ record { Of = ℕ; got = weight_of (run_matrix 4 (four 10 9 10 10 11 9)) 12; stated = 1 }
    ∷ record { Of = ℕ; got = weight_of (run_matrix 4 (four 11 9 10 10 11 9)) 12; stated = 0 }
    -- n = 2, distance 0: no row; distance 1: 2 2
    ∷ record { Of = List Row; got = rows_in (run_matrix 2 (two 0)); stated = [] }
    ∷ record { Of = List Row; got = rows_in (run_matrix 2 (two 1)); stated = row 2 2 ∷ [] }
    -- n = 3, d01 1, d02 1, d12 3: rows 2 3, 4 3 only (document 02 §7)
    ∷ record { Of = List Row; got = rows_in (run_matrix 3 (three 1 1 3)); stated = row 2 3 ∷ row 4 3 ∷ [] }
    -- n = 4, d01, d02, d03 all 1, d12 10, d13 10, d23 3: cluster 12 weighs 7 (document 02 §7), though 00|23 scores -1
    ∷ record { Of = ℕ; got = weight_of (run_matrix 4 (four 1 1 1 10 10 3)) 12; stated = 7 }
    ∷ record { Of = ℤ; got = score (distance 4 (four 1 1 1 10 10 3)) 0 0 2 3; stated = negsuc 0 }
    -- its whole list: taxon 0 by itself (14) is not supported, and 12 weighs more than 4 and 8
    ∷ record { Of = List Row; got = rows_in (run_matrix 4 (four 1 1 1 10 10 3)); stated = row 2 10 ∷ row 4 3 ∷ row 8 3 ∷ row 12 7 ∷ [] }
    -- table, n = 5, bytes 1 1 1 1 1; first byte 0 instead: 28 goes, the rest stay
    ∷ record { Of = List ℕ; got = clusters_in (run_table 5 (1 ∷ 1 ∷ 1 ∷ 1 ∷ 1 ∷ [])); stated = 2 ∷ 4 ∷ 8 ∷ 16 ∷ 24 ∷ 28 ∷ 30 ∷ [] }
    ∷ record { Of = List ℕ; got = clusters_in (run_table 5 (0 ∷ 1 ∷ 1 ∷ 1 ∷ 1 ∷ [])); stated = 2 ∷ 4 ∷ 8 ∷ 16 ∷ 24 ∷ 30 ∷ [] }
    -- path sum in A's tree between 0 and 3
    ∷ record { Of = ℕ; got = path_in (run_matrix 4 matrix_a) 0 3; stated = 20 }
    -- n = 3, m = 2, links 1 0, homes 2 0 1, weights 1 1: refusal 10 at 0
    ∷ record { Of = Outcome; got = (read_tree 3 (2 ∷ 1 ∷ 0 ∷ 2 ∷ 0 ∷ 1 ∷ 1 ∷ 0 ∷ 0 ∷ 0 ∷ 1 ∷ 0 ∷ 0 ∷ 0 ∷ [])).outcome; stated = Refused 10 0 }
    ∷ []
