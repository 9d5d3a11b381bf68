-- Document 01, "The tree": links and homes of a list, the walk up, the cluster of an edge, the path between two homes and its sum.
use Rattle.std.specs.Prelude.{ℕ, zero, suc, ◌+◌, ◌*◌, ◌/◌, ◌%◌, Bool, cond, not, ◌&&◌, List, [], ◌∷◌, map, leb, eqb, length, get_or}
use Rattle.statement.specs.Cluster.{bit, group_of}
use Rattle.statement.specs.Lowest.{lowest, somewhere, nowhere}
use Rattle.statement.specs.Rows.{Row, row, clusters, weights}

-- the numbers from i on, m of them
unfoldable pub numbers : ℕ → ℕ → List ℕ
numbers i zero = []
numbers i (suc m) = i ∷ numbers (suc i) m

-- A tree with m edges: vertices 0 to m - 1, each with its link and the weight of the edge to it, and the root m; a home for each taxon
pub record Tree : Type 0 where
  pub links : List ℕ
  pub homes : List ℕ
  pub weights : List ℕ

abbrev pub root : Tree → ℕ
root t = length t.links

-- THE TREE OF A LIST, vertices in row order
abbrev pub cluster_at : List Row → ℕ → ℕ
cluster_at rows i = get_or (clusters rows) i 0

-- every taxon below n of the group a is in the group b, and the two differ
abbrev pub strictly_in : ℕ → ℕ → ℕ → Bool
strictly_in n a b = nowhere (λ i. eqb (bit a i) 1 && eqb (bit b i) 0) n && not (eqb a b)

-- the smallest listed cluster strictly containing that of row i, else m: rows ascend, so the lowest is the smallest
unfoldable pub link_of : ℕ → List Row → ℕ → ℕ
link_of n rows i = lowest (λ j. strictly_in n (cluster_at rows i) (cluster_at rows j)) (length rows)

-- the smallest listed cluster containing the taxon, else m
unfoldable pub home_of : List Row → ℕ → ℕ
home_of rows taxon = lowest (λ j. eqb (bit (cluster_at rows j) taxon) 1) (length rows)

unfoldable pub tree_of : ℕ → List Row → Tree
tree_of n rows =
    record { links = map (link_of n rows) (numbers 0 (length rows)); homes = map (home_of rows) (numbers 0 n); weights = weights rows }

-- THE WALK UP: a step goes to the link; the root stays
abbrev pub up : Tree → ℕ → ℕ
up t v = get_or t.links v (root t)

unfoldable pub walk : Tree → ℕ → ℕ → ℕ
walk t zero v = v
walk t (suc s) v = walk t s (up t v)

-- b is on the walk up from a; as many steps as there are edges are enough
abbrev pub on_walk : Tree → ℕ → ℕ → Bool
on_walk t a b = somewhere (λ s. eqb (walk t s a) b) (suc (root t))

-- THE CLUSTER OF AN EDGE: the taxa below n homed at or below it
unfoldable pub cluster_of : Tree → ℕ → ℕ → ℕ
cluster_of t v n = group_of (λ taxon. on_walk t (get_or t.homes taxon 0) v) n

-- THE LIST OF A TREE: a row for each edge, in ascending order
unfoldable pub insert_row : Row → List Row → List Row
insert_row r [] = r ∷ []
insert_row r (x ∷ xs) = cond (leb r.cluster x.cluster) (r ∷ (x ∷ xs)) (x ∷ insert_row r xs)

unfoldable pub sort_rows : List Row → List Row
sort_rows [] = []
sort_rows (r ∷ rs) = insert_row r (sort_rows rs)

unfoldable pub rows_of_tree : ℕ → Tree → List Row
rows_of_tree n t = sort_rows (map (λ v. row (cluster_of t v n) (get_or t.weights v 0)) (numbers 0 (root t)))

-- THE PATH between two vertices goes up from each to where the walks meet. How many steps the one from a makes
abbrev pub rise : Tree → ℕ → ℕ → ℕ
rise t a b = lowest (λ s. on_walk t b (walk t s a)) (suc (root t))

-- the weights of the first s edges on the walk up from a
unfoldable pub climb : Tree → ℕ → ℕ → ℕ
climb t zero a = 0
climb t (suc s) a = get_or t.weights a 0 + climb t s (up t a)

-- the sum of the weights on the path
unfoldable pub path_sum : Tree → ℕ → ℕ → ℕ
path_sum t a b = climb t (rise t a b) a + climb t (rise t b a) b

-- path sums, n by n, row by row: the entry for two taxa is that of the path between their homes
unfoldable pub path_sums : ℕ → Tree → List ℕ
path_sums n t = map (λ e. path_sum t (get_or t.homes (e / n) 0) (get_or t.homes (e % n) 0)) (numbers 0 (n * n))
