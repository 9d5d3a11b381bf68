-- A tree read in any numbering gives the rows of a well-formed list. Document 01, "The tree". Assumes nothing.
use Prim.Native.Nat.{ℕ, ◌<◌}
use native.Mathlib.Omega.{arith}
use mathlib.Core.Path.{◌≡◌, refl, sym, ◌∙◌, ap, subst}
use mathlib.Core.List.{List, map}
use Rattle.statement.specs.Cluster.{bit, Conflict}
use Rattle.statement.specs.Matrix.{weight_limit}
use Rattle.statement.specs.Rows.{Row, row, Mem}
use Rattle.statement.specs.Tree.{Tree, root, cluster_of, rows_of_tree}
use Rattle.statement.specs.Bytes.{tree_in}
use Rattle.statement.specs.Refusals.{AllPassed, tree_checks}
use Rattle.statement.proofs.Enlarged.{WellRows}
use Rattle.tree_read.specs.Accepted.{AcceptedTree, weight_at}
use Rattle.row_sort.specs.Sorted.{Edges, sorted_of}
use Rattle.tree_read.proofs.Passed.{tree_accepted}
use Rattle.tree_read.proofs.Clusters.{cluster_split, no_conflict}
use Rattle.row_sort.proofs.Sorting.{mem_held, edge_of, sorted_up}

-- the row of a vertex's edge
abbrev pub edge : ℕ → Tree → ℕ → Row
edge n t v = row (cluster_of t v n) (weight_at t v)

-- the rows of a tree are those of its edges
pub rows_are : (n : ℕ) (t : Tree) → rows_of_tree n t ≡ sorted_of (edge n t) (root t)
unfolding rows_of_tree sorted_of
rows_are n t = refl

pub tree_edges : (n : ℕ) (t : Tree) → AcceptedTree n t → Edges n (root t) (λ v. cluster_of t v n)
tree_edges n t a = record { splits = cluster_split n t a; apart = a.apart }

module _ (n : ℕ) (t : Tree) (a : AcceptedTree n t) where
  column_of : (f : Row → ℕ) (c : ℕ) → Mem c (map f (sorted_of (edge n t) (root t))) → (v : ℕ) × (v < root t) × (c ≡ f (edge n t v))
  column_of f c m =
      let (r, h, e) = mem_held f c (sorted_of (edge n t) (root t)) m in
      let (v, l, q) = edge_of (edge n t) (root t) r h in
      (v, l, e ∙ ap f q)

  sorted_well : WellRows weight_limit n (sorted_of (edge n t) (root t))
  sorted_well =
      record {
        clean = record {
          up = sorted_up (edge n t) (root t) n (tree_edges n t a);
          free = λ c m. let (v, l, e) = column_of (λ r. r.cluster) c m in ap (λ (x : ℕ). bit x 0) e ∙ (cluster_split n t a v l).free;
          clean = λ x y mx my h.
              let (u, lu, ex) = column_of (λ r. r.cluster) x mx in
              let (v, lv, ey) = column_of (λ r. r.cluster) y my in
              no_conflict n t a u v (subst (λ (z : ℕ). Conflict n z (cluster_of t v n)) ex (subst (λ (z : ℕ). Conflict n x z) ey h));
        };
        weigh = λ w m. let (v, l, e) = column_of (λ r. r.weight) w m in let (low, high) = a.weighed v l in (omega arith, omega arith);
      }

  pub rows_well : WellRows weight_limit n (rows_of_tree n t)
  rows_well = subst (WellRows weight_limit n) (sym (rows_are n t)) sorted_well

-- A TREE READ gives a well-formed list
pub read_well : (n : ℕ) (body : List ℕ) → AllPassed (tree_checks n body) → WellRows weight_limit n (rows_of_tree n (tree_in n body))
read_well n body p = rows_well n (tree_in n body) (tree_accepted n body p)
