-- THE ROUND TRIP: the tree written of a well-formed list passes every check of a reader, and reading it gives that list. Document 01, "The tree",
-- and for the order of the checks "Refusal numbers". Assumes nothing.
use Prim.Native.Nat.{ℕ, suc, ◌+◌, ◌*◌, ◌-◌, ◌≤◌, ◌<◌}
use native.Mathlib.Omega.{arith}
use native.Mathlib.Decide.{dec_lt}
use mathlib.Core.Path.{◌≡◌, sym, ◌∙◌, ap, subst}
use mathlib.Core.Logic.{◌≢◌}
use mathlib.Core.Bool.{not, ◌&&◌}
use mathlib.Core.List.{List, [], ◌∷◌}
use lib.Dec.{ltb, eqb}
use lib.ListN.{length, get_or, length-map}
use borrow.Author.Tests.{eqb-false, eq-eqb, ne_eqb, not-true}
use Rattle.statement.specs.declared.Splits.{Splits}
use Rattle.statement.specs.Outcomes.{Reading, Done}
use Rattle.statement.specs.Matrix.{weight_limit}
use Rattle.statement.specs.Rows.{Row, weights, Mem, rows_of, list_of}
use Rattle.statement.specs.Tree.{Tree, root, cluster_at, home_of, tree_of, walk, cluster_of, rows_of_tree}
use Rattle.statement.specs.Bytes.{tree_body, tree_in, tree_length}
use Rattle.statement.specs.Refusals.{Passed, AllPassed, outcome_of, length_off, tree_fits, tree_off, weight_off, walk_off, home_off, edge_off, twin_off, tree_checks}
use Rattle.statement.specs.Calls.{write_tree, tree_written, read_tree}
use Rattle.statement.proofs.Listed.{mem_get_d}
use Rattle.statement.proofs.Lowest.{some_at, none_at}
use Rattle.statement.proofs.Tests.{same_is, neither_is, not_is, fails_is, none_is, not_less_is, unless_is}
use Rattle.statement.proofs.Walks.{root_is, link_is, home_is, cluster_range, ascending, link_later, walks_end}
use Rattle.statement.proofs.Enlarged.{WellRows}
use Rattle.statement.proofs.Run.{rows_few}
use Rattle.statement.proofs.Refused.{passed_done}
use Rattle.statement.proofs.Accepted.{taxa_passed}
use Rattle.splits_list.proofs.Whole.{taken_rows, done_taken, done_filled}
use Rattle.tree_write.proofs.Smallest.{home_smallest, free_at}
use Rattle.tree_write.proofs.Clusters.{cluster_of_list, list_tree_list}
use Rattle.tree_write.proofs.Body.{Sized, tree_size, body_length_law, body_vertex, vertices_within, tree_in_body}

module _ (n : ℕ) (rows : List Row) (two : 2 ≤ n) (few : n ≤ 64) (well : WellRows weight_limit n rows) where
  abbrev tree : Tree
  tree = tree_of n rows

  abbrev body : List ℕ
  body = tree_body (tree_of n rows)

  edges : root tree ≡ length rows
  edges = root_is n rows

  size : Sized n tree
  size = tree_size n rows

  weight_listed : (v : ℕ) → v < length rows → Mem (get_or tree.weights v 0) (weights rows)
  unfolding tree_of
  weight_listed v l = mem_get_d (weights rows) v (omega (arith, length-map rows (λ r. r.weight)))

  pub tree_of_body : tree_in n body ≡ tree
  unfolding tree_of
  tree_of_body = tree_in_body n tree size (λ w m. omega (arith, (well.weigh w m).1))

  length_passed : Passed (length_off (tree_fits n (length body)))
  length_passed i l =
      ap not
      (some_at (λ m. eqb (length body) (tree_length n m)) (2 * n - 2) (length rows) (omega (arith, rows_few weight_limit n rows two well))
      (eq-eqb (length body) (tree_length n (length rows)) (body_length_law n tree size ∙ ap (tree_length n) edges)))

  link_within : (i : ℕ) → i < root tree → get_or tree.links i 0 ≤ root tree
  link_within i l =
      let h : i < length rows = omega (arith, edges) in
      omega (arith, edges, link_is n rows i 0 h, (link_later n rows well.clean.up i h).1)

  home_within : (i : ℕ) → i < n → get_or tree.homes i 0 ≤ root tree
  home_within i l = omega (arith, edges, home_is n rows i l, (home_smallest n rows well.clean i l).to)

  body_passed : Passed (tree_off n body)
  unfolding tree_body
  body_passed i l =
      (neither_is (not_is (same_is (length body) (tree_length n (root tree))))
      (none_is (λ i. ltb (root tree) (get_or body (1 + i) 0)) (root tree + n) (λ i. not_less_is (root tree) (get_or body (1 + i) 0)))).1 (
        body_length_law n tree size,
        λ i l. omega (arith, body_vertex n tree size i l, vertices_within n tree size (root tree) link_within home_within i l),
      )

  weight_passed : Passed (weight_off tree)
  weight_passed v l =
      let (low, high) = well.weigh (get_or tree.weights v 0) (weight_listed v (omega (arith, edges))) in
      (neither_is (fails_is (same_is (get_or tree.weights v 0) 0)) (not_less_is weight_limit (get_or tree.weights v 0))).1 (λ e. omega arith, high)

  walk_passed : Passed (walk_off tree)
  walk_passed v l =
      ap not
      (some_at (λ s. eqb (walk tree s v) (root tree)) (suc (root tree)) (length rows) (omega (arith, edges))
      (eq-eqb _ _ (walks_end n rows well.clean.up v (omega (arith, edges)))))

  home_passed : Passed (home_off tree)
  home_passed i l = ap not (eq-eqb _ _ (home_is n rows 0 (omega arith) ∙ at_root (dec_lt (home_of rows 0) (length rows)) ∙ sym edges))
    where
      at_root : Dec (home_of rows 0 < length rows) → home_of rows 0 ≡ length rows
      at_root (yes h) =
          absurd (omega (arith, free_at n rows well.clean (home_of rows 0) h, (home_smallest n rows well.clean 0 (omega arith)).holds h))
      at_root (no h) = omega (arith, (home_smallest n rows well.clean 0 (omega arith)).to)

  -- each edge has its own row's cluster
  edge_cluster : (v : ℕ) → v < root tree → cluster_of tree v n ≡ cluster_at rows v
  edge_cluster v l = cluster_of_list n rows well.clean v (omega (arith, edges))

  edge_passed : Passed (edge_off n tree)
  edge_passed v l = ne_eqb (cluster_of tree v n) 0 (λ e. omega (arith, edge_cluster v l, (cluster_range n rows well.clean.up v (omega (arith, edges))).0))

  apart : (v w : ℕ) → v < root tree → w < root tree → v ≢ w → cluster_at rows v ≢ cluster_at rows w
  apart v w lv lw other e = go (dec_lt v w) (dec_lt w v)
    where
      go : Dec (v < w) → Dec (w < v) → ⊥
      go (yes h) d = omega (arith, ascending n rows well.clean.up v w h (omega (arith, edges)))
      go (no h) (yes g) = omega (arith, ascending n rows well.clean.up w v g (omega (arith, edges)))
      go (no h) (no g) = other (omega arith)

  twin_passed : Passed (twin_off n tree)
  twin_passed v lv =
      none_at (λ w. not (eqb v w) && eqb (cluster_of tree v n) (cluster_of tree w n)) (root tree)
      (λ w lw. (unless_is (not (eqb v w)) (fails_is (same_is (cluster_of tree v n) (cluster_of tree w n)))).1
      (λ e same. apart v w lv lw (eqb-false v w (not-true _ e)) (sym (edge_cluster v lv) ∙ same ∙ edge_cluster w lw)))

  -- THE WRITTEN TREE PASSES EVERY CHECK
  pub written_passes : AllPassed (tree_checks n body)
  written_passes = ((taxa_passed n).1 (two, few), (length_passed, (body_passed, own (sym tree_of_body))))
    where
      own : {t : Tree} → tree ≡ t → AllPassed (weight_off t ∷ walk_off t ∷ home_off t ∷ edge_off n t ∷ twin_off n t ∷ [])
      own e =
          subst (λ (t : Tree). AllPassed (weight_off t ∷ walk_off t ∷ home_off t ∷ edge_off n t ∷ twin_off n t ∷ [])) e
          (weight_passed, (walk_passed, (home_passed, (edge_passed, (twin_passed, tt)))))

  pub written_accepted : outcome_of (tree_checks n body) ≡ Done
  written_accepted = passed_done (tree_checks n body) written_passes

  -- AND READING IT GIVES THE LIST
  pub written_read : read_tree n body ≡ record { outcome = Done; list = list_of n rows }
  unfolding read_tree
  written_read =
      rw written_accepted
      (ap read (ap (rows_of_tree n) tree_of_body ∙ list_tree_list n rows well.clean))
    where
      read : List Row → Reading
      read l = record { outcome = Done; list = list_of n l }

-- what the writer wrote of a list is read back as that list
pub write_read : (n : ℕ) (s : Splits) (out : List ℕ) → length s.clusters ≡ 125 → length s.weights ≡ 125
    → write_tree n s out ≡ Done → read_tree n (tree_written n s out) ≡ record { outcome = Done; list = list_of n (rows_of s) }
unfolding write_tree tree_written
write_read n s out hc hw done =
    let body = tree_body (tree_of n (rows_of s)) in
    let ok = done_taken n s out (tree_length n s.rows) body done in
    ap (read_tree n) (done_filled n s out (tree_length n s.rows) body done)
    ∙ written_read n (rows_of s) ok.two ok.few (taken_rows n s hc hw ok)
