-- DEMAND 2, of trees, over the two calls: written and read back; read in any numbering and written in row order. Assumes nothing.
use Prim.Native.Nat.{ℕ, ◌+◌, ◌-◌, ◌*◌, ◌≤◌}
use native.Mathlib.Omega.{arith}
use mathlib.Core.Path.{◌≡◌, refl, sym, ap, subst}
use mathlib.Core.Bool.{true}
use mathlib.Core.List.{List}
use lib.ListN.{length, replicate, length-append, length-map, length-replicate}
use Rattle.statement.specs.declared.Splits.{Splits}
use Rattle.statement.specs.Outcomes.{Reading, Done}
use Rattle.statement.specs.Matrix.{weight_limit}
use Rattle.statement.specs.Rows.{Row, clusters, weights, filled, list_of, well_formed, WellFormed}
use Rattle.statement.specs.Tree.{tree_of, rows_of_tree}
use Rattle.statement.specs.Bytes.{tree_in, tree_length}
use Rattle.statement.specs.Refusals.{AllPassed, tree_checks}
use Rattle.statement.specs.Calls.{write_tree, tree_written, read_tree}
use Rattle.statement.proofs.Lists.{rows_of_list}
use Rattle.statement.proofs.Run.{rows_few}
use Rattle.statement.proofs.Allowance.{rows_well}
use Rattle.statement.proofs.WellFormed.{well_formed_is}
use Rattle.statement.proofs.Enlarged.{WellRows}
use Rattle.statement.proofs.Accepted.{taxa_passed}
use Rattle.statement.proofs.Refused.{passed_done}
use Rattle.statement.proofs.Outputs.{output_accepted}
use Rattle.tree_write.proofs.RoundTrip.{write_read, tree_of_body}
use Rattle.tree_read.proofs.Rows.{read_well}
use Rattle.tree_read.proofs.Renumbered.{read_same}
use Rattle.paths.proofs.Entries.{sums_written}
use Rattle.claims.specs.Demands.{ReadsBack, TreeRead, ExactSums}

-- the list's arrays have their 125 places, as every value of its type has
pub reads_back : (n : ℕ) (s : Splits) (out : List ℕ) → length s.clusters ≡ 125 → length s.weights ≡ 125 → ReadsBack n s out
reads_back = write_read

-- filled up to 125 places
filled_length : (xs : List ℕ) → length xs ≤ 125 → length (filled xs) ≡ 125
unfolding filled
filled_length xs h = omega (arith, length-append xs (replicate (125 - length xs) 0), length-replicate {A = ℕ} (125 - length xs) 0)

abbrev tree_rows : ℕ → List ℕ → List Row
tree_rows n body = rows_of_tree n (tree_in n body)

module _ (n : ℕ) (body : List ℕ) (passed : AllPassed (tree_checks n body)) where
  few : (2 ≤ n) × (n ≤ 64)
  few = (taxa_passed n).0 passed.0

  well : WellRows weight_limit n (tree_rows n body)
  well = read_well n body passed

  count : length (tree_rows n body) + 3 ≤ 2 * n
  count = rows_few weight_limit n (tree_rows n body) few.0 well

  list_is : read_tree n body ≡ record { outcome = Done; list = list_of n (tree_rows n body) }
  unfolding read_tree
  list_is = rw (passed_done (tree_checks n body) passed)

  formed : WellFormed weight_limit n (list_of n (tree_rows n body))
  formed = rows_well weight_limit n n (tree_rows n body) few.0 (omega arith) well

  tested : well_formed weight_limit n (list_of n (tree_rows n body)) ≡ true
  unfolding list_of
  tested =
      (well_formed_is weight_limit n (list_of n (tree_rows n body))
      (filled_length (clusters (tree_rows n body)) (omega (arith, length-map (tree_rows n body) (λ r. r.cluster), count, few)))
      (filled_length (weights (tree_rows n body)) (omega (arith, length-map (tree_rows n body) (λ r. r.weight), count, few))) few.1).1 formed

  -- writing that list, where the slice has the length
  module _ (out : List ℕ) (size : length out ≡ tree_length n (length (tree_rows n body))) where
    accepted : write_tree n (list_of n (tree_rows n body)) out ≡ Done
    unfolding write_tree list_of
    accepted =
        (output_accepted n (list_of n (tree_rows n body)) (length out) (tree_length n (list_of n (tree_rows n body)).rows)).1
        (record { two = few.0; few = few.1; well = tested; whole = refl; size = size })

    in_row_order : tree_in n (tree_written n (list_of n (tree_rows n body)) out) ≡ tree_of n (tree_rows n body)
    unfolding tree_written
    in_row_order =
        rw (accepted, rows_of_list n (tree_rows n body)) (tree_of_body n (tree_rows n body) few.0 few.1 well)

  rows_counted : (list_of n (tree_rows n body)).rows ≡ length (tree_rows n body)
  unfolding list_of
  rows_counted = refl

  pub tree_read : TreeRead n body (read_tree n body).list
  unfolding list_of
  tree_read =
      subst (TreeRead n body) (sym (ap (λ (r : Reading). r.list) list_is))
      (record {
        taxa = refl;
        well = formed;
        written = λ out size. accepted out (omega (arith, rows_counted));
        same = λ out size.
            rw (in_row_order out (omega (arith, rows_counted)), rows_of_list n (tree_rows n body)) (read_same n body passed);
      })

-- PATH SUMS, over the call: what an accepted call leaves in the slice
pub path_sums_law : (n : ℕ) (s : Splits) (out : List ℕ) → length s.clusters ≡ 125 → length s.weights ≡ 125 → ExactSums n s out
path_sums_law = sums_written
