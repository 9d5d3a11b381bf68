-- THE PATH SUMS OF A LIST, entry by entry. Document 01, "The tree". Assumes nothing.
use Prim.Native.Nat.{ℕ, ◌+◌, ◌*◌, ◌/◌, ◌%◌, ◌≤◌, ◌<◌}
use native.Mathlib.Omega.{arith}
use native.Mathlib.Nat.{div-lt_iff_lt-mul, mod-lt}
use mathlib.Core.Path.{◌≡◌, sym, ◌∙◌, ap, ap₂, subst}
use mathlib.Core.List.{List}
use lib.Arith.{digits_lt, digits_div, digits_mod}
use lib.ListN.{length, get_or, length-map}
use lib.Seq.{ext_get_or}
use Rattle.statement.specs.declared.Splits.{Splits}
use Rattle.statement.specs.Outcomes.{Done}
use Rattle.statement.specs.Matrix.{weight_limit}
use Rattle.statement.specs.Rows.{Row, clusters, rows_of}
use Rattle.statement.specs.Tree.{numbers, tree_of, path_sum, path_sums}
use Rattle.statement.specs.Calls.{sum_paths, paths_written}
use Rattle.statement.proofs.Walks.{numbers_length, map_at, home_is}
use Rattle.statement.proofs.Answer.{Clean}
use Rattle.statement.proofs.Enlarged.{WellRows}
use Rattle.statement.proofs.Run.{rows_few}
use Rattle.splits_list.proofs.Whole.{taken_rows, done_taken, done_filled}
use Rattle.paths.specs.RowSum.{row_sum, PathSums}
use Rattle.paths.proofs.Sums.{same_both_ways, none_to_itself, sum_small}
use Rattle.paths.proofs.ByRows.{path_by_rows}

-- the two taxa of an entry
pub taxa_of_law : (n e : ℕ) → 0 < n → e < n * n → (e / n < n) × (e % n < n)
taxa_of_law n e some l = ((div-lt_iff_lt-mul some).1 l, mod-lt e some)

module _ (n : ℕ) (rows : List Row) (clean : Clean n (clusters rows)) where
  -- what the definition has at an entry
  abbrev at : ℕ → ℕ
  at e = let t = tree_of n rows in path_sum t (get_or t.homes (e / n) 0) (get_or t.homes (e % n) 0)

  sums_size : length (path_sums n (tree_of n rows)) ≡ n * n
  unfolding path_sums
  sums_size = length-map (numbers 0 (n * n)) at ∙ numbers_length 0 (n * n)

  entry_by_rows : (e : ℕ) → 0 < n → e < n * n → get_or (path_sums n (tree_of n rows)) e 0 ≡ row_sum rows (e / n) (e % n)
  unfolding path_sums
  entry_by_rows e some l =
      let (li, lj) = taxa_of_law n e some l in
      map_at at 0 (n * n) e 0 l ∙ ap at (let q : 0 + e ≡ e = omega arith in q)
      ∙ ap₂ (path_sum (tree_of n rows)) (home_is n rows (e / n) li) (home_is n rows (e % n) lj) ∙ path_by_rows n rows clean (e / n) (e % n) li lj

  pub taxa_by_rows : (i j : ℕ) → i < n → j < n → get_or (path_sums n (tree_of n rows)) (i * n + j) 0 ≡ row_sum rows i j
  taxa_by_rows i j li lj = entry_by_rows (i * n + j) (omega arith) (digits_lt li lj) ∙ ap₂ (row_sum rows) (digits_div i lj) (digits_mod i lj)

  -- a slice that holds the sum of rows of each entry holds the path sums
  pub sums_filled : (out : List ℕ) → 0 < n → length out ≡ n * n → ((e : ℕ) → e < n * n → get_or out e 0 ≡ row_sum rows (e / n) (e % n))
      → out ≡ path_sums n (tree_of n rows)
  sums_filled out some size filled =
      ext_get_or 0 out (path_sums n (tree_of n rows)) (size ∙ sym sums_size)
      (λ e l. let h : e < n * n = omega arith in filled e h ∙ sym (entry_by_rows e some h))

pub sums_of_rows : (n : ℕ) (rows : List Row) → 2 ≤ n → n ≤ 64 → WellRows weight_limit n rows → PathSums n rows (path_sums n (tree_of n rows))
sums_of_rows n rows two few well =
    let entry = taxa_by_rows n rows well.clean in
    record {
      size = sums_size n rows well.clean;
      by_rows = entry;
      same = λ i j li lj. entry i j li lj ∙ same_both_ways rows i j ∙ sym (entry j i lj li);
      none = λ i li. entry i i li li ∙ none_to_itself rows i;
      small = λ i j li lj.
          omega (
            arith,
            entry i j li lj,
            sum_small rows i j (omega (arith, rows_few weight_limit n rows two well)) (λ w m. (well.weigh w m).1),
          );
    }

-- SO ARE THOSE THAT AN ACCEPTED CALL LEAVES in the slice
pub sums_written : (n : ℕ) (s : Splits) (out : List ℕ) → length s.clusters ≡ 125 → length s.weights ≡ 125
    → sum_paths n s out ≡ Done → PathSums n (rows_of s) (paths_written n s out)
unfolding sum_paths paths_written
sums_written n s out hc hw done =
    let sums = path_sums n (tree_of n (rows_of s)) in
    let ok = done_taken n s out (n * n) sums done in
    subst (PathSums n (rows_of s)) (sym (done_filled n s out (n * n) sums done)) (sums_of_rows n (rows_of s) ok.two ok.few (taken_rows n s hc hw ok))
