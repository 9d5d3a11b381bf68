-- THE ROUND TRIP: the text written of a list, whatever stands behind it, is read back as that list. Document 02, §2. Assumes nothing.
use Prim.Native.Nat.{ℕ, ◌^◌, ◌≤◌}
use native.Mathlib.Omega.{arith}
use mathlib.Core.Path.{◌≡◌, refl, sym, ◌∙◌, ap, ap₂, subst}
use mathlib.Core.Bool.{Bool, true, false, cond, not}
use mathlib.Core.List.{List, [], ◌∷◌, ◌++◌, map}
use lib.ListN.{length}
use borrow.Author.Tests.{ne_eqb, le-ltb}
use Rattle.statement.specs.declared.Splits.{Splits}
use Rattle.statement.specs.Outcomes.{Done}
use Rattle.statement.specs.Cluster.{bit, Out, group_of}
use Rattle.statement.specs.Matrix.{weight_limit}
use Rattle.statement.specs.Rows.{Row, row, clusters, rows_of, list_of}
use Rattle.statement.specs.Tree.{sort_rows}
use Rattle.statement.proofs.Enlarged.{WellRows}
use Rattle.statement.proofs.Groups.{group_bit}
use Rattle.statement.proofs.Listed.{asc_mem}
use Rattle.splits_list.proofs.Whole.{taken_rows, done_taken, done_filled}
use Rattle.row_sort.proofs.Sorting.{Held, held_mem, sort_held}
use Rattle.statement.specs.Sentence.{Children, Edge, among, edges_at, split_made, kept_edges, clusters_of, row_of}
use Rattle.newick_meaning.specs.Parse.{read_newick}
use Rattle.statement.specs.NewickText.{newick_of, newick_length}
use Rattle.statement.specs.Calls.{write_newick, newick_written}
use Rattle.newick_back.specs.Held.{mask, rows_below, positive}
use Rattle.newick_meaning.proofs.Unique.{sentence_read}
use Rattle.newick_reading.proofs.Same.{too_heavy, is_bare}
use Rattle.newick_reading.proofs.Accepted.{Accepted}
use Rattle.newick_reading.proofs.Passing.{none_missing, places_none, twins_none, later_none, accepted_reply}
use Rattle.newick_back.proofs.Counts.{count}
use Rattle.newick_back.proofs.Sorted.{row_total, sort_total}
use Rattle.newick_back.proofs.Said.{All, all_map, all_both, all_in, all_kept, Few, all_few, row_below, edges_are, kept_are, all_held, different_once, row_one, rows_count, asc_once, group_taxa, taxa_good, taxa_all, once, low}
use Rattle.newick_back.proofs.Back.{Holds, newick_holds}

module _ (n : ℕ) (rows : List Row) (two : 2 ≤ n) (few : n ≤ 64) (well : WellRows weight_limit n rows) where
  abbrev f : Children
  f = (newick_holds n rows two few well).0

  holds : Holds n rows two few well f
  holds = (newick_holds n rows two few well).1

  abbrev edges : List Edge
  edges = kept_edges (edges_at 1 f)

  -- by the group below them, the edges that are kept
  kept_rows_law : map row_below edges ≡ positive (rows_below f)
  kept_rows_law = kept_are (edges_at 1 f) ∙ ap positive (edges_are 1 f)

  listed : (e : Edge) → Held (row_below e) (map row_below edges) → Held (row_below e) rows
  listed e h =
      subst (Held (row_below e)) holds.edges ((sort_held (row_below e) (positive (rows_below f))).1 (subst (Held (row_below e)) kept_rows_law h))

  -- what is known of an edge that is kept
  record Good (e : Edge) : Type 0 where
    cluster : split_made n e ≡ mask e.below
    some : 1 ≤ mask e.below
    light : e.weight ≤ weight_limit

  good_edge : (e : Edge) → Few f e → Held (row_below e) rows → Good e
  unfolding split_made
  good_edge e h k =
      let m = held_mem (λ r. r.cluster) (row_below e) rows k in
      let own : mask e.below ≡ group_of (λ i. among i e.below) n =
      group_taxa n e.below (λ i. omega (arith, h i, once n f holds.taxa i)) (λ i l. omega (arith, h i, low n f holds.taxa i l)) in
      let out : Out (mask e.below) 0 = well.clean.free (mask e.below) m in
      let zero_bit : ◌≡◌ {A = ℕ} (cond (among 0 e.below) 1 0) 0 = sym (group_bit (λ i. among i e.below) n 0 (omega arith)) ∙ ap (λ (c : ℕ). bit c 0) (sym own) ∙ out in
      record {
        cluster = ap (λ (b : Bool). group_of (λ x. cond b (not (among x e.below)) (among x e.below)) n) (is_false (among 0 e.below) zero_bit) ∙ sym own;
        some = (asc_mem 1 (2 ^ n) (clusters rows) well.clean.up (mask e.below) m).0;
        light = (well.weigh e.weight (held_mem (λ r. r.weight) (row_below e) rows k)).1;
      }
    where
      is_false : (b : Bool) → ◌≡◌ {A = ℕ} (cond b 1 0) 0 → b ≡ false
      is_false true q = absurd (omega arith)
      is_false false q = refl

  all_good : All Good edges
  all_good =
      all_map (λ e. Few f e × Held (row_below e) (map row_below edges)) Good edges (λ e h. good_edge e h.0 (listed e h.1))
      (all_both (Few f) (λ e. Held (row_below e) (map row_below edges)) edges (all_kept (Few f) (edges_at 1 f) (all_few 1 f)) (all_held edges))

  same_rows : (es : List Edge) → All Good es → map (row_of n) es ≡ map row_below es
  same_rows [] h = refl
  same_rows (e ∷ es) h = ap₂ (λ (r : Row) (rs : List Row). r ∷ rs) (ap (λ (c : ℕ). row c e.weight) h.0.cluster) (same_rows es h.1)

  rows_are : map (row_of n) edges ≡ positive (rows_below f)
  rows_are = same_rows edges all_good ∙ kept_rows_law

  clusters_are : (es : List Edge) → clusters (map (row_of n) es) ≡ clusters_of n es
  unfolding clusters_of
  clusters_are [] = refl
  clusters_are (e ∷ es) = ap (λ (l : List ℕ). split_made n e ∷ l) (clusters_are es)

  -- no cluster twice
  cluster_once : (c : ℕ) → count c (clusters_of n edges) ≤ 1
  cluster_once c =
      let a = ap (count c) (sym (clusters_are edges) ∙ ap clusters rows_are) ∙ rows_count c (positive (rows_below f)) in
      let b = sym (sort_total (row_one c) (positive (rows_below f))) ∙ ap (row_total (row_one c)) holds.edges ∙ sym (rows_count c rows) in
      omega (arith, a, b, asc_once c 1 (2 ^ n) (clusters rows) well.clean.up)

  -- THE SENTENCE IS ACCEPTED
  whole_sentence : Accepted n f
  whole_sentence = record {
    two = two;
    few = few;
    taxa = taxa_good n f holds.taxa;
    whole = none_missing n f (taxa_all n f holds.taxa);
    light = places_none too_heavy edges (all_in (λ e. too_heavy e ≡ false) edges (all_map Good (λ e. too_heavy e ≡ false) edges (λ e h. le-ltb weight_limit e.weight h.light) all_good));
    full = places_none (is_bare n) edges
        (all_in (λ e. is_bare n e ≡ false) edges (all_map Good (λ e. is_bare n e ≡ false) edges (λ e h. ne_eqb (split_made n e) 0 (λ z. omega (arith, h.cluster, h.some))) all_good));
    apart = twins_none n edges [] (later_none n edges) (different_once (map (row_of n) edges) (λ c. omega (arith, cluster_once c, ap (count c) (clusters_are edges))));
  }

  -- THE TEXT READ BACK
  pub newick_read : (s : List ℕ) → read_newick n (newick_of n rows ++ s) ≡ record { outcome = Done; list = list_of n rows }
  newick_read s =
      sentence_read n f (newick_of n rows ++ s) s holds.fits (holds.text s) ∙ accepted_reply n f whole_sentence
      ∙ ap (λ (r : List Row). record { outcome = Done; list = list_of n r }) (ap sort_rows rows_are ∙ holds.edges)

-- what the writer wrote of a list, with anything behind it, is read back as that list
pub write_read : (n : ℕ) (s : Splits) (out more : List ℕ) → length s.clusters ≡ 125 → length s.weights ≡ 125
    → write_newick n s out ≡ Done → read_newick n (newick_written n s out ++ more) ≡ record { outcome = Done; list = list_of n (rows_of s) }
unfolding write_newick newick_written
write_read n s out more hc hw done =
    let ok = done_taken n s out (newick_length n (rows_of s)) (newick_of n (rows_of s)) done in
    ap (λ (x : List ℕ). read_newick n (x ++ more)) (done_filled n s out (newick_length n (rows_of s)) (newick_of n (rows_of s)) done)
    ∙ newick_read n (rows_of s) ok.two ok.few (taken_rows n s hc hw ok) more
