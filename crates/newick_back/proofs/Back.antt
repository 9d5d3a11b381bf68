-- THE WRITER'S TEXT HOLDS THE LIST: it is a text of the grammar nested at most 130 deep, its taxa are those below n, each once, and its edges that are
-- not of length 0, sorted, are the rows. Assumes nothing.
use Prim.Native.Nat.{ℕ, ◌+◌, ◌^◌, ◌≤◌, ◌<◌}
use native.Mathlib.Omega.{arith}
use mathlib.Core.Path.{◌≡◌, ◌∙◌, ap, ap₂}
use mathlib.Core.Bool.{cond}
use mathlib.Core.List.{List, [], ◌∷◌, ◌++◌, append_assoc}
use lib.Dec.{ltb}
use lib.ListN.{length, get_or, length-map, get_or-map}
use Rattle.statement.specs.Matrix.{weight_limit}
use Rattle.statement.specs.Rows.{Row, row, weights}
use Rattle.statement.specs.Tree.{sort_rows}
use Rattle.statement.proofs.Listed.{mem_get_d}
use Rattle.statement.proofs.Enlarged.{WellRows}
use Rattle.statement.proofs.Run.{rows_few}
use Rattle.statement.specs.Sentence.{Children, children_text, Fits, taxa_of}
use Rattle.statement.specs.NewickText.{Shape, shape_of, vertex_text, newick_of}
use Rattle.newick_list.proofs.Links.{rooted}
use Rattle.newick_back.specs.Held.{rows_below, positive}
use Rattle.newick_back.specs.Drawn.{edge_at, edges_in}
use Rattle.newick_back.proofs.Joined.{fits_more}
use Rattle.newick_back.proofs.Written.{drawing}
use Rattle.newick_back.proofs.Counts.{count}
use Rattle.newick_back.proofs.Below.{mask_cluster, each_once, full}
use Rattle.newick_back.proofs.Sorted.{sorted_is}
use Rattle.newick_back.proofs.Edges.{whole_edges, places_total}

module _ (n : ℕ) (rows : List Row) (two : 2 ≤ n) (few : n ≤ 64) (well : WellRows weight_limit n rows) where
  abbrev t : Shape
  t = shape_of n rows

  heavy : (c : ℕ) → c < length rows → 0 < get_or (weights rows) c 0
  heavy c l = omega (arith, (well.weigh (get_or (weights rows) c 0) (mem_get_d (weights rows) c (omega (arith, length-map rows (λ r. r.weight))))).0)

  -- the edge above a vertex is its row
  edge_row : (c : ℕ) → c < length rows → edge_at t c ≡ get_or rows c (row 0 0)
  edge_row c l =
      ap₂ row (mask_cluster n rows well.clean c l ∙ get_or-map (λ r. r.cluster) rows c (row 0 0)) (get_or-map (λ r. r.weight) rows c (row 0 0))

  -- THE EDGES, sorted, are the rows
  pub edges_rows : sort_rows (positive (edges_in t (length rows))) ≡ rows
  edges_rows =
      sorted_is 1 (2 ^ n) (positive (edges_in t (length rows))) rows well.clean.up
      (λ f. whole_edges f t (rooted n rows well.clean.up) heavy
      ∙ places_total f (λ c. f (edge_at t c)) 0 rows (λ j l. ap (λ (c : ℕ). f (edge_at t c)) (let z : 0 + j ≡ j = omega arith in z) ∙ ap f (edge_row j l)))

  -- THE TEXT
  pub record Holds (kids : Children) : Type 0 where
    pub fits : Fits kids 129
    pub text : (s : List ℕ) → newick_of n rows ++ s ≡ 40 ∷ children_text kids (41 ∷ 59 ∷ s)
    pub taxa : (i : ℕ) → count i (taxa_of kids) ≡ cond (ltb i n) 1 0
    pub edges : sort_rows (positive (rows_below kids)) ≡ rows

  pub newick_holds : (kids : Children) × Holds kids
  unfolding newick_of
  newick_holds =
      let s = drawing t (full n rows well.clean (omega arith)) in (
        s.kids,
        record {
          fits = fits_more s.kids (length rows) 129 (omega (arith, rows_few weight_limit n rows two well)) s.fits;
          text = λ r. append_assoc (vertex_text t (length rows)) (59 ∷ []) r ∙ s.text r;
          taxa = λ i. ap (count i) s.taxa ∙ each_once n rows well.clean i;
          edges = ap (λ (E : List Row). sort_rows (positive E)) s.edges ∙ edges_rows;
        },
      )
