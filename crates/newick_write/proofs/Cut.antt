-- The arrays of a tree, cut to their lengths, hold the tree of its list. Assumes nothing.
use Prim.Native.Nat.{ℕ, ◌≤◌}
use native.Mathlib.Omega.{arith}
use mathlib.Core.Path.{◌≡◌, sym, ◌∙◌, ap, ap₂}
use mathlib.Core.List.{List, [], ◌∷◌, ◌++◌}
use lib.ListN.{length}
use lib.Seq.{sets}
use Rattle.std.proofs.Common.{min, take}
use Rattle.std.proofs.lemmas.List.{get_or-take, length-take}
use Rattle.statement.specs.declared.Splits.{Splits}
use Rattle.statement.specs.Matrix.{weight_limit}
use Rattle.statement.specs.Rows.{rows_of, WellFormed}
use Rattle.statement.specs.NewickText.{Shape, shape_of, vertex_text, newick_of, newick_length}
use Rattle.statement.proofs.WellFormed.{Roomy, weights_front, rows_length, well_formed_is}
use Rattle.tree_write.proofs.GivenRows.{clusters_of_law}
use Rattle.newick_list.proofs.Vertex.{Agree, text_same}
use Rattle.newick_digits.specs.declared.Pen.{Pen}
use Rattle.newick_digits.specs.Pen.{Wrote}
use Rattle.newick_digits.proofs.Written.{wrote_then}
use Rattle.newick_vertex.specs.Arrays.{shape_in}
use Rattle.newick_write.specs.declared.Tree.{Tree}
use Rattle.newick_write.proofs.Given.{room, given_short}

module _ (t : Tree) (hl : length t.links ≡ 125) (hh : length t.homes ≡ 64) where
  abbrev s : Splits
  s = t.list.now

  well : WellFormed weight_limit t.n s
  well = (well_formed_is weight_limit t.n s t.sized.0 t.sized.1 t.few).0 t.well

  roomy : Roomy s
  roomy = room t.n s t.few well t.whole t.sized.0 t.sized.1

  pub rows_few : s.rows ≤ 125
  rows_few = roomy.rows

  abbrev cut : Shape
  cut = shape_in (length (take t.n t.homes)) (length (take s.rows t.links)) (take s.rows t.links) (take t.n t.homes) (take s.rows s.weights)

  pub homes_length : length (take t.n t.homes) ≡ t.n
  homes_length = length-take t.n t.homes ∙ (let e : min t.n (length t.homes) ≡ t.n = omega (arith, t.few) in e)

  pub links_length : length (take s.rows t.links) ≡ s.rows
  links_length = length-take s.rows t.links ∙ (let e : min s.rows (length t.links) ≡ s.rows = omega (arith, rows_few) in e)

  pub weights_length : length (take s.rows s.weights) ≡ s.rows
  weights_length = length-take s.rows s.weights ∙ (let e : min s.rows (length s.weights) ≡ s.rows = omega (arith, rows_few, t.sized.1) in e)

  agree : Agree cut (shape_of t.n (rows_of s)) s.rows
  agree = record {
    taxa = homes_length;
    edges = links_length ∙ sym (rows_length s roomy);
    home = λ j l. get_or-take t.n t.homes j 0 (omega (arith, l, homes_length)) ∙ t.linked.homes (rows_of s) (clusters_of_law s roomy) j (omega (arith, l, homes_length));
    link = λ j l. get_or-take s.rows t.links j 0 l ∙ t.linked.links (rows_of s) (clusters_of_law s roomy) j l;
    weight = λ c l. get_or-take s.rows s.weights c 0 l ∙ sym ((weights_front s roomy).at c l);
  }

  same : vertex_text cut s.rows ≡ vertex_text (shape_of t.n (rows_of s)) (length (rows_of s))
  same = text_same cut (shape_of t.n (rows_of s)) s.rows agree s.rows (omega arith) ∙ ap (vertex_text (shape_of t.n (rows_of s))) (sym (rows_length s roomy))

  pub cut_short : length (vertex_text cut s.rows) ≤ 65000
  cut_short = omega (arith, ap length same, given_short t.n s t.few well t.whole t.sized.0 t.sized.1)

  pub text_put : {p q r : Pen} → p.at ≡ 0 → Wrote p q (vertex_text cut s.rows) → Wrote q r (59 ∷ [])
      → (r.out.now ≡ sets p.out.now 0 (newick_of t.n (rows_of s))) × (r.at ≡ newick_length t.n (rows_of s))
  unfolding newick_of
  text_put {p} {q} {r} z v w =
      let all : Wrote p r (vertex_text cut s.rows ++ (59 ∷ [])) = wrote_then v w in
      let text : vertex_text cut s.rows ++ (59 ∷ []) ≡ newick_of t.n (rows_of s) = ap (λ (x : List ℕ). x ++ (59 ∷ [])) same in (
        all.stored ∙ ap₂ (sets p.out.now) z text,
        (let e : r.at ≡ length (vertex_text cut s.rows ++ (59 ∷ [])) = omega (arith, all.place, z) in e) ∙ ap length text,
      )
