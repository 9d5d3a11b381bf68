-- THE LIST DOES NOT CHANGE where children come in another order or the root moves. Assumes nothing.
use Prim.Native.Nat.{ℕ, ◌<◌}
use native.Mathlib.Omega.{arith}
use mathlib.Core.Path.{◌≡◌, sym, ◌∙◌, ap}
use mathlib.Core.List.{List, [], ◌∷◌, ◌++◌, map}
use lib.Dec.{ltb, eqb}
use Rattle.statement.specs.Outcomes.{Done}
use Rattle.statement.specs.Matrix.{weight_limit}
use Rattle.statement.specs.Rows.{Row, list_of}
use Rattle.statement.specs.Tree.{sort_rows}
use Rattle.row_sort.proofs.Sorting.{Different}
use Rattle.statement.specs.Sentence.{Children, group, children_text, Fits, Edge, taxa_of, edges_at, edges_of, row_of}
use Rattle.newick_meaning.specs.Parse.{read_newick}
use Rattle.newick_noted.proofs.Taxa.{Good}
use Rattle.newick_reading.proofs.Nested.{InE}
use Rattle.newick_reading.proofs.Same.{too_heavy, is_bare}
use Rattle.newick_reading.proofs.Passing.{All, all_of, none_missing, places_none, row_in, twins_none, later_none, accepted_reply}
use Rattle.newick_reading.proofs.Accepted.{Accepted, row_of_law, none_test, different, sentence_accepted}
use Rattle.newick_meaning.proofs.Unique.{sentence_read}
use Rattle.statement.specs.Moves.{join, Moved, ordered, rooted, back, after}
use Rattle.newick_meaning.proofs.Join.{join_taxa}
use Rattle.newick_moves.proofs.Shuffle as sh
use Rattle.newick_moves.proofs.Shuffle.{Shuffle, equal, turn, among_same, good_same, held_same, different_same, sort_same}
use Rattle.newick_moves.proofs.Same.{raw_rows, raw_rows_law, kept_rows, kept_rows_law, kept_same, ordered_taxa, ordered_rows, rooted_rows}

-- MOVED: the same taxa, and the same rows
moved_taxa : {f g : Children} → Moved f g → Shuffle (taxa_of f) (taxa_of g)
unfolding taxa_of
moved_taxa (ordered o) = ordered_taxa o
moved_taxa (rooted f w r) = equal (sym (join_taxa f (group r w)))
moved_taxa (back f w r) = equal (join_taxa f (group r w))
moved_taxa (after a b) = sh.then (moved_taxa a) (moved_taxa b)

moved_rows : (n : ℕ) → 0 < n → {f g : Children} → Moved f g → Good n [] (taxa_of f) → All n f → Shuffle (raw_rows n f) (raw_rows n g)
unfolding taxa_of
moved_rows n l (ordered o) g h = ordered_rows n o
moved_rows n l (rooted f w r) g h = rooted_rows n l f w r g h
moved_rows n l (back f w r) g h =
    let s : Shuffle (taxa_of (join f (group r w))) (taxa_of f ++ taxa_of r) = equal (join_taxa f (group r w)) in
    turn (rooted_rows n l f w r (good_same n [] s g) (λ x k. sym (among_same x s) ∙ h x k))
moved_rows n l (after a b) g h =
    sh.then (moved_rows n l a g h) (moved_rows n l b (good_same n [] (moved_taxa a) g) (λ x k. sym (among_same x (moved_taxa a)) ∙ h x k))

rows_shuffle : (n : ℕ) (f g : Children) → Shuffle (raw_rows n f) (raw_rows n g) → Shuffle (map (row_of n) (edges_of f)) (map (row_of n) (edges_of g))
rows_shuffle n f g s =
    sh.then (equal (kept_rows_law n (edges_at 1 f) ∙ ap kept_rows (raw_rows_law n 1 f))) (sh.then (kept_same s) (equal (sym (kept_rows_law n (edges_at 1 g) ∙ ap kept_rows (raw_rows_law n 1 g)))))

-- ACCEPTED BEFORE, ACCEPTED AFTER, with the same rows
pub moved_accepted : (n : ℕ) {f g : Children} → Moved f g → Accepted n f → Accepted n g × (sort_rows (map (row_of n) (edges_of f)) ≡ sort_rows (map (row_of n) (edges_of g)))
moved_accepted n {f} {g} m a = (good, sort_same s d)
  where
    s : Shuffle (map (row_of n) (edges_of f)) (map (row_of n) (edges_of g))
    s = rows_shuffle n f g (moved_rows n (omega (arith, a.two)) m a.taxa (all_of n f a.whole))

    d : Different (map (row_of n) (edges_of f))
    d = different n (edges_of f) [] a.apart

    -- an edge after is an edge before
    old : (e : Edge) → InE e (edges_of g) → (c : Edge) × InE c (edges_of f) × (row_of n e ≡ row_of n c)
    old e i = row_of_law n (edges_of f) (row_of n e) (held_same (row_of n e) (turn s) (row_in n (edges_of g) e i))

    good : Accepted n g
    good = record {
      two = a.two;
      few = a.few;
      taxa = good_same n [] (moved_taxa m) a.taxa;
      whole = none_missing n g (λ x l. sym (among_same x (moved_taxa m)) ∙ all_of n f a.whole x l);
      light = places_none too_heavy (edges_of g) (λ e i. let (c, j, q) = old e i in
          ap (λ (r : Row). ltb weight_limit r.weight) q ∙ none_test too_heavy (edges_of f) c a.light j);
      full = places_none (is_bare n) (edges_of g) (λ e i. let (c, j, q) = old e i in
          ap (λ (r : Row). eqb r.cluster 0) q ∙ none_test (is_bare n) (edges_of f) c a.full j);
      apart = twins_none n (edges_of g) [] (later_none n (edges_of g)) (different_same s d);
    }

-- ONE READING of two texts: where one is accepted, so is the other, with the same reply
pub moved_read : (n : ℕ) {f g : Children} → Moved f g → (t u r s : List ℕ) → Fits f 129 → Fits g 129 → t ≡ 40 ∷ children_text f (41 ∷ 59 ∷ r) → u ≡ 40 ∷ children_text g (41 ∷ 59 ∷ s)
    → (read_newick n t).outcome ≡ Done → read_newick n u ≡ read_newick n t
moved_read n {f} {g} m t u r s i j p q e =
    let a = sentence_accepted n f (ap (λ x. x.outcome) (sym (sentence_read n f t r i p)) ∙ e) in
    let (b, l) = moved_accepted n m a in
    sentence_read n g u s j q ∙ accepted_reply n g b ∙ ap (λ (rows : List Row). record { outcome = Done; list = list_of n rows }) (sym l)
    ∙ sym (sentence_read n f t r i p ∙ accepted_reply n f a)
