-- A TEXT IS READ IN ONE WAY: any derivation of it gives the same leaves, edges and reply. Assumes nothing.
use Prim.Native.Nat.{ℕ, suc, ◌+◌}
use native.Mathlib.Omega.{arith}
use mathlib.Core.Path.{◌≡◌, refl, sym, ◌∙◌, ap, ap₂}
use mathlib.Core.Bool.{false, cond, not}
use mathlib.Core.List.{List, [], ◌∷◌, ◌++◌, map}
use lib.Dec.{ltb, eqb}
use lib.ListN.{drop}
use Rattle.statement.specs.Outcomes.{Reading, Done}
use Rattle.statement.specs.Matrix.{weight_limit}
use Rattle.statement.specs.Lowest.{somewhere}
use Rattle.statement.specs.Rows.{list_of}
use Rattle.statement.specs.Tree.{sort_rows}
use Rattle.statement.specs.Refusals.{outcome_of, taxa_off, places_of, strays, twins, missing, bad_at}
use Rattle.statement.specs.Calls.{unless_refused, refused_reading, reading_of}
use Rattle.statement.specs.Decimal.{digit, on_from, span}
use Rattle.newick_text.specs.Automaton.{start, run}
use Rattle.statement.specs.Sentence.{Numeral, nought, lead, Children, leaf, group, leaf_then, group_then, numeral_text, children_text, Fits, Leaf, Edge, edge_at, value, width, size, among, taxa_of, leaves_at, edges_at, split_made, kept_edges, past_leaf, past_group, Parsed, outside, sentence, Parses, row_of}
use Rattle.statement.specs.Grammar.{FirstBad}
use Rattle.newick_text.proofs.Complete.{complete, not_open}
use Rattle.newick_text.proofs.FirstBad.{one_place}
use Rattle.newick_text.proofs.Productions.{by_productions}
use Rattle.newick_meaning.specs.Parse.{parsed, read_newick}
use Rattle.newick_meaning.proofs.Numbers.{num_value, num_span, num_drop}
use Rattle.newick_meaning.proofs.Sizes.{size_leaf, size_node, size_leaf2, size_node2}
use Rattle.newick_meaning.proofs.Parses.{parsed_good, text_parses}

heads : {a b : ℕ} {s t : List ℕ} → a ∷ s ≡ b ∷ t → a ≡ b
heads e = cc

tails : {a b : ℕ} {s t : List ℕ} → a ∷ s ≡ b ∷ t → s ≡ t
tails e = cc

-- A NUMBER ends where no digit follows
pub record SameNum (x y : Numeral) : Type 0 where
  pub value : value x ≡ value y
  pub width : width x ≡ width y

one_num : (x y : Numeral) (c d : ℕ) (s t : List ℕ) → digit c ≡ false → digit d ≡ false → numeral_text x (c ∷ s) ≡ numeral_text y (d ∷ t) → SameNum x y × (c ∷ s ≡ d ∷ t)
one_num x y c d s t p q e =
    let w : width x ≡ width y = sym (num_span x c s p) ∙ ap span e ∙ num_span y d t q in (
      record { value = sym (num_value x c s p) ∙ ap (on_from 0) e ∙ num_value y d t q; width = w },
      sym (num_drop x c s p) ∙ ap₂ drop w e ∙ num_drop y d t q,
    )

num_open : {X : Type 0} (x : Numeral) (s t : List ℕ) → numeral_text x s ≡ 40 ∷ t → X
num_open nought s t e = absurd (omega (arith, heads e))
num_open (lead c p q r) s t e = absurd (not_open c p (heads e))

one_leaf : (x w y v : Numeral) (c d : ℕ) (s t : List ℕ) → digit c ≡ false → digit d ≡ false → numeral_text x (58 ∷ numeral_text w (c ∷ s)) ≡ numeral_text y (58 ∷ numeral_text v (d ∷ t))
    → SameNum x y × SameNum w v × (c ∷ s ≡ d ∷ t)
one_leaf x w y v c d s t p q e =
    let a = one_num x y 58 58 (numeral_text w (c ∷ s)) (numeral_text v (d ∷ t)) refl refl e in
    let b = one_num w v c d s t p q (tails a.1) in
    (a.0, b.0, b.1)

-- TWO DERIVATIONS with the same leaves and edges
pub record Alike (f g : Children) : Type 0 where
  pub size : size f ≡ size g
  pub taxa : taxa_of f ≡ taxa_of g
  pub leaves : (p : ℕ) → leaves_at p f ≡ leaves_at p g
  pub edges : (p : ℕ) → edges_at p f ≡ edges_at p g

alike_leaf : (x w y v : Numeral) → SameNum x y → SameNum w v → Alike (leaf x w) (leaf y v)
unfolding taxa_of leaves_at edges_at
alike_leaf x w y v a b = record {
  size = size_leaf x w ∙ ap₂ (λ (i j : ℕ). i + 1 + j) a.width b.width ∙ sym (size_leaf y v);
  taxa = ap (λ (k : ℕ). k ∷ []) a.value;
  leaves = λ p. ap (λ (k : ℕ). record { place = p; taxon = k } ∷ []) a.value;
  edges = λ p. λ i. record { place = p + a.width i + 1; below = a.value i ∷ []; weight = b.value i } ∷ [];
}

alike_node : (f g : Children) (w v : Numeral) → Alike f g → SameNum w v → Alike (group f w) (group g v)
unfolding taxa_of leaves_at edges_at
alike_node f g w v a b = record {
  size = size_node f w ∙ ap₂ (λ (i j : ℕ). 1 + i + 1 + 1 + j) a.size b.width ∙ sym (size_node g v);
  taxa = a.taxa;
  leaves = λ p. a.leaves (p + 1);
  edges = λ p. λ i. a.edges (p + 1) i ++ (record { place = p + 1 + a.size i + 1 + 1; below = a.taxa i; weight = b.value i } ∷ []);
}

alike_leaf2 : (x w y v : Numeral) (r s : Children) → SameNum x y → SameNum w v → Alike r s → Alike (leaf_then x w r) (leaf_then y v s)
unfolding taxa_of leaves_at edges_at
alike_leaf2 x w y v r s a b c = record {
  size = size_leaf2 x w r ∙ (λ i. a.width i + 1 + b.width i + 1 + c.size i) ∙ sym (size_leaf2 y v s);
  taxa = ap₂ (λ (k : ℕ) (u : List ℕ). k ∷ u) a.value c.taxa;
  leaves = λ p. ap₂ (λ (k : ℕ) (u : List Leaf). record { place = p; taxon = k } ∷ u) a.value (past p r ∙ c.leaves (past_leaf p y v));
  edges = λ p. (λ i. record { place = p + a.width i + 1; below = a.value i ∷ []; weight = b.value i } ∷ edges_at (p + a.width i + 1 + b.width i + 1) r)
      ∙ ap (λ (u : List Edge). edge_at (p + width y + 1) (value y ∷ []) v ∷ u) (c.edges (past_leaf p y v));
}
  where
    past : (p : ℕ) (r : Children) → leaves_at (past_leaf p x w) r ≡ leaves_at (past_leaf p y v) r
    past p r = λ i. leaves_at (p + a.width i + 1 + b.width i + 1) r

alike_node2 : (f g : Children) (w v : Numeral) (r s : Children) → Alike f g → SameNum w v → Alike r s → Alike (group_then f w r) (group_then g v s)
unfolding taxa_of leaves_at edges_at
alike_node2 f g w v r s a b c = record {
  size = size_node2 f w r ∙ (λ i. 1 + a.size i + 1 + 1 + b.width i + 1 + c.size i) ∙ sym (size_node2 g v s);
  taxa = ap₂ (λ (k u : List ℕ). k ++ u) a.taxa c.taxa;
  leaves = λ p. (λ i. a.leaves (p + 1) i ++ leaves_at (p + 1 + a.size i + 1 + 1 + b.width i + 1) r) ∙ ap (λ (u : List Leaf). leaves_at (p + 1) g ++ u) (c.leaves (past_group p g v));
  edges = λ p. (λ i. a.edges (p + 1) i ++ (record { place = p + 1 + a.size i + 1 + 1; below = a.taxa i; weight = b.value i } ∷ edges_at (p + 1 + a.size i + 1 + 1 + b.width i + 1) r))
      ∙ ap (λ (u : List Edge). edges_at (p + 1) g ++ (edge_at (p + 1 + size g + 1 + 1) (taxa_of g) v ∷ u)) (c.edges (past_group p g v));
}

ends : {X : Type 0} {a b : ℕ} {s t : List ℕ} → a ∷ s ≡ b ∷ t → (a ≡ b → ⊥) → X
ends e f = absurd (f (heads e))

pub one_way : (f g : Children) (s t : List ℕ) → children_text f (41 ∷ s) ≡ children_text g (41 ∷ t) → Alike f g × (s ≡ t)
one_way (leaf x w) (leaf y v) s t e = let a = one_leaf x w y v 41 41 s t refl refl e in (alike_leaf x w y v a.0 a.1, tails a.2)
one_way (leaf x w) (group g v) s t e = num_open x _ _ e
one_way (leaf x w) (leaf_then y v r) s t e = ends (one_leaf x w y v 41 44 s (children_text r (41 ∷ t)) refl refl e).2 (λ z. omega arith)
one_way (leaf x w) (group_then g v r) s t e = num_open x _ _ e
one_way (group f w) (leaf y v) s t e = num_open y _ _ (sym e)
one_way (group f w) (group g v) s t e =
    let a = one_way f g (58 ∷ numeral_text w (41 ∷ s)) (58 ∷ numeral_text v (41 ∷ t)) (tails e) in
    let b = one_num w v 41 41 s t refl refl (tails a.1) in
    (alike_node f g w v a.0 b.0, tails b.1)
one_way (group f w) (leaf_then y v r) s t e = num_open y _ _ (sym e)
one_way (group f w) (group_then g v r) s t e =
    let a = one_way f g (58 ∷ numeral_text w (41 ∷ s)) (58 ∷ numeral_text v (44 ∷ children_text r (41 ∷ t))) (tails e) in
    ends (one_num w v 41 44 s (children_text r (41 ∷ t)) refl refl (tails a.1)).1 (λ z. omega arith)
one_way (leaf_then x w r) (leaf y v) s t e = ends (one_leaf x w y v 44 41 (children_text r (41 ∷ s)) t refl refl e).2 (λ z. omega arith)
one_way (leaf_then x w r) (group g v) s t e = num_open x _ _ e
one_way (leaf_then x w r) (leaf_then y v q) s t e =
    let a = one_leaf x w y v 44 44 (children_text r (41 ∷ s)) (children_text q (41 ∷ t)) refl refl e in
    let b = one_way r q s t (tails a.2) in
    (alike_leaf2 x w y v r q a.0 a.1 b.0, b.1)
one_way (leaf_then x w r) (group_then g v q) s t e = num_open x _ _ e
one_way (group_then f w r) (leaf y v) s t e = num_open y _ _ (sym e)
one_way (group_then f w r) (group g v) s t e =
    let a = one_way f g (58 ∷ numeral_text w (44 ∷ children_text r (41 ∷ s))) (58 ∷ numeral_text v (41 ∷ t)) (tails e) in
    ends (one_num w v 44 41 (children_text r (41 ∷ s)) t refl refl (tails a.1)).1 (λ z. omega arith)
one_way (group_then f w r) (leaf_then y v q) s t e = num_open y _ _ (sym e)
one_way (group_then f w r) (group_then g v q) s t e =
    let a = one_way f g (58 ∷ numeral_text w (44 ∷ children_text r (41 ∷ s))) (58 ∷ numeral_text v (44 ∷ children_text q (41 ∷ t))) (tails e) in
    let b = one_num w v 44 44 (children_text r (41 ∷ s)) (children_text q (41 ∷ t)) refl refl (tails a.1) in
    let c = one_way r q s t (tails b.1) in
    (alike_node2 f g w v r q a.0 b.0 c.0, c.1)

-- THE REPLY by leaves, edges, size and taxa
reply_by : ℕ → List Leaf → List Edge → ℕ → List ℕ → Reading
reply_by n ls es k xs =
    let m = suc (1 + k + 1) in
    let o = outcome_of (taxa_off n ∷ bad_at 20 (strays n [] ls ++ cond (somewhere (λ x. not (among x xs)) n) ((1 + k + 1) ∷ []) []) m
    ∷ bad_at 14 (places_of (λ e. ltb weight_limit e.weight) (kept_edges es)) m ∷ bad_at 12 (places_of (λ e. eqb (split_made n e) 0) (kept_edges es)) m ∷ bad_at 13 (twins n [] (kept_edges es)) m ∷ []) in
    unless_refused o (refused_reading o) (record { outcome = Done; list = list_of n (sort_rows (map (row_of n) (kept_edges es))) })

reply_by_law : (n : ℕ) (f : Children) → reading_of n (sentence f) ≡ reply_by n (leaves_at 1 f) (edges_at 1 f) (size f) (taxa_of f)
unfolding reply_by missing
reply_by_law n f = refl

pub alike_reply : (n : ℕ) (f g : Children) → Alike f g → reading_of n (sentence f) ≡ reading_of n (sentence g)
alike_reply n f g a = reply_by_law n f ∙ (λ i. reply_by n (a.leaves 1 i) (a.edges 1 i) (a.size i) (a.taxa i)) ∙ sym (reply_by_law n g)

-- ANY DERIVATION of the text tells its reply
pub sentence_read : (n : ℕ) (f : Children) (text rest : List ℕ) → Fits f 129 → text ≡ 40 ∷ children_text f (41 ∷ 59 ∷ rest) → read_newick n text ≡ reading_of n (sentence f)
unfolding read_newick
sentence_read n f text rest h e =
    let p = parsed_good text rest (ap (λ (t : List ℕ). run t (start 130)) e ∙ complete f 129 rest h) in
    ap (reading_of n) p.1 ∙ alike_reply n p.0 f (one_way p.0 f (59 ∷ rest) (59 ∷ rest) (tails (sym p.3 ∙ e))).0

-- AND SO DOES THE FIRST BAD BYTE of one that begins with no sentence
pub outside_read : (n : ℕ) (text : List ℕ) (k : ℕ) → FirstBad text k → read_newick n text ≡ reading_of n (outside k)
unfolding read_newick
outside_read n text k b = go (parsed text) refl (text_parses text)
  where
    go : (p : Parsed) → parsed text ≡ p → Parses text p → reading_of n (parsed text) ≡ reading_of n (outside k)
    go (outside j) e h = ap (reading_of n) (e ∙ ap outside (one_place text j k h b))
    go (sentence f) e (rest, i, q) = let (s, d, z) = (by_productions 129 text rest).1 (f, i, q) in absurd (b.outside s rest d z)

-- THE GRAMMAR SETTLES THE REPLY: what a text is to a reader, it is by its bytes alone
pub grammar_settles : (n : ℕ) (text : List ℕ) (p : Parsed) → Parses text p → read_newick n text ≡ reading_of n p
grammar_settles n text (outside k) b = outside_read n text k b
grammar_settles n text (sentence f) (rest, h, e) = sentence_read n f text rest h e
