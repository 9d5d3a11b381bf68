-- THE WRITER'S TEXT IS A TEXT OF THE GRAMMAR, nested no deeper than the root's number, and holds what the tree holds. Assumes nothing.
use Prim.Native.Nat.{ℕ, zero, suc, ◌+◌, ◌≤◌, ◌<◌}
use native.Mathlib.Omega.{arith}
use mathlib.Core.Path.{◌≡◌, refl, sym, ◌∙◌, ap, ap₂, subst}
use mathlib.Core.Logic.{inl, inr}
use mathlib.Core.Bool.{false}
use mathlib.Core.List.{List, [], ◌∷◌, ◌++◌, map, append_assoc, append-nil}
use lib.Dec.{eqb}
use lib.ListN.{length, length-append, length-map}
use Rattle.statement.specs.Rows.{Row, row, Mem}
use Rattle.statement.specs.Sentence.{Children, leaf, group, numeral_text, children_text, Fits, value, taxa_of}
use Rattle.statement.specs.Decimal.{decimal}
use Rattle.newick_digits.proofs.Trip.{num_for, num_value}
use Rattle.statement.specs.NewickText.{Shape, homed, children, unbracketed, led, bracketed, leaf_text, child_text, items, vertex_text}
use Rattle.newick_list.proofs.Those.{those_of}
use Rattle.newick_list.proofs.Room.{Bare, Way, bare, brackets, way, alone_is}
use Rattle.statement.specs.Moves.{join}
use Rattle.newick_back.specs.Held.{mask, rows_below}
use Rattle.newick_back.specs.Drawn.{gathered, taxa_in, edge_at, leaf_edge, edges_in}
use Rattle.newick_meaning.proofs.Join.{join_taxa}
use Rattle.newick_back.proofs.Joined.{join_text, join_fits, fits_more, join_edges}
use Rattle.newick_back.proofs.Steps.{taxa_is, edges_is}

-- a text that is one or more children, nested at most l deep, with these edges and taxa
pub record Reads (x : List ℕ) (E : List Row) (T : List ℕ) (l : ℕ) : Type 0 where
  pub kids : Children
  pub fits : Fits kids l
  pub text : (s : List ℕ) → children_text kids s ≡ x ++ s
  pub edges : rows_below kids ≡ E
  pub taxa : taxa_of kids ≡ T

pub reads_more : {x : List ℕ} {E : List Row} {T : List ℕ} (l m : ℕ) → l ≤ m → Reads x E T l → Reads x E T m
reads_more l m h r = record { kids = r.kids; fits = fits_more r.kids l m h r.fits; text = r.text; edges = r.edges; taxa = r.taxa }

-- items one after the other: none, or behind a byte
pub data Bunch (xs : List (List ℕ)) (E : List Row) (T : List ℕ) (l : ℕ) : Type 0 where
  none : xs ≡ [] → E ≡ [] → T ≡ [] → Bunch xs E T l
  some : (f : Children) → Fits f l → ((b : ℕ) (s : List ℕ) → led b xs ++ s ≡ b ∷ children_text f s) → rows_below f ≡ E → taxa_of f ≡ T → Bunch xs E T l

one_led : (b : ℕ) (x s : List ℕ) → led b (x ∷ []) ++ s ≡ b ∷ (x ++ s)
unfolding led
one_led b x s = ap (λ (y : List ℕ). b ∷ (y ++ s)) (append-nil x)

more_led : (b : ℕ) (x s : List ℕ) (xs : List (List ℕ)) → led b (x ∷ xs) ++ s ≡ b ∷ (x ++ (led 44 xs ++ s))
unfolding led
more_led b x s xs = ap (λ (y : List ℕ). b ∷ y) (append_assoc x (led 44 xs) s)

bunch_more : {x : List ℕ} {xs : List (List ℕ)} {E E' : List Row} {T T' : List ℕ} {l : ℕ} → Reads x E T l → Bunch xs E' T' l → Bunch (x ∷ xs) (E ++ E') (T ++ T') l
bunch_more {x} {xs} {E} {E'} {T} {T'} r (none p q u) =
    some r.kids r.fits
    (λ b s. ap (λ (ys : List (List ℕ)). led b (x ∷ ys) ++ s) p ∙ one_led b x s ∙ ap (λ (y : List ℕ). b ∷ y) (sym (r.text s)))
    (r.edges ∙ sym (append-nil E) ∙ ap (λ (y : List Row). E ++ y) (sym q)) (r.taxa ∙ sym (append-nil T) ∙ ap (λ (y : List ℕ). T ++ y) (sym u))
bunch_more {x} {xs} {E} {E'} {T} {T'} {l} r (some f fit e q u) =
    some (join r.kids f) (join_fits r.kids f l r.fits fit)
    (λ b s. more_led b x s xs ∙ ap (λ (y : List ℕ). b ∷ (x ++ y)) (e 44 s)
    ∙ ap (λ (y : List ℕ). b ∷ y) (sym (r.text (44 ∷ children_text f s)) ∙ sym (join_text r.kids f s)))
    (join_edges r.kids f ∙ ap₂ (λ (y z : List Row). y ++ z) r.edges q) (join_taxa r.kids f ∙ ap₂ (λ (y z : List ℕ). y ++ z) r.taxa u)

bunch_all : (f : ℕ → List ℕ) (E : ℕ → List Row) (T : ℕ → List ℕ) (l : ℕ) (cs : List ℕ) → ((c : ℕ) → Mem c cs → Reads (f c) (E c) (T c) l)
    → (xs : List (List ℕ)) (E' : List Row) (T' : List ℕ) → Bunch xs E' T' l → Bunch (map f cs ++ xs) (gathered E cs ++ E') (gathered T cs ++ T') l
unfolding gathered
bunch_all f E T l [] r xs E' T' b = b
bunch_all f E T l (c ∷ cs) r xs E' T' b =
    subst (λ (U : List ℕ). Bunch (f c ∷ (map f cs ++ xs)) ((E c ++ gathered E cs) ++ E') U l) (sym (append_assoc (T c) (gathered T cs) T'))
    (subst (λ (U : List Row). Bunch (f c ∷ (map f cs ++ xs)) U (T c ++ (gathered T cs ++ T')) l) (sym (append_assoc (E c) (gathered E cs) E'))
    (bunch_more (r c (inl refl)) (bunch_all f E T l cs (λ d m. r d (inr m)) xs E' T' b)))

-- a taxon's number and a weight
leaf_reads : (i w l : ℕ) → Reads (decimal i ++ (58 ∷ decimal w)) (row (mask (i ∷ [])) w ∷ []) (i ∷ []) l
unfolding rows_below taxa_of
leaf_reads i w l =
    let x = num_for i in
    let y = num_for w in
    let a : value x.0 ≡ i = num_value i x.0 x.1 in
    let b : value y.0 ≡ w = num_value w y.0 y.1 in
    record {
      kids = leaf x.0 y.0;
      fits = tt;
      text = λ s. x.1 (58 ∷ numeral_text y.0 s) ∙ ap (λ (u : List ℕ). decimal i ++ (58 ∷ u)) (y.1 s) ∙ sym (append_assoc (decimal i) (58 ∷ decimal w) s);
      edges = ap₂ (λ (p q : ℕ). row (mask (p ∷ [])) q ∷ []) a b;
      taxa = ap (λ (p : ℕ). p ∷ []) a;
    }

-- brackets and a weight
node_reads : (x : List ℕ) (xs : List (List ℕ)) (E : List Row) (T : List ℕ) (w l : ℕ) → x ≡ bracketed xs → (f : Children) → Fits f l
    → ((b : ℕ) (s : List ℕ) → led b xs ++ s ≡ b ∷ children_text f s) → rows_below f ≡ E → taxa_of f ≡ T → Reads (x ++ (58 ∷ decimal w)) (E ++ (row (mask T) w ∷ [])) T (suc l)
unfolding rows_below taxa_of
node_reads x xs E T w l e f fit h q u =
    let y = num_for w in
    let b : value y.0 ≡ w = num_value w y.0 y.1 in
    record {
      kids = group f y.0;
      fits = fit;
      text = λ s.
          ap (λ (z : List ℕ). 40 ∷ children_text f (41 ∷ 58 ∷ z)) (y.1 s) ∙ sym (h 40 (41 ∷ 58 ∷ (decimal w ++ s)))
          ∙ sym (append_assoc (led 40 xs) (41 ∷ []) (58 ∷ (decimal w ++ s))) ∙ ap (λ (z : List ℕ). z ++ (58 ∷ (decimal w ++ s))) (sym e)
          ∙ sym (append_assoc x (58 ∷ decimal w) s);
      edges = ap₂ (λ (E' : List Row) (r : Row). E' ++ (r ∷ [])) q (ap₂ (λ (T' : List ℕ) (v : ℕ). row (mask T') v) u b);
      taxa = u;
    }

singles : (xs : List ℕ) → gathered (λ i. i ∷ []) xs ≡ xs
unfolding gathered
singles [] = refl
singles (x ∷ xs) = ap (λ (l : List ℕ). x ∷ l) (singles xs)

module _ (t : Shape) where
  -- a child with its weight
  Child : ℕ → Type 0
  Child c = Reads (child_text t (vertex_text t) c) (edges_in t c ++ (edge_at t c ∷ [])) (taxa_in t c) (suc c)

  bare_edges : (v i : ℕ) → Bare t v i → edges_in t v ≡ []
  bare_edges v i b = edges_is t v ∙ rw b.lone

  bare_taxa : (v i : ℕ) → Bare t v i → taxa_in t v ≡ i ∷ []
  unfolding gathered
  bare_taxa v i b = taxa_is t v ∙ ap₂ (λ (xs ys : List ℕ). xs ++ gathered (taxa_in t) ys) b.taxa b.kids

  bare_child : (v i : ℕ) → Bare t v i → Child v
  unfolding Child
  bare_child v i b =
      let r = leaf_reads i (t.weight v) (suc v) in
      record {
        kids = r.kids;
        fits = r.fits;
        text = λ s. r.text s ∙ ap (λ (x : List ℕ). (x ++ (58 ∷ decimal (t.weight v))) ++ s) (sym b.text);
        edges = r.edges ∙ ap₂ (λ (E : List Row) (T : List ℕ). E ++ (row (mask T) (t.weight v) ∷ [])) (sym (bare_edges v i b)) (sym (bare_taxa v i b));
        taxa = r.taxa ∙ sym (bare_taxa v i b);
      }

  -- what stands between the brackets
  Inside : ℕ → Type 0
  Inside v = Bunch (items t (vertex_text t) v) (edges_in t v) (taxa_in t v) v

  inside : (v : ℕ) → unbracketed t v ≡ false → ((c : ℕ) → c < v → Child c) → Inside v
  unfolding Child Inside
  inside v off ih =
      subst (λ (T : List ℕ). Bunch (items t (vertex_text t) v) (edges_in t v) T v) taxa
      (subst (λ (E : List Row). Bunch (items t (vertex_text t) v) E own_taxa v) edges
      (subst (λ (xs : List (List ℕ)). Bunch (map leaf_text (homed t v) ++ xs) own_edges own_taxa v) (append-nil (map (child_text t (vertex_text t)) (children t v)))
      (bunch_all leaf_text (λ i. leaf_edge i ∷ []) (λ i. i ∷ []) v (homed t v) (λ i _. leaf_reads i 0 v) _ _ _
      (bunch_all (child_text t (vertex_text t)) (λ c. edges_in t c ++ (edge_at t c ∷ [])) (taxa_in t) v (children t v)
      (λ c m. let q = (those_of (λ d. eqb (t.link d) v) 0 v c m).high in reads_more (suc c) v (omega arith) (ih c (omega arith))) [] [] [] (none refl refl refl)))))
    where
      own_edges : List Row
      own_edges = gathered (λ i. leaf_edge i ∷ []) (homed t v) ++ (gathered (λ c. edges_in t c ++ (edge_at t c ∷ [])) (children t v) ++ [])

      own_taxa : List ℕ
      own_taxa = gathered (λ i. i ∷ []) (homed t v) ++ (gathered (taxa_in t) (children t v) ++ [])

      edges : own_edges ≡ edges_in t v
      edges =
          ap (λ (l : List Row). gathered (λ i. leaf_edge i ∷ []) (homed t v) ++ l) (append-nil (gathered (λ c. edges_in t c ++ (edge_at t c ∷ [])) (children t v)))
          ∙ sym (edges_is t v ∙ rw off)

      taxa : own_taxa ≡ taxa_in t v
      taxa = ap₂ (λ (xs ys : List ℕ). xs ++ ys) (singles (homed t v)) (append-nil (gathered (taxa_in t) (children t v))) ∙ sym (taxa_is t v)

  no_items : (v : ℕ) → 0 < length (homed t v) + length (children t v) → items t (vertex_text t) v ≡ [] → ⊥
  no_items v h e =
      omega (
        arith,
        ap length e,
        length-append (map leaf_text (homed t v)) (map (child_text t (vertex_text t)) (children t v)),
        length-map (homed t v) leaf_text,
        length-map (children t v) (child_text t (vertex_text t)),
      )

  module _ (full : (v : ℕ) → v ≤ t.edges → 0 < length (homed t v) + length (children t v)) where
    child_of : (v : ℕ) → v ≤ t.edges → Way t v → ((c : ℕ) → c < v → Child c) → Child v
    unfolding Child Inside
    child_of v l (bare i b) ih = bare_child v i b
    child_of v l (brackets e off) ih = go (inside v off ih)
      where
        go : Inside v → Child v
        go (none p _ _) = absurd (no_items v (full v l) p)
        go (some f fit h q u) = node_reads (vertex_text t v) (items t (vertex_text t) v) (edges_in t v) (taxa_in t v) (t.weight v) v e f fit h q u

    children_read : (k v : ℕ) → v < k → v ≤ t.edges → Child v
    children_read zero v h l = absurd (omega arith)
    children_read (suc k) v h l = child_of v l (way t v) (λ c q. children_read k c (omega arith) (omega arith))

    -- THE WHOLE TEXT
    pub record Drawing : Type 0 where
      pub kids : Children
      pub fits : Fits kids t.edges
      pub text : (s : List ℕ) → vertex_text t t.edges ++ (59 ∷ s) ≡ 40 ∷ children_text kids (41 ∷ 59 ∷ s)
      pub edges : rows_below kids ≡ edges_in t t.edges
      pub taxa : taxa_of kids ≡ taxa_in t t.edges

    pub drawing : Drawing
    unfolding Inside
    drawing = go (way t t.edges)
      where
        whole : vertex_text t t.edges ≡ bracketed (items t (vertex_text t) t.edges) → Inside t.edges → Drawing
        whole e (none p _ _) = absurd (no_items t.edges (full t.edges (omega arith)) p)
        whole e (some f fit h q u) = record {
          kids = f;
          fits = fit;
          text = λ s. ap (λ (x : List ℕ). x ++ (59 ∷ s)) e ∙ append_assoc (led 40 (items t (vertex_text t) t.edges)) (41 ∷ []) (59 ∷ s) ∙ h 40 (41 ∷ 59 ∷ s);
          edges = q;
          taxa = u;
        }

        go : Way t t.edges → Drawing
        go (bare i b) = absurd (omega (arith, (alone_is t t.edges).0 b.lone))
        go (brackets e off) = whole e (inside t.edges off (λ c q. children_read (suc c) c (omega arith) (omega arith)))
