-- WHICH PLACES ARE BAD, of a sentence: what the lists of places in the table of refusals say, both ways. Assumes nothing.
use Prim.Native.Nat.{ℕ, ◌≤◌, ◌<◌}
use native.Mathlib.Omega.{arith}
use native.Mathlib.Decide.{dec_lt}
use mathlib.Core.Path.{◌≡◌, refl, sym, ◌∙◌, ap, subst}
use mathlib.Core.Logic.{◌⊎◌, inl, inr, ⊎_elim, ◌↔◌}
use mathlib.Core.Bool.{Bool, true, false, cond, not, ◌||◌, true≢false}
use mathlib.Core.List.{List, [], ◌∷◌, ◌++◌, map}
use lib.Dec.{ltb, eqb}
use borrow.Author.Tests.{eq-eqb, ne_eqb, le-ltb, ltb-false}
use Rattle.statement.specs.Rows.{Mem}
use Rattle.statement.specs.Sentence.{Leaf, Edge, among, split_made, clusters_of, kept_edges}
use Rattle.statement.specs.Refusals.{strays, places_of, twins}
use Rattle.newick_reading.proofs.Room.{among_mem, mem_among}
use Rattle.newick_claims.specs.Newick.{OneOf, taxon_of, Astray, EdgeAt, Twin}

-- one of a list, as a test
either : (b c : Bool) → (b || c) ≡ true → (b ≡ true) ⊎ (c ≡ true)
either true c e = inl refl
either false c e = inr e

or_left : (b c : Bool) → b ≡ true → (b || c) ≡ true
or_left b c e = rw e

or_right : (b c : Bool) → c ≡ true → (b || c) ≡ true
or_right true c e = refl
or_right false c e = e

-- in front of a list, where a test is passed
front_in : (b : Bool) (p place : ℕ) (ps : List ℕ) → Mem p (cond b (place ∷ ps) ps) → ((b ≡ true) × (p ≡ place)) ⊎ Mem p ps
front_in true p place ps (inl e) = inl (refl, e)
front_in true p place ps (inr m) = inr m
front_in false p place ps m = inr m

in_front : (b : Bool) (p place : ℕ) (ps : List ℕ) → b ≡ true → p ≡ place → Mem p (cond b (place ∷ ps) ps)
in_front true p place ps e h = inl h
in_front false p place ps e h = absurd (true≢false (sym e))

in_rest : (b : Bool) (p place : ℕ) (ps : List ℕ) → Mem p ps → Mem p (cond b (place ∷ ps) ps)
in_rest true p place ps m = inr m
in_rest false p place ps m = m

-- THE LEAVES ASTRAY, where these taxa were seen before
record AstrayFrom (n : ℕ) (seen : List ℕ) (ls : List Leaf) (p : ℕ) : Type 0 where
  leaf : Leaf
  before : List Leaf
  behind : List Leaf
  here : ls ≡ before ++ (leaf ∷ behind)
  there : leaf.place ≡ p
  why : (n ≤ leaf.taxon) ⊎ (Mem leaf.taxon (map taxon_of before) ⊎ Mem leaf.taxon seen)

off_is : (n x : ℕ) (seen : List ℕ) → (not (ltb x n) || among x seen) ≡ true → (n ≤ x) ⊎ Mem x seen
off_is n x seen e = ⊎_elim (λ h. inl (low (ltb x n) refl h)) (λ h. inr (among_mem x seen h)) (either (not (ltb x n)) (among x seen) e)
  where
    low : (b : Bool) → ltb x n ≡ b → not b ≡ true → n ≤ x
    low true h e = absurd (true≢false (sym e))
    low false h e = ltb-false x n h

off_so : (n x : ℕ) (seen : List ℕ) → (n ≤ x) ⊎ Mem x seen → (not (ltb x n) || among x seen) ≡ true
off_so n x seen (inl l) = or_left (not (ltb x n)) (among x seen) (ap not (le-ltb x n l))
off_so n x seen (inr m) = or_right (not (ltb x n)) (among x seen) (mem_among x seen m)

one_further : (n : ℕ) (seen : List ℕ) (l : Leaf) (ls : List Leaf) (p : ℕ) → AstrayFrom n (l.taxon ∷ seen) ls p → AstrayFrom n seen (l ∷ ls) p
one_further n seen l ls p a = record {
  leaf = a.leaf;
  before = l ∷ a.before;
  behind = a.behind;
  here = ap (λ (r : List Leaf). l ∷ r) a.here;
  there = a.there;
  why = ⊎_elim (λ h. inl h) (λ h. inr (⊎_elim (λ m. inl (inr m)) (λ m. ⊎_elim (λ e. inl (inl e)) (λ k. inr k) m) h)) a.why;
}

stray_there : (n : ℕ) (seen : List ℕ) (ls : List Leaf) (p : ℕ) → Mem p (strays n seen ls) → AstrayFrom n seen ls p
unfolding strays
stray_there n seen [] p m = absurd m
stray_there n seen (l ∷ ls) p m =
    ⊎_elim (λ h. record { leaf = l; before = []; behind = ls; here = refl; there = sym h.1; why = ⊎_elim (λ k. inl k) (λ k. inr (inr k)) (off_is n l.taxon seen h.0) })
    (λ h. one_further n seen l ls p (stray_there n (l.taxon ∷ seen) ls p h))
    (front_in (not (ltb l.taxon n) || among l.taxon seen) p l.place (strays n (l.taxon ∷ seen) ls) m)

stray_back : (n : ℕ) (seen : List ℕ) (before : List Leaf) (leaf : Leaf) (behind : List Leaf) (p : ℕ) → leaf.place ≡ p
    → (n ≤ leaf.taxon) ⊎ (Mem leaf.taxon (map taxon_of before) ⊎ Mem leaf.taxon seen) → Mem p (strays n seen (before ++ (leaf ∷ behind)))
unfolding strays
stray_back n seen [] leaf behind p e w =
    in_front _ p leaf.place (strays n (leaf.taxon ∷ seen) behind)
    (off_so n leaf.taxon seen (⊎_elim (λ h. inl h) (λ h. ⊎_elim (λ m. absurd m) (λ m. inr m) h) w)) (sym e)
stray_back n seen (l ∷ ls) leaf behind p e w =
    in_rest (not (ltb l.taxon n) || among l.taxon seen) p l.place (strays n (l.taxon ∷ seen) (ls ++ (leaf ∷ behind)))
    (stray_back n (l.taxon ∷ seen) ls leaf behind p e
    (⊎_elim (λ h. inl h) (λ h. inr (⊎_elim (λ m. ⊎_elim (λ k. inr (inl k)) (λ k. inl k) m) (λ m. inr (inr m)) h)) w))

pub stray_is : (n : ℕ) (ls : List Leaf) (p : ℕ) → Mem p (strays n [] ls) ↔ Astray n ls p
stray_is n ls p = (
  (λ m. let a = stray_there n [] ls p m in
      record {
        leaf = a.leaf;
        stands = record { before = a.before; behind = a.behind; here = a.here };
        there = a.there;
        why = ⊎_elim (λ h. inl h) (λ h. ⊎_elim (λ m. inr m) (λ m. absurd m) h) a.why;
      }),
  (λ a. subst (λ (l : List Leaf). Mem p (strays n [] l)) (sym a.stands.here)
      (stray_back n [] a.stands.before a.leaf a.stands.behind p a.there (⊎_elim (λ h. inl h) (λ h. inr (inl h)) a.why))),
)

-- THE EDGES THAT PASS A TEST
module _ (test : Edge → Bool) (Such : Edge → Type 0) (is : (e : Edge) → (test e ≡ true) ↔ Such e) (p : ℕ) where
  place_there : (es : List Edge) → Mem p (places_of test es) → EdgeAt Such es p
  unfolding places_of
  place_there [] m = absurd m
  place_there (e ∷ es) m =
      ⊎_elim (λ h. (e, inl refl, (is e).0 h.0, sym h.1)) (λ h. let (x, s, k, q) = place_there es h in (x, inr s, k, q))
      (front_in (test e) p e.place (places_of test es) m)

  place_back : (es : List Edge) (e : Edge) → OneOf e es → Such e → e.place ≡ p → Mem p (places_of test es)
  unfolding places_of
  place_back [] e o s q = absurd o
  place_back (x ∷ xs) e (inl h) s q = in_front (test x) p x.place (places_of test xs) ((is x).1 (subst Such h s)) (sym q ∙ ap (λ (z : Edge). z.place) h)
  place_back (x ∷ xs) e (inr o) s q = in_rest (test x) p x.place (places_of test xs) (place_back xs e o s q)

  pub places_are : (es : List Edge) → Mem p (places_of test es) ↔ EdgeAt Such es p
  places_are es = (place_there es, (λ h. let (e, s, k, q) = h in place_back es e s k q))

-- THE EDGES THAT ARE KEPT: those above 0
above : (w : ℕ) → eqb w 0 ≡ false → 1 ≤ w
above w e = go (dec_lt 0 w)
  where
    go : Dec (0 < w) → 1 ≤ w
    go (yes l) = l
    go (no l) = absurd (true≢false (sym (eq-eqb w 0 (let z : w ≡ 0 = omega arith in z)) ∙ e))

module _ (e : Edge) where
  there_by : (x : Edge) (xs : List Edge) (b : Bool) → eqb x.weight 0 ≡ b → (OneOf e (kept_edges xs) → OneOf e xs × (1 ≤ e.weight))
      → OneOf e (cond b (kept_edges xs) (x ∷ kept_edges xs)) → OneOf e (x ∷ xs) × (1 ≤ e.weight)
  there_by x xs true z ih o = let (s, w) = ih o in (inr s, w)
  there_by x xs false z ih (inl h) = (inl h, subst (λ (y : Edge). 1 ≤ y.weight) (sym h) (above x.weight z))
  there_by x xs false z ih (inr o) = let (s, w) = ih o in (inr s, w)

  kept_there : (es : List Edge) → OneOf e (kept_edges es) → OneOf e es × (1 ≤ e.weight)
  unfolding kept_edges
  kept_there [] o = absurd o
  kept_there (x ∷ xs) o = there_by x xs (eqb x.weight 0) refl (kept_there xs) o

  back_by : (x : Edge) (xs : List Edge) (b : Bool) → eqb x.weight 0 ≡ b → OneOf e (kept_edges xs) → OneOf e (cond b (kept_edges xs) (x ∷ kept_edges xs))
  back_by x xs true z o = o
  back_by x xs false z o = inr o

  kept_back : (es : List Edge) → OneOf e es → 1 ≤ e.weight → OneOf e (kept_edges es)
  unfolding kept_edges
  kept_back [] o w = absurd o
  kept_back (x ∷ xs) (inl h) w = rw (ne_eqb x.weight 0 (λ z. omega (arith, w, ap (λ (y : Edge). y.weight) h))) (inl h)
  kept_back (x ∷ xs) (inr o) w = back_by x xs (eqb x.weight 0) refl (kept_back xs o w)

  pub kept_is : (es : List Edge) → OneOf e (kept_edges es) ↔ (OneOf e es × (1 ≤ e.weight))
  kept_is es = (kept_there es, (λ h. kept_back es h.0 h.1))

-- THE EDGES WHOSE SPLIT ANOTHER MAKES, where these splits were made before
record TwinFrom (n : ℕ) (made : List ℕ) (es : List Edge) (p : ℕ) : Type 0 where
  edge : Edge
  before : List Edge
  behind : List Edge
  here : es ≡ before ++ (edge ∷ behind)
  there : edge.place ≡ p
  why : Mem (split_made n edge) made ⊎ Mem (split_made n edge) (clusters_of n (before ++ behind))

twin_test : (n : ℕ) (made : List ℕ) (e : Edge) (es : List Edge) → (among (split_made n e) made || among (split_made n e) (clusters_of n es)) ≡ true
    → Mem (split_made n e) made ⊎ Mem (split_made n e) (clusters_of n es)
twin_test n made e es h =
    ⊎_elim (λ k. inl (among_mem (split_made n e) made k)) (λ k. inr (among_mem (split_made n e) (clusters_of n es) k))
    (either (among (split_made n e) made) (among (split_made n e) (clusters_of n es)) h)

twin_there : (n : ℕ) (made : List ℕ) (es : List Edge) (p : ℕ) → Mem p (twins n made es) → TwinFrom n made es p
unfolding twins clusters_of
twin_there n made [] p m = absurd m
twin_there n made (e ∷ es) p m =
    ⊎_elim (λ h. record { edge = e; before = []; behind = es; here = refl; there = sym h.1; why = twin_test n made e es h.0 })
    (λ h. let a = twin_there n (split_made n e ∷ made) es p h in
    record {
      edge = a.edge;
      before = e ∷ a.before;
      behind = a.behind;
      here = ap (λ (r : List Edge). e ∷ r) a.here;
      there = a.there;
      why = ⊎_elim (λ k. ⊎_elim (λ q. inr (inl q)) (λ q. inl q) k) (λ k. inr (inr k)) a.why;
    })
    (front_in (among (split_made n e) made || among (split_made n e) (clusters_of n es)) p e.place (twins n (split_made n e ∷ made) es) m)

twin_back : (n : ℕ) (made : List ℕ) (before : List Edge) (e : Edge) (behind : List Edge) (p : ℕ) → e.place ≡ p
    → Mem (split_made n e) made ⊎ Mem (split_made n e) (clusters_of n (before ++ behind)) → Mem p (twins n made (before ++ (e ∷ behind)))
unfolding twins clusters_of
twin_back n made [] e behind p q w =
    in_front _ p e.place (twins n (split_made n e ∷ made) behind)
    (⊎_elim (λ m. or_left (among (split_made n e) made) (among (split_made n e) (clusters_of n behind)) (mem_among (split_made n e) made m))
    (λ m. or_right (among (split_made n e) made) (among (split_made n e) (clusters_of n behind)) (mem_among (split_made n e) (clusters_of n behind) m)) w) (sym q)
twin_back n made (x ∷ xs) e behind p q w =
    in_rest (among (split_made n x) made || among (split_made n x) (clusters_of n (xs ++ (e ∷ behind)))) p x.place (twins n (split_made n x ∷ made) (xs ++ (e ∷ behind)))
    (twin_back n (split_made n x ∷ made) xs e behind p q (⊎_elim (λ m. inl (inr m)) (λ m. ⊎_elim (λ h. inl (inl h)) (λ k. inr k) m) w))

pub twin_is : (n : ℕ) (es : List Edge) (p : ℕ) → Mem p (twins n [] es) ↔ Twin n es p
twin_is n es p = (
  (λ m. let a = twin_there n [] es p m in
      record {
        edge = a.edge;
        stands = record { before = a.before; behind = a.behind; here = a.here };
        there = a.there;
        why = ⊎_elim (λ k. absurd k) (λ k. k) a.why;
      }),
  (λ a. subst (λ (l : List Edge). Mem p (twins n [] l)) (sym a.stands.here)
      (twin_back n [] a.stands.before a.edge a.stands.behind p a.there (inr a.why))),
)
