-- The places of leaves and edges ascend, so the first of a list of bad places is the lowest. Assumes nothing.
use Rattle.std.specs.Prelude.{Some, None}
use Prim.Native.Nat.{ℕ, suc, ◌+◌, ◌≤◌, ◌<◌}
use native.Mathlib.Omega.{arith}
use mathlib.Core.Path.{◌≡◌, refl, sym, ◌∙◌, ap, subst}
use mathlib.Core.Bool.{Bool, true, false, cond, not, ◌||◌}
use mathlib.Core.List.{List, [], ◌∷◌, map, map-append}
use lib.Dec.{ltb, eqb}
use borrow.Author.Tests.{eq-eqb, ne_eqb}
use Rattle.statement.specs.Outcomes.{Refused}
use Rattle.statement.specs.Rows.{Ascending}
use Rattle.statement.specs.Refusals.{Check, outcome_of, places_of, strays, twins, bad_at}
use Rattle.statement.proofs.Lowest.{lowest_at, lowest_none, none_at}
use Rattle.statement.proofs.Listed.{asc_le, asc_lower, asc_append}
use Rattle.statement.proofs.Refused.{refused_at, passed_at}
use Rattle.statement.specs.Sentence.{Numeral, nought, lead, Children, leaf, group, leaf_then, group_then, Leaf, Edge, among, width, size, taxa_of, leaves_at, edges_at, split_made, kept_edges, edge_at, past_leaf, past_group, clusters_of}
use Rattle.newick_noted.proofs.Taxa as taxa
use Rattle.newick_meaning.proofs.Sizes.{size_leaf, size_node, size_leaf2, size_node2}
use Rattle.newick_noted.proofs.Edges.{entry_of}
use Rattle.newick_noted.proofs.Rows as rows

abbrev pub leaf_places : List Leaf → List ℕ
leaf_places ls = map (λ l. l.place) ls

abbrev pub edge_places : List Edge → List ℕ
edge_places es = map (λ e. e.place) es

asc_higher : (lo hi hi' : ℕ) (xs : List ℕ) → hi ≤ hi' → Ascending lo hi xs → Ascending lo hi' xs
asc_higher lo hi hi' [] l h = omega arith
asc_higher lo hi hi' (x ∷ xs) l h = (h.0, asc_higher (suc x) hi hi' xs l h.1)

pub asc_between : (lo lo' hi hi' : ℕ) (xs : List ℕ) → lo' ≤ lo → hi ≤ hi' → Ascending lo hi xs → Ascending lo' hi' xs
asc_between lo lo' hi hi' xs l h a = asc_lower lo' lo hi' xs l (asc_higher lo hi hi' xs h a)

width_some : (x : Numeral) → 0 < width x
width_some nought = omega arith
width_some (lead c p q r) = omega arith

-- LEAVES
pub leaves_up : (p : ℕ) (f : Children) → Ascending p (p + size f) (leaf_places (leaves_at p f))
unfolding leaves_at
leaves_up p (leaf x w) = (omega arith, omega (arith, size_leaf x w))
leaves_up p (group f w) = asc_between (p + 1) p (p + 1 + size f) (p + size (group f w)) (leaf_places (leaves_at (p + 1) f)) (omega arith) (omega (arith, size_node f w)) (leaves_up (p + 1) f)
leaves_up p (leaf_then x w r) =
    (omega arith, asc_between (past_leaf p x w) (suc p) (past_leaf p x w + size r) (p + size (leaf_then x w r)) (leaf_places (leaves_at (past_leaf p x w) r)) (omega arith) (omega (arith, size_leaf2 x w r)) (leaves_up (past_leaf p x w) r))
leaves_up p (group_then f w r) =
    subst (Ascending p (p + size (group_then f w r))) (sym (map-append (λ (l : Leaf). l.place) (leaves_at (p + 1) f) (leaves_at (past_group p f w) r)))
    (asc_append p (p + 1 + size f) (p + size (group_then f w r)) (leaf_places (leaves_at (p + 1) f)) (leaf_places (leaves_at (past_group p f w) r))
    (asc_between (p + 1) p (p + 1 + size f) (p + 1 + size f) (leaf_places (leaves_at (p + 1) f)) (omega arith) (omega arith) (leaves_up (p + 1) f))
    (asc_between (past_group p f w) (p + 1 + size f) (past_group p f w + size r) (p + size (group_then f w r)) (leaf_places (leaves_at (past_group p f w) r)) (omega arith) (omega (arith, size_node2 f w r)) (leaves_up (past_group p f w) r)))

-- EDGES
pub edges_up : (p : ℕ) (f : Children) → Ascending p (p + size f) (edge_places (edges_at p f))
unfolding edges_at
edges_up p (leaf x w) = (omega arith, omega (arith, size_leaf x w, width_some w))
edges_up p (group f w) =
    subst (Ascending p (p + size (group f w))) (sym (map-append (λ (e : Edge). e.place) (edges_at (p + 1) f) (edge_at (p + 1 + size f + 1 + 1) (taxa_of f) w ∷ [])))
    (asc_append p (p + 1 + size f) (p + size (group f w)) (edge_places (edges_at (p + 1) f)) ((p + 1 + size f + 1 + 1) ∷ [])
    (asc_between (p + 1) p (p + 1 + size f) (p + 1 + size f) (edge_places (edges_at (p + 1) f)) (omega arith) (omega arith) (edges_up (p + 1) f))
    (omega arith, omega (arith, size_node f w, width_some w)))
edges_up p (leaf_then x w r) =
    (omega arith, asc_between (past_leaf p x w) (suc (p + width x + 1)) (past_leaf p x w + size r) (p + size (leaf_then x w r)) (edge_places (edges_at (past_leaf p x w) r)) (omega arith) (omega (arith, size_leaf2 x w r)) (edges_up (past_leaf p x w) r))
edges_up p (group_then f w r) =
    subst (Ascending p (p + size (group_then f w r))) (sym (map-append (λ (e : Edge). e.place) (edges_at (p + 1) f) (edge_at (p + 1 + size f + 1 + 1) (taxa_of f) w ∷ edges_at (past_group p f w) r)))
    (asc_append p (p + 1 + size f) (p + size (group_then f w r)) (edge_places (edges_at (p + 1) f)) ((p + 1 + size f + 1 + 1) ∷ edge_places (edges_at (past_group p f w) r))
    (asc_between (p + 1) p (p + 1 + size f) (p + 1 + size f) (edge_places (edges_at (p + 1) f)) (omega arith) (omega arith) (edges_up (p + 1) f))
    (omega arith, asc_between (past_group p f w) (suc (p + 1 + size f + 1 + 1)) (past_group p f w + size r) (p + size (group_then f w r)) (edge_places (edges_at (past_group p f w) r)) (omega arith) (omega (arith, size_node2 f w r)) (edges_up (past_group p f w) r)))

-- SOME of them
skip : (lo hi x : ℕ) (xs ys : List ℕ) (b : Bool) → Ascending lo hi (x ∷ xs) → Ascending (suc x) hi ys → Ascending lo hi (cond b (x ∷ ys) ys)
skip lo hi x xs ys true h k = (h.0, k)
skip lo hi x xs ys false h k = asc_lower lo (suc x) hi ys (omega (arith, h.0)) k

pub strays_up : (n lo hi : ℕ) (before : List ℕ) (ls : List Leaf) → Ascending lo hi (leaf_places ls) → Ascending lo hi (strays n before ls)
unfolding strays
strays_up n lo hi before [] h = h
strays_up n lo hi before (l ∷ ls) h =
    skip lo hi l.place (leaf_places ls) (strays n (l.taxon ∷ before) ls) (not (ltb l.taxon n) || among l.taxon before) h (strays_up n (suc l.place) hi (l.taxon ∷ before) ls h.1)

pub places_up : (test : Edge → Bool) (lo hi : ℕ) (es : List Edge) → Ascending lo hi (edge_places es) → Ascending lo hi (places_of test es)
unfolding places_of
places_up test lo hi [] h = h
places_up test lo hi (e ∷ es) h = skip lo hi e.place (edge_places es) (places_of test es) (test e) h (places_up test (suc e.place) hi es h.1)

pub twins_up : (n lo hi : ℕ) (before : List ℕ) (es : List Edge) → Ascending lo hi (edge_places es) → Ascending lo hi (twins n before es)
unfolding twins
twins_up n lo hi before [] h = h
twins_up n lo hi before (e ∷ es) h =
    skip lo hi e.place (edge_places es) (twins n (split_made n e ∷ before) es) (among (split_made n e) before || among (split_made n e) (clusters_of n es)) h (twins_up n (suc e.place) hi (split_made n e ∷ before) es h.1)

pub kept_up : (lo hi : ℕ) (es : List Edge) → Ascending lo hi (edge_places es) → Ascending lo hi (edge_places (kept_edges es))
unfolding kept_edges
kept_up lo hi [] h = h
kept_up lo hi (e ∷ es) h = go (eqb e.weight 0) (kept_up (suc e.place) hi es h.1)
  where
    go : (b : Bool) → Ascending (suc e.place) hi (edge_places (kept_edges es)) → Ascending lo hi (edge_places (cond b (kept_edges es) (e ∷ kept_edges es)))
    go true k = asc_lower lo (suc e.place) hi (edge_places (kept_edges es)) (omega (arith, h.0)) k
    go false k = (h.0, k)

-- none of them 0
pub edges_placed : (n lo hi : ℕ) (es : List Edge) → 0 < lo → Ascending lo hi (edge_places es) → rows.Placed (map (entry_of n) es)
edges_placed n lo hi [] l h = tt
edges_placed n lo hi (x ∷ xs) l h = (omega (arith, h.0), edges_placed n (suc x.place) hi xs (omega arith) h.1)

-- THE LOWEST of ascending places is the first
below_first : (lo hi i : ℕ) (ps : List ℕ) → Ascending lo hi ps → i < lo → among i ps ≡ false
below_first lo hi i [] h l = refl
below_first lo hi i (p ∷ ps) h l = rw (ne_eqb i p (λ e. omega (arith, h.0))) (below_first (suc p) hi i ps h.1 (omega (arith, h.0)))

module _ (number m : ℕ) (cs : List Check) where
  pub bad_passed : (ps : List ℕ) → ps ≡ [] → outcome_of (bad_at number ps m ∷ cs) ≡ outcome_of cs
  bad_passed ps e =
      passed_at (bad_at number ps m) cs m (sym (lowest_none (λ i. among i ps) m (none_at (λ i. among i ps) m (λ i l. ap (among i) e)))) (omega arith)

  pub bad_refused : (p : ℕ) (ps : List ℕ) → Ascending 0 m (p ∷ ps) → outcome_of (bad_at number (p ∷ ps) m ∷ cs) ≡ Refused number p
  bad_refused p ps h =
      let l : p < m = omega (arith, asc_le (suc p) m ps h.1) in
      refused_at (bad_at number (p ∷ ps) m) cs p
      (sym (lowest_at (λ i. among i (p ∷ ps)) m p l (rw (eq-eqb p p refl)) (λ j k. rw (ne_eqb j p (λ e. omega arith)) (below_first (suc p) m j ps h.1 (omega arith))))) l

  -- by the first of them
  pub bad_found : (p : ℕ) (ps : List ℕ) → Ascending 1 m ps → taxa.head ps ≡ Some p → outcome_of (bad_at number ps m ∷ cs) ≡ Refused number p
  unfolding taxa.head
  bad_found p [] h e = absurd (let z : ◌≡◌ {A = ℕ} 0 1 = cc in omega arith)
  bad_found p (q ∷ ps) h e = bad_refused q ps (asc_lower 0 1 m (q ∷ ps) (omega arith) h) ∙ ap (Refused number) (let z : q ≡ p = cc in z)

  -- the same, with 0 where there is none
  pub bad_first : (p : ℕ) (ps : List ℕ) → Ascending 1 m ps → p ≡ taxa.head_or 0 ps → (p ≡ 0 → ⊥) → outcome_of (bad_at number ps m ∷ cs) ≡ Refused number p
  unfolding taxa.head_or
  bad_first p [] h e f = absurd (f e)
  bad_first p (q ∷ ps) h e f = bad_refused q ps (asc_lower 0 1 m (q ∷ ps) (omega arith) h) ∙ ap (Refused number) (sym e)

pub none_found : (ps : List ℕ) → taxa.head ps ≡ None → ps ≡ []
unfolding taxa.head
none_found [] e = refl
none_found (q ∷ ps) e = absurd (let z : ◌≡◌ {A = ℕ} 0 1 = cc in omega arith)

pub none_first : (m : ℕ) (ps : List ℕ) → Ascending 1 m ps → taxa.head_or 0 ps ≡ 0 → ps ≡ []
unfolding taxa.head_or
none_first m [] h e = refl
none_first m (q ∷ ps) h e = absurd (omega (arith, h.0))
