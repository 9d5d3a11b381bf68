-- Where no leaf strays, the edges that the walk enters are those of the sentence. Assumes nothing.
use Prim.Native.Nat.{ℕ, ◌+◌, ◌-◌, ◌^◌, ◌≤◌, ◌<◌, min}
use native.Mathlib.Omega.{arith}
use mathlib.Core.Path.{◌≡◌, refl, sym, ◌∙◌, ap, ap₂}
use mathlib.Core.Bool.{true, false}
use mathlib.Core.List.{List, [], ◌∷◌, ◌++◌, map, map-append}
use borrow.Author.Tests.{lt-ltb}
use Rattle.statement.specs.Cluster.{group_of}
use Rattle.statement.specs.Sentence.{Numeral, Children, leaf, group, leaf_then, group_then, Leaf, Edge, value, width, size, among, beyond, taxa_of, leaves_at, edges_at, split_made, edge_at, past_leaf, past_group}
use Rattle.numerals.specs.Numerals.{number_limit}
use Rattle.newick_edges.specs.declared.Met.{Met}
use Rattle.newick_edges.specs.Marks.{fresh, meet, mask_of, side}
use Rattle.newick_walk.specs.Tokens.{cut}
use Rattle.newick_noted.proofs.Groups.{side_group}
use Rattle.newick_noted.proofs.Taxa.{meet_all, taxa, met_group, fresh_is, meets_it, met_seen, Good, turned, good_append, good_alone, total, group_turned, total_group}
use Rattle.newick_noted.proofs.Play.{Entry, entry, entries_at}

pub taxa_leaves : (p : ℕ) (f : Children) → taxa (leaves_at p f) ≡ taxa_of f
unfolding leaves_at taxa_of
taxa_leaves p (leaf x w) = refl
taxa_leaves p (group f w) = taxa_leaves (p + 1) f
taxa_leaves p (leaf_then x w r) = ap (λ (s : List ℕ). value x ∷ s) (taxa_leaves (past_leaf p x w) r)
taxa_leaves p (group_then f w r) =
    map-append (λ (l : Leaf). l.taxon) (leaves_at (p + 1) f) (leaves_at (past_group p f w) r)
    ∙ ap₂ (λ (s t : List ℕ). s ++ t) (taxa_leaves (p + 1) f) (taxa_leaves (past_group p f w) r)

-- an edge as the walk is to enter it
abbrev pub entry_of : ℕ → Edge → Entry
entry_of n e = entry e.place (split_made n e) (min e.weight number_limit)

module _ (n : ℕ) (some : 0 < n) (few : n ≤ 64) where
  side_of : (xs : List ℕ) → Good n [] xs → side n (total xs) ≡ group_of (beyond xs) n
  side_of xs g = ap (side n) (total_group n xs g) ∙ side_group (λ x. among x xs) n some

  -- the taxa met since
  since : (f : Children) (p : ℕ) (before : List ℕ) (m : Met) → m.seen ≡ met_group n before → Good n before (taxa_of f)
      → side n ((meet_all n (leaves_at p f) m).seen - m.seen) ≡ group_of (beyond (taxa_of f)) n
  since f p before m e g =
      let a : (meet_all n (leaves_at p f) m).seen ≡ met_group n (turned (taxa_of f) before)
      = met_seen n few (leaves_at p f) before m e ∙ ap (λ (s : List ℕ). met_group n (turned s before)) (taxa_leaves p f) in
      let b : (meet_all n (leaves_at p f) m).seen - m.seen ≡ total (taxa_of f) = omega (arith, a, e, group_turned n before (taxa_of f) g) in
      ap (side n) b ∙ side_of (taxa_of f) (good_alone n before (taxa_of f) g)

  unbracketed : (x : Numeral) (before : List ℕ) (m : Met) → m.seen ≡ met_group n before → value x < n → among (value x) before ≡ false
      → side n (mask_of n m.seen (cut x)) ≡ group_of (beyond (value x ∷ [])) n
  unfolding mask_of total
  unbracketed x before m e l a =
      let f : fresh n m.seen (cut x) ≡ true
      = ap (λ (s : ℕ). fresh n s (cut x)) e ∙ fresh_is n few before (value x) ∙ rw (lt-ltb (value x) n l, a) in
      let c : cut x ≡ value x = omega arith in
      rw f (ap (side n) (ap (λ (k : ℕ). 2 ^ k) c ∙ (let z : 2 ^ value x ≡ 2 ^ value x + 0 = omega arith in z)) ∙ side_of (value x ∷ []) (l, refl, tt))

  pub entries_are : (f : Children) (p : ℕ) (before : List ℕ) (m : Met) → m.seen ≡ met_group n before → Good n before (taxa_of f)
      → entries_at n p m f ≡ map (entry_of n) (edges_at p f)
  unfolding entries_at edges_at taxa_of split_made
  entries_are (leaf x w) p before m e g =
      ap (λ (c : ℕ). entry (p + width x + 1) c (cut w) ∷ []) (unbracketed x before m e g.0 g.1)
  entries_are (group f w) p before m e g =
      ap₂ (λ (s : List Entry) (c : ℕ). s ++ (entry (p + 1 + size f + 1 + 1) c (cut w) ∷ [])) (entries_are f (p + 1) before m e g) (since f (p + 1) before m e g)
      ∙ sym (map-append (entry_of n) (edges_at (p + 1) f) (edge_at (p + 1 + size f + 1 + 1) (taxa_of f) w ∷ []))
  entries_are (leaf_then x w r) p before m e g =
      ap₂ (λ (c : ℕ) (s : List Entry). entry (p + width x + 1) c (cut w) ∷ s) (unbracketed x before m e g.0 g.1)
      (entries_are r (past_leaf p x w) (value x ∷ before) (meet n m p (cut x)) (meets_it n few before m p (value x) e).0 g.2)
  entries_are (group_then f w r) p before m e g =
      let h = good_append n before (taxa_of f) (taxa_of r) g in
      let q : (meet_all n (leaves_at (p + 1) f) m).seen ≡ met_group n (turned (taxa_of f) before)
      = met_seen n few (leaves_at (p + 1) f) before m e ∙ ap (λ (s : List ℕ). met_group n (turned s before)) (taxa_leaves (p + 1) f) in
      ap₂ (λ (s : List Entry) (t : List Entry). s ++ t) (entries_are f (p + 1) before m e h.0)
      (ap₂ (λ (c : ℕ) (s : List Entry). entry (p + 1 + size f + 1 + 1) c (cut w) ∷ s) (since f (p + 1) before m e h.0)
      (entries_are r (past_group p f w) (turned (taxa_of f) before) (meet_all n (leaves_at (p + 1) f) m) q h.1))
      ∙ sym (map-append (entry_of n) (edges_at (p + 1) f) (edge_at (p + 1 + size f + 1 + 1) (taxa_of f) w ∷ edges_at (past_group p f w) r))
