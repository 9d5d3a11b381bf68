-- THE EDGES OF A SENTENCE DO NOT CONFLICT, so there are at most 2n-3 clusters. Assumes nothing.
use Prim.Native.Nat.{ℕ, zero, suc, ◌+◌, ◌^◌, ◌<◌}
use native.Mathlib.Omega.{arith}
use mathlib.Core.Path.{◌≡◌, refl, sym, ◌∙◌, ap}
use mathlib.Core.Logic.{◌⊎◌, inl, inr, ⊎_elim}
use mathlib.Core.Bool.{Bool, true, false, cond, not, ◌||◌, true≢false, false≢true}
use mathlib.Core.List.{List, [], ◌∷◌, ◌++◌}
use Rattle.statement.specs.Cluster.{bit, In, Out, Split, Conflict}
use Rattle.statement.proofs.Groups.{group_below, group_bit}
use Rattle.statement.specs.Sentence.{Children, leaf, group, leaf_then, group_then, Edge, value, among, beyond, taxa_of, edges_at, split_made, edge_at, past_leaf, past_group, size}
use Rattle.newick_noted.proofs.Taxa.{among_append, Good, good_append, good_disjoint}

abbrev pub InE : Edge → List Edge → Type 0
InE e [] = ⊥
InE e (x ∷ xs) = (e ≡ x) ⊎ InE e xs

in_append : (e : Edge) (xs ys : List Edge) → InE e (xs ++ ys) → InE e xs ⊎ InE e ys
in_append e [] ys h = inr h
in_append e (x ∷ xs) ys (inl q) = inl (inl q)
in_append e (x ∷ xs) ys (inr h) = ⊎_elim (λ k. inl (inr k)) (λ k. inr k) (in_append e xs ys h)

abbrev Sub : List ℕ → List ℕ → Type 0
Sub xs ys = (x : ℕ) → among x xs ≡ true → among x ys ≡ true

sub_left : (xs ys : List ℕ) → Sub xs (xs ++ ys)
sub_left xs ys x h = among_append x xs ys ∙ rw h

sub_right : (xs ys : List ℕ) → Sub ys (xs ++ ys)
sub_right xs ys x h = among_append x xs ys ∙ go (among x xs) h
  where
    go : (b : Bool) → among x ys ≡ true → (b || among x ys) ≡ true
    go true h = refl
    go false h = h

sub_of : (e : Edge) (xs : List ℕ) (x : Edge) → e ≡ x → Sub x.below xs → Sub e.below xs
sub_of e xs x q h y k = h y (ap (λ (z : Edge). among y z.below) (sym q) ∙ k)

-- the taxa below an edge are taxa of the sentence
within : (f : Children) (p : ℕ) (e : Edge) → InE e (edges_at p f) → Sub e.below (taxa_of f)
unfolding edges_at taxa_of
within (leaf x w) p e (inl q) = sub_of e (value x ∷ []) _ q (λ y k. k)
within (leaf x w) p e (inr h) = absurd h
within (group f w) p e h =
    ⊎_elim (λ k. within f (p + 1) e k) (λ k. ⊎_elim (λ q. sub_of e (taxa_of f) _ q (λ y z. z)) (λ z. absurd z) k)
    (in_append e (edges_at (p + 1) f) (edge_at (p + 1 + size f + 1 + 1) (taxa_of f) w ∷ []) h)
within (leaf_then x w r) p e (inl q) = sub_of e (value x ∷ taxa_of r) _ q (sub_left (value x ∷ []) (taxa_of r))
within (leaf_then x w r) p e (inr h) = λ y k. sub_right (value x ∷ []) (taxa_of r) y (within r (past_leaf p x w) e h y k)
within (group_then f w r) p e h =
    ⊎_elim (λ k y z. sub_left (taxa_of f) (taxa_of r) y (within f (p + 1) e k y z))
    (λ k. ⊎_elim (λ q. sub_of e (taxa_of f ++ taxa_of r) _ q (sub_left (taxa_of f) (taxa_of r))) (λ z y u. sub_right (taxa_of f) (taxa_of r) y (within r (past_group p f w) e z y u)) k)
    (in_append e (edges_at (p + 1) f) (edge_at (p + 1 + size f + 1 + 1) (taxa_of f) w ∷ edges_at (past_group p f w) r) h)

-- one within the other, or nothing in common
pub data Nest (xs ys : List ℕ) : Type 0 where
  inner : Sub xs ys → Nest xs ys
  outer : Sub ys xs → Nest xs ys
  apart : ((x : ℕ) → among x xs ≡ true → among x ys ≡ true → ⊥) → Nest xs ys

turn : (xs ys : List ℕ) → Nest xs ys → Nest ys xs
turn xs ys (inner h) = outer h
turn xs ys (outer h) = inner h
turn xs ys (apart h) = apart (λ x a b. h x b a)

nest_same : (a b x : Edge) → a ≡ x → b ≡ x → Nest a.below b.below
nest_same a b x p q = inner (λ y k. ap (λ (z : Edge). among y z.below) (sym (p ∙ sym q)) ∙ k)

-- under one vertex: two edges of f, or the edge above it
under : (f : Children) (p : ℕ) (a b t : Edge) → t.below ≡ taxa_of f → ((a b : Edge) → InE a (edges_at p f) → InE b (edges_at p f) → Nest a.below b.below)
    → InE a (edges_at p f) ⊎ (a ≡ t) → InE b (edges_at p f) ⊎ (b ≡ t) → Nest a.below b.below
under f p a b t e ih (inl h) (inl k) = ih a b h k
under f p a b t e ih (inl h) (inr q) = inner (λ y z. ap (λ (x : Edge). among y x.below) q ∙ ap (among y) e ∙ within f p a h y z)
under f p a b t e ih (inr q) (inl k) = outer (λ y z. ap (λ (x : Edge). among y x.below) q ∙ ap (among y) e ∙ within f p b k y z)
under f p a b t e ih (inr q) (inr r) = nest_same a b t q r

split_apart : (n : ℕ) (before xs ys : List ℕ) → Good n before (xs ++ ys) → (a b : Edge) → Sub a.below xs → Sub b.below ys → Nest a.below b.below
split_apart n before xs ys g a b h k = apart (λ x p q. true≢false (sym (k x q) ∙ good_disjoint n before xs ys x g (h x p)))

pub nested : (n : ℕ) (f : Children) (p : ℕ) (before : List ℕ) → Good n before (taxa_of f) → (a b : Edge) → InE a (edges_at p f) → InE b (edges_at p f) → Nest a.below b.below
unfolding edges_at taxa_of
nested n (leaf x w) p before g a b (inl q) (inl r) = nest_same a b _ q r
nested n (leaf x w) p before g a b (inr h) k = absurd h
nested n (leaf x w) p before g a b (inl q) (inr k) = absurd k
nested n (group f w) p before g a b h k =
    under f (p + 1) a b (edge_at (p + 1 + size f + 1 + 1) (taxa_of f) w) refl (λ a b. nested n f (p + 1) before g a b) (part a h) (part b k)
  where
    part : (e : Edge) → InE e (edges_at (p + 1) f ++ (edge_at (p + 1 + size f + 1 + 1) (taxa_of f) w ∷ [])) → InE e (edges_at (p + 1) f) ⊎ (e ≡ edge_at (p + 1 + size f + 1 + 1) (taxa_of f) w)
    part e h = ⊎_elim (λ k. inl k) (λ k. ⊎_elim (λ q. inr q) (λ z. absurd z) k) (in_append e (edges_at (p + 1) f) (edge_at (p + 1 + size f + 1 + 1) (taxa_of f) w ∷ []) h)
nested n (leaf_then x w r) p before g a b (inl q) (inl s) = nest_same a b _ q s
nested n (leaf_then x w r) p before g a b (inl q) (inr k) =
    split_apart n before (value x ∷ []) (taxa_of r) g a b (sub_of a (value x ∷ []) _ q (λ y z. z)) (within r (past_leaf p x w) b k)
nested n (leaf_then x w r) p before g a b (inr h) (inl s) =
    turn b.below a.below (split_apart n before (value x ∷ []) (taxa_of r) g b a (sub_of b (value x ∷ []) _ s (λ y z. z)) (within r (past_leaf p x w) a h))
nested n (leaf_then x w r) p before g a b (inr h) (inr k) = nested n r (past_leaf p x w) (value x ∷ before) g.2 a b h k
nested n (group_then f w r) p before g a b h k = go (part a h) (part b k)
    (λ a b. nested n f (p + 1) before (good_append n before (taxa_of f) (taxa_of r) g).0 a b)
    (λ a b. nested n r (past_group p f w) _ (good_append n before (taxa_of f) (taxa_of r) g).1 a b)
  where
    part : (e : Edge) → InE e (edges_at (p + 1) f ++ (edge_at (p + 1 + size f + 1 + 1) (taxa_of f) w ∷ edges_at (past_group p f w) r))
        → (InE e (edges_at (p + 1) f) ⊎ (e ≡ edge_at (p + 1 + size f + 1 + 1) (taxa_of f) w)) ⊎ InE e (edges_at (past_group p f w) r)
    part e h =
        ⊎_elim (λ k. inl (inl k)) (λ k. ⊎_elim (λ q. inl (inr q)) (λ z. inr z) k)
        (in_append e (edges_at (p + 1) f) (edge_at (p + 1 + size f + 1 + 1) (taxa_of f) w ∷ edges_at (past_group p f w) r) h)

    own : (e : Edge) → InE e (edges_at (p + 1) f) ⊎ (e ≡ edge_at (p + 1 + size f + 1 + 1) (taxa_of f) w) → Sub e.below (taxa_of f)
    own e (inl k) = within f (p + 1) e k
    own e (inr q) = sub_of e (taxa_of f) _ q (λ y z. z)

    go : (InE a (edges_at (p + 1) f) ⊎ (a ≡ edge_at (p + 1 + size f + 1 + 1) (taxa_of f) w)) ⊎ InE a (edges_at (past_group p f w) r)
        → (InE b (edges_at (p + 1) f) ⊎ (b ≡ edge_at (p + 1 + size f + 1 + 1) (taxa_of f) w)) ⊎ InE b (edges_at (past_group p f w) r)
        → ((a b : Edge) → InE a (edges_at (p + 1) f) → InE b (edges_at (p + 1) f) → Nest a.below b.below)
        → ((a b : Edge) → InE a (edges_at (past_group p f w) r) → InE b (edges_at (past_group p f w) r) → Nest a.below b.below)
        → Nest a.below b.below
    go (inl x) (inl y) i j = under f (p + 1) a b (edge_at (p + 1 + size f + 1 + 1) (taxa_of f) w) refl i x y
    go (inl x) (inr y) i j = split_apart n before (taxa_of f) (taxa_of r) g a b (own a x) (within r (past_group p f w) b y)
    go (inr x) (inl y) i j = turn b.below a.below (split_apart n before (taxa_of f) (taxa_of r) g b a (own b y) (within r (past_group p f w) a x))
    go (inr x) (inr y) i j = j a b x y

-- NO CONFLICT
flip_one : (h u s : Bool) → cond h (not u) u ≡ cond h (not s) s → u ≡ s
flip_one true true true e = refl
flip_one true true false e = absurd (false≢true e)
flip_one true false true e = absurd (true≢false e)
flip_one true false false e = refl
flip_one false u s e = e

module _ (n : ℕ) (some : 0 < n) where
  cluster_bit : (e : Edge) (i : ℕ) → i < n → bit (split_made n e) i ≡ cond (beyond e.below i) 1 0
  unfolding split_made
  cluster_bit e i l = group_bit (beyond e.below) n i l

  as_in : (b : Bool) → ◌≡◌ {A = ℕ} (cond b 1 0) 1 → b ≡ true
  as_in true e = refl
  as_in false e = absurd (omega arith)

  as_out : (b : Bool) → ◌≡◌ {A = ℕ} (cond b 1 0) 0 → b ≡ false
  as_out true e = absurd (omega arith)
  as_out false e = refl

  beyond_in : (e : Edge) (i : ℕ) → i < n → In (split_made n e) i → beyond e.below i ≡ true
  beyond_in e i l h = as_in (beyond e.below i) (sym (cluster_bit e i l) ∙ h)

  beyond_out : (e : Edge) (i : ℕ) → i < n → Out (split_made n e) i → beyond e.below i ≡ false
  beyond_out e i l h = as_out (beyond e.below i) (sym (cluster_bit e i l) ∙ h)

  module _ (a b : Edge) (c : Conflict n (split_made n a) (split_made n b)) where
    sides : (p q : Bool) → (i : ℕ) × (i < n) × (beyond a.below i ≡ p) × (beyond b.below i ≡ q)
    sides true true = let (i, l, x, y) = c.ii in (i, l, beyond_in a i l x, beyond_in b i l y)
    sides true false = let (i, l, x, y) = c.io in (i, l, beyond_in a i l x, beyond_out b i l y)
    sides false true = let (i, l, x, y) = c.oi in (i, l, beyond_out a i l x, beyond_in b i l y)
    sides false false = let (i, l, x, y) = c.oo in (i, l, beyond_out a i l x, beyond_out b i l y)

    parts : (s t : Bool) → (i : ℕ) × (among i a.below ≡ s) × (among i b.below ≡ t)
    parts s t =
        let (i, l, x, y) = sides (cond (among 0 a.below) (not s) s) (cond (among 0 b.below) (not t) t) in
        (i, flip_one (among 0 a.below) (among i a.below) s x, flip_one (among 0 b.below) (among i b.below) t y)

    pub no_conflict : Nest a.below b.below → ⊥
    no_conflict (inner h) = let (i, x, y) = parts true false in true≢false (sym (h i x) ∙ y)
    no_conflict (outer h) = let (i, x, y) = parts false true in true≢false (sym (h i y) ∙ x)
    no_conflict (apart h) = let (i, x, y) = parts true true in h i x y

  below_all : (e : Edge) → split_made n e < 2 ^ n
  unfolding split_made
  below_all e = group_below (beyond e.below) n

  pub cluster_split : (e : Edge) → (split_made n e ≡ 0 → ⊥) → Split n (split_made n e)
  cluster_split e f = record { some = positive (split_made n e) f; below = low; free = cluster_bit e 0 some ∙ out (among 0 e.below) }
    where
      positive : (c : ℕ) → (c ≡ 0 → ⊥) → 0 < c
      positive zero f = absurd (f refl)
      positive (suc c) f = omega arith

      out : (b : Bool) → cond {A = ℕ} (cond b (not b) b) 1 0 ≡ 0
      out true = refl
      out false = refl

      low : split_made n e < 2 ^ n
      low = below_all e
