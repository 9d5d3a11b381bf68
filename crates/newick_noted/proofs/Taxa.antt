-- The taxa of a sentence, met one after the other. Assumes nothing.
use Rattle.std.specs.Prelude.{Option, None, Some}
use Rattle.std.specs.Option.{option_or}
use Prim.Native.Nat.{ℕ, ◌+◌, ◌^◌, ◌≤◌, ◌<◌, min}
use native.Mathlib.Omega.{arith}
use native.Mathlib.Decide.{dec_lt, ℕ_discrete}
use mathlib.Core.Path.{◌≡◌, refl, sym, ◌∙◌, ap}
use mathlib.Core.Logic.{◌⊎◌, inl, inr}
use mathlib.Core.Bool.{Bool, true, false, cond, not, ◌||◌, true≢false, false≢true}
use mathlib.Core.List.{List, [], ◌∷◌, ◌++◌, map}
use lib.Dec.{ltb, eqb}
use borrow.Author.Tests.{ltb-true, ltb-false, lt-ltb, le-ltb, eq-eqb, ne_eqb}
use Rattle.statement.specs.Cluster.{group_of}
use Rattle.statement.proofs.Groups.{group_bit}
use Rattle.numerals.specs.Numerals.{number_limit}
use Rattle.statement.specs.Sentence.{Leaf, among}
use Rattle.statement.specs.Refusals.{strays}
use Rattle.newick_edges.specs.declared.Met.{Met}
use Rattle.newick_edges.specs.Marks.{first_of, fresh, meet}
use Rattle.newick_noted.proofs.Groups.{group_same, group_none, group_add}

abbrev pub meet_all : ℕ → List Leaf → Met → Met
meet_all n [] m = m
meet_all n (l ∷ ls) m = meet_all n ls (meet n m l.place (min l.taxon number_limit))

abbrev pub taxa : List Leaf → List ℕ
taxa ls = map (λ l. l.taxon) ls

-- the number of the taxa met
abbrev pub met_group : ℕ → List ℕ → ℕ
met_group n before = group_of (λ x. among x before) n

-- a taxon that is no stray is fresh, and the other way round
module _ (n : ℕ) (few : n ≤ 64) (before : List ℕ) (x : ℕ) where
  abbrev stray : Bool
  stray = not (ltb x n) || among x before

  low_cap : x < n → min x number_limit ≡ x
  low_cap l = omega arith

  pub fresh_is : fresh n (met_group n before) (min x number_limit) ≡ not stray
  fresh_is = go (dec_lt x n)
    where
      bits : (b : Bool) → eqb (cond {A = ℕ} b 1 0) 0 ≡ not b
      bits true = refl
      bits false = refl

      go : Dec (x < n) → fresh n (met_group n before) (min x number_limit) ≡ not stray
      go (yes l) =
          rw (low_cap l, lt-ltb x n l, group_bit (λ y. among y before) n x l) (bits (among x before))
      go (no l) = rw (le-ltb (min x number_limit) n (let h : n ≤ min x number_limit = omega arith in h), le-ltb x n (let h : n ≤ x = omega arith in h))

  -- it is met, and nothing else
  pub group_met : stray ≡ false → met_group n before + 2 ^ min x number_limit ≡ met_group n (x ∷ before)
  group_met e = go (ltb x n) refl (among x before) refl e
    where
      go : (a : Bool) → ltb x n ≡ a → (b : Bool) → among x before ≡ b → not a || b ≡ false → met_group n before + 2 ^ min x number_limit ≡ met_group n (x ∷ before)
      go true p false q e =
          let l = ltb-true x n p in
          sym (group_add (λ y. among y before) n x l q ∙ ap (λ (k : ℕ). met_group n before + 2 ^ k) (sym (low_cap l)))
      go true p true q e = absurd (true≢false e)
      go false p b q e = absurd (true≢false e)

  pub group_stray : stray ≡ true → met_group n before ≡ met_group n (x ∷ before)
  group_stray e = group_same (λ y. among y before) (λ y. among y (x ∷ before)) n at
    where
      same : (y : ℕ) → y < n → y ≡ x → among y before ≡ true
      same y l q = go (ltb x n) refl e
        where
          go : (a : Bool) → ltb x n ≡ a → not a || among x before ≡ true → among y before ≡ true
          go true p h = ap (λ (k : ℕ). among k before) q ∙ h
          go false p h = absurd (omega (arith, ltb-false x n p))

      at : (y : ℕ) → y < n → among y before ≡ (eqb y x || among y before)
      at y l = elim (ℕ_discrete y x) [ yes q ↦ same y l q ∙ sym (rw (eq-eqb y x q)) | no q ↦ sym (rw (ne_eqb y x q)) ]

-- all the taxa met, strays or not
abbrev pub turned : List ℕ → List ℕ → List ℕ
turned [] before = before
turned (x ∷ xs) before = turned xs (x ∷ before)

pub both : (b : Bool) → (b ≡ true) ⊎ (b ≡ false)
both true = inl refl
both false = inr refl

unfoldable pub head_or : ℕ → List ℕ → ℕ
head_or d [] = d
head_or d (p ∷ ps) = p

-- the first of them
unfoldable pub head : List ℕ → Option ℕ
head [] = None
head (p ∷ ps) = Some p

pub first_none : (s : Option ℕ) → option_or s None ≡ s
first_none None = refl
first_none (Some p) = refl

pub first_kept : (s : Option ℕ) (p : ℕ) (o : Option ℕ) → option_or (first_of s p) o ≡ first_of s p
first_kept None p o = refl
first_kept (Some q) p o = refl

module _ (n : ℕ) (few : n ≤ 64) where
  abbrev pub is_stray : List ℕ → ℕ → Bool
  is_stray before x = not (ltb x n) || among x before

  pub meets_it : (before : List ℕ) (m : Met) (p x : ℕ) → m.seen ≡ met_group n before
      → ((meet n m p (min x number_limit)).seen ≡ met_group n (x ∷ before)) × ((meet n m p (min x number_limit)).stray ≡ cond (is_stray before x) (first_of m.stray p) m.stray)
  unfolding meet
  meets_it before m p x e = go (is_stray before x) refl
    where
      is : fresh n m.seen (min x number_limit) ≡ not (is_stray before x)
      is = ap (λ (s : ℕ). fresh n s (min x number_limit)) e ∙ fresh_is n few before x

      go : (b : Bool) → is_stray before x ≡ b
          → ((meet n m p (min x number_limit)).seen ≡ met_group n (x ∷ before)) × ((meet n m p (min x number_limit)).stray ≡ cond b (first_of m.stray p) m.stray)
      go true q = (rw (is, q) (e ∙ group_stray n few before x q), rw (is, q))
      go false q = (rw (is, q) (ap (λ (s : ℕ). s + 2 ^ min x number_limit) e ∙ group_met n few before x q), rw (is, q))

  pub met_seen : (ls : List Leaf) (before : List ℕ) (m : Met) → m.seen ≡ met_group n before → (meet_all n ls m).seen ≡ met_group n (turned (taxa ls) before)
  met_seen [] before m e = e
  met_seen (l ∷ ls) before m e = met_seen ls (l.taxon ∷ before) (meet n m l.place (min l.taxon number_limit)) (meets_it before m l.place l.taxon e).0

  pub met_all : (ls : List Leaf) (before : List ℕ) (m : Met) → m.seen ≡ met_group n before
      → ((meet_all n ls m).seen ≡ met_group n (turned (taxa ls) before)) × ((meet_all n ls m).stray ≡ option_or m.stray (head (strays n before ls)))
  unfolding strays head
  met_all [] before m e = (e, sym (first_none m.stray))
  met_all (l ∷ ls) before m e =
      let a = meets_it before m l.place l.taxon e in
      let b = met_all ls (l.taxon ∷ before) (meet n m l.place (min l.taxon number_limit)) a.0 in
      (b.0, go (is_stray before l.taxon) a.1 b.1)
    where
      go : (b : Bool) → (meet n m l.place (min l.taxon number_limit)).stray ≡ cond b (first_of m.stray l.place) m.stray
          → (meet_all n ls (meet n m l.place (min l.taxon number_limit))).stray ≡ option_or (meet n m l.place (min l.taxon number_limit)).stray (head (strays n (l.taxon ∷ before) ls))
          → (meet_all n ls (meet n m l.place (min l.taxon number_limit))).stray ≡ option_or m.stray (head (cond b (l.place ∷ strays n (l.taxon ∷ before) ls) (strays n (l.taxon ∷ before) ls)))
      go true p q = q ∙ ap (λ (s : Option ℕ). option_or s (head (strays n (l.taxon ∷ before) ls))) p ∙ first_kept m.stray l.place (head (strays n (l.taxon ∷ before) ls))
      go false p q = q ∙ ap (λ (s : Option ℕ). option_or s (head (strays n (l.taxon ∷ before) ls))) p

-- NO STRAYS: taxa below n, each once, and none of those before
abbrev pub Good : ℕ → List ℕ → List ℕ → Type 0
Good n before [] = Unit {0}
Good n before (x ∷ xs) = (x < n) × (among x before ≡ false) × Good n (x ∷ before) xs

cons_nil : {X : Type 0} {p : ℕ} {ps : List ℕ} → p ∷ ps ≡ [] → X
cons_nil e = absurd (let z : ◌≡◌ {A = ℕ} 0 1 = cc in omega arith)

pub good_of : (n : ℕ) (before : List ℕ) (ls : List Leaf) → strays n before ls ≡ [] → Good n before (taxa ls)
unfolding strays
good_of n before [] e = tt
good_of n before (l ∷ ls) e = go (ltb l.taxon n) refl (among l.taxon before) refl (λ q. good_of n (l.taxon ∷ before) ls q) e
  where
    go : (a : Bool) → ltb l.taxon n ≡ a → (b : Bool) → among l.taxon before ≡ b
        → (strays n (l.taxon ∷ before) ls ≡ [] → Good n (l.taxon ∷ before) (taxa ls))
        → cond (not a || b) (l.place ∷ strays n (l.taxon ∷ before) ls) (strays n (l.taxon ∷ before) ls) ≡ [] → Good n before (taxa (l ∷ ls))
    go true p false q ih e = (ltb-true l.taxon n p, q, ih e)
    go true p true q ih e = cons_nil e
    go false p b q ih e = cons_nil e

pub or_right : (a b : Bool) → b ≡ true → (a || b) ≡ true
or_right true b e = refl
or_right false b e = e

pub or_none : (a b : Bool) → (a || b) ≡ false → (a ≡ false) × (b ≡ false)
or_none true b e = absurd (true≢false e)
or_none false b e = (refl, e)

pub among_head : (x : ℕ) (xs : List ℕ) → among x (x ∷ xs) ≡ true
among_head x xs = rw (eq-eqb x x refl)

pub among_append : (y : ℕ) (xs ys : List ℕ) → among y (xs ++ ys) ≡ (among y xs || among y ys)
among_append y [] ys = refl
among_append y (x ∷ xs) ys = ap (λ (b : Bool). eqb y x || b) (among_append y xs ys) ∙ assoc (eqb y x) (among y xs) (among y ys)
  where
    assoc : (a b c : Bool) → (a || (b || c)) ≡ ((a || b) || c)
    assoc true b c = refl
    assoc false b c = refl

-- fewer taxa before
pub good_less : (n : ℕ) (before less xs : List ℕ) → ((y : ℕ) → among y less ≡ true → among y before ≡ true) → Good n before xs → Good n less xs
good_less n before less [] f g = tt
good_less n before less (x ∷ xs) f g =
    (g.0, out (both (among x less)), good_less n (x ∷ before) (x ∷ less) xs more g.2)
  where
    out : (among x less ≡ true) ⊎ (among x less ≡ false) → among x less ≡ false
    out (inl e) = absurd (true≢false (sym (f x e) ∙ g.1))
    out (inr e) = e

    more : (y : ℕ) → among y (x ∷ less) ≡ true → among y (x ∷ before) ≡ true
    more y e = go (eqb y x) e
      where
        go : (b : Bool) → (b || among y less) ≡ true → (b || among y before) ≡ true
        go true e = refl
        go false e = f y e

pub good_apart : (n : ℕ) (before xs : List ℕ) (y : ℕ) → Good n before xs → among y before ≡ true → among y xs ≡ false
good_apart n before [] y g e = refl
good_apart n before (x ∷ xs) y g e =
    rw (ne_eqb y x (λ q. true≢false (sym e ∙ ap (λ (k : ℕ). among k before) q ∙ g.1)))
    (good_apart n (x ∷ before) xs y g.2 (or_right (eqb y x) (among y before) e))

pub good_append : (n : ℕ) (before xs ys : List ℕ) → Good n before (xs ++ ys) → Good n before xs × Good n (turned xs before) ys
good_append n before [] ys g = (tt, g)
good_append n before (x ∷ xs) ys g = let h = good_append n (x ∷ before) xs ys g.2 in ((g.0, g.1, h.0), h.1)

pub turned_append : (xs ys before : List ℕ) → turned (xs ++ ys) before ≡ turned ys (turned xs before)
turned_append [] ys before = refl
turned_append (x ∷ xs) ys before = turned_append xs ys (x ∷ before)

pub turned_before : (xs before : List ℕ) (y : ℕ) → among y before ≡ true → among y (turned xs before) ≡ true
turned_before [] before y e = e
turned_before (x ∷ xs) before y e = turned_before xs (x ∷ before) y (or_right (eqb y x) (among y before) e)

pub turned_in : (xs before : List ℕ) (y : ℕ) → among y xs ≡ true → among y (turned xs before) ≡ true
turned_in [] before y e = absurd (false≢true e)
turned_in (x ∷ xs) before y e = elim (ℕ_discrete y x) [ yes q ↦ turned_before xs (x ∷ before) y (rw (eq-eqb y x q)) | no q ↦ turned_in xs (x ∷ before) y (rw (ne_eqb y x q) at e) ]

pub good_alone : (n : ℕ) (before xs : List ℕ) → Good n before xs → Good n [] xs
good_alone n before xs g = good_less n before [] xs (λ y e. absurd (false≢true e)) g

-- the two parts of an appended list have no taxon in common
pub good_disjoint : (n : ℕ) (before xs ys : List ℕ) (y : ℕ) → Good n before (xs ++ ys) → among y xs ≡ true → among y ys ≡ false
good_disjoint n before xs ys y g e = good_apart n (turned xs before) ys y (good_append n before xs ys g).1 (turned_in xs before y e)

-- THE SUM of the taxa's numbers is the number of their group
unfoldable pub total : List ℕ → ℕ
total [] = 0
total (x ∷ xs) = 2 ^ x + total xs

pub total_append : (xs ys : List ℕ) → total (xs ++ ys) ≡ total xs + total ys
unfolding total
total_append [] ys = omega arith
total_append (x ∷ xs) ys = omega (arith, total_append xs ys)

pub group_turned : (n : ℕ) (before xs : List ℕ) → Good n before xs → met_group n (turned xs before) ≡ met_group n before + total xs
unfolding total
group_turned n before [] g = omega arith
group_turned n before (x ∷ xs) g =
    omega (arith, group_turned n (x ∷ before) xs g.2, group_add (λ y. among y before) n x g.0 g.1)

pub total_group : (n : ℕ) (xs : List ℕ) → Good n [] xs → total xs ≡ met_group n xs
unfolding total
total_group n [] g = sym (group_none n)
total_group n (x ∷ xs) g =
    let h = total_group n xs (good_alone n (x ∷ []) xs g.2) in
    omega (arith, h, group_add (λ y. among y xs) n x g.0 (good_apart n (x ∷ []) xs x g.2 (among_head x [])))
