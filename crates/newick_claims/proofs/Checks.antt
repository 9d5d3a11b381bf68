-- EXACTLY WHEN a sentence gets 20, 14, 12 and 13: what makes a place of each of these lines bad. With `read_newick_law` and `Given` (the checks before it passed, and
-- the lowest bad place) this is the whole of each number. Assumes nothing.
use Prim.Native.Nat.{ℕ}
use mathlib.Core.Path.{◌≡◌, refl, sym, ◌∙◌, ap}
use mathlib.Core.Logic.{◌⊎◌, inl, inr, ⊎_elim, ◌↔◌}
use mathlib.Core.Bool.{Bool, true, false, cond, not, true≢false}
use mathlib.Core.List.{List, [], ◌∷◌, ◌++◌}
use lib.Dec.{ltb, eqb}
use Rattle.statement.specs.Lowest.{somewhere}
use Rattle.statement.specs.Matrix.{weight_limit}
use Rattle.statement.specs.Rows.{Mem}
use Rattle.statement.specs.Sentence.{Children, among, taxa_of, split_made, leaves_of, edges_of, semicolon_at}
use Rattle.statement.specs.Refusals.{strays, missing, places_of, twins, taxon_off, heavy_off, bare_off, split_off}
use Rattle.statement.proofs.Lowest.{some_at, some_of}
use Rattle.statement.proofs.Tests.{less_is, same_is}
use Rattle.newick_reading.proofs.Room.{among_mem, mem_among}
use Rattle.newick_claims.specs.Newick.{Astray, Missing, EdgeAt, TooHeavy, Bare, Twin}
use Rattle.newick_claims.proofs.Places.{stray_is, places_are, twin_is}

-- one of two lists
mem_either : (p : ℕ) (xs ys : List ℕ) → Mem p (xs ++ ys) → Mem p xs ⊎ Mem p ys
mem_either p [] ys m = inr m
mem_either p (x ∷ xs) ys (inl e) = inl (inl e)
mem_either p (x ∷ xs) ys (inr m) = ⊎_elim (λ h. inl (inr h)) (λ h. inr h) (mem_either p xs ys m)

mem_first : (p : ℕ) (xs ys : List ℕ) → Mem p xs → Mem p (xs ++ ys)
mem_first p [] ys m = absurd m
mem_first p (x ∷ xs) ys (inl e) = inl e
mem_first p (x ∷ xs) ys (inr m) = inr (mem_first p xs ys m)

mem_second : (p : ℕ) (xs ys : List ℕ) → Mem p ys → Mem p (xs ++ ys)
mem_second p [] ys m = m
mem_second p (x ∷ xs) ys m = inr (mem_second p xs ys m)

-- a taxon is missing
module _ (n : ℕ) (f : Children) (p : ℕ) where
  lacks : ℕ → Bool
  lacks x = not (among x (taxa_of f))

  lacks_none : (x : ℕ) → lacks x ≡ true → Mem x (taxa_of f) → ⊥
  unfolding lacks
  lacks_none x e m = true≢false (sym e ∙ ap not (mem_among x (taxa_of f) m))

  lacks_so : (x : ℕ) → (Mem x (taxa_of f) → ⊥) → lacks x ≡ true
  unfolding lacks
  lacks_so x o = go (among x (taxa_of f)) refl
    where
      go : (b : Bool) → among x (taxa_of f) ≡ b → not b ≡ true
      go true e = absurd (o (among_mem x (taxa_of f) e))
      go false e = refl

  missing_there : Mem p (missing n f) → Missing n f p
  unfolding missing lacks
  missing_there m = go (somewhere lacks n) refl m
    where
      go : (b : Bool) → somewhere lacks n ≡ b → Mem p (cond b (semicolon_at f ∷ []) []) → Missing n f p
      go true e (inl q) = let (x, l, h) = some_of lacks n e in (q, (x, l, lacks_none x h))
      go true e (inr q) = absurd q
      go false e q = absurd q

  missing_back : Missing n f p → Mem p (missing n f)
  unfolding missing lacks
  missing_back (q, (x, l, o)) = rw (some_at lacks n x l (lacks_so x o)) (inl q)

-- 20
pub twenty_at : (n : ℕ) (f : Children) (p : ℕ) → ((taxon_off n f).bad p ≡ true) ↔ (Astray n (leaves_of f) p ⊎ Missing n f p)
twenty_at n f p =
    let some = strays n [] (leaves_of f) in (
      (λ e. ⊎_elim (λ m. inl ((stray_is n (leaves_of f) p).0 m)) (λ m. inr (missing_there n f p m)) (mem_either p some (missing n f) (among_mem p (some ++ missing n f) e))),
      (λ h. mem_among p (some ++ missing n f)
          (⊎_elim (λ a. mem_first p some (missing n f) ((stray_is n (leaves_of f) p).1 a)) (λ a. mem_second p some (missing n f) (missing_back n f p a)) h)),
    )

by_list : {A : Type 0} (p : ℕ) (xs : List ℕ) → Mem p xs ↔ A → (among p xs ≡ true) ↔ A
by_list p xs is = ((λ e. is.0 (among_mem p xs e)), (λ a. mem_among p xs (is.1 a)))

-- 14
pub fourteen_at : (f : Children) (p : ℕ) → ((heavy_off f).bad p ≡ true) ↔ EdgeAt TooHeavy (edges_of f) p
fourteen_at f p =
    by_list p (places_of (λ e. ltb weight_limit e.weight) (edges_of f))
    (places_are (λ e. ltb weight_limit e.weight) TooHeavy (λ e. less_is weight_limit e.weight) p (edges_of f))

-- 12
pub twelve_at : (n : ℕ) (f : Children) (p : ℕ) → ((bare_off n f).bad p ≡ true) ↔ EdgeAt (Bare n) (edges_of f) p
twelve_at n f p =
    by_list p (places_of (λ e. eqb (split_made n e) 0) (edges_of f))
    (places_are (λ e. eqb (split_made n e) 0) (Bare n) (λ e. same_is (split_made n e) 0) p (edges_of f))

-- 13
pub thirteen_at : (n : ℕ) (f : Children) (p : ℕ) → ((split_off n f).bad p ≡ true) ↔ Twin n (edges_of f) p
thirteen_at n f p = by_list p (twins n [] (edges_of f)) (twin_is n (edges_of f) p)
