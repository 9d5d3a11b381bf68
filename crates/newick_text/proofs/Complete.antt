-- Every text of the grammar is accepted.
use mathlib.Core.Path.{◌≡◌, refl, ◌∙◌}
use mathlib.Core.Bool.{Bool, true, false}
use mathlib.Core.List.{List, ◌∷◌}
use Prim.Native.Nat.{ℕ, zero, suc}
use native.Mathlib.Omega.{arith}
use borrow.Author.Tests.{ne_eqb}
use Rattle.newick_text.specs.Automaton.{Use, taxon, weight, State, start, want, some, over, close, move, good, next, run}
use Rattle.statement.specs.Decimal.{digit}
use Rattle.statement.specs.Sentence.{Digits, none, more, Numeral, nought, lead, Children, leaf, group, leaf_then, group_then, digits_text, numeral_text, children_text, Fits}

pub to : (c : ℕ) (s : List ℕ) (q : State) {q' : State} → next q c ≡ move q' → run (c ∷ s) q ≡ run s q'
unfolding run
to c s q e = rw e

digits_run : (r : Digits) (u : Use) (d l : ℕ) (s : List ℕ) → run (digits_text r s) (some u d l) ≡ run s (some u d l)
digits_run none u d l s = refl
digits_run (more c p r) u d l s = to c (digits_text r s) (some u d l) (rw p) ∙ digits_run r u d l s

-- what may follow a number ends it
pub ended : (c : ℕ) (s : List ℕ) (u : Use) (d l : ℕ) → digit c ≡ false → run (c ∷ s) (some u d l) ≡ run (c ∷ s) (over u d l)
unfolding run
ended c s u d l e = rw e

pub not_open : (c : ℕ) → digit c ≡ true → c ≡ 40 → ⊥
not_open c p e = let h : digit 40 ≡ true = rw e at p in let z : ◌≡◌ {A = Bool} false true = h in let k : ◌≡◌ {A = ℕ} 0 1 = cc in omega arith

first_runs : (u : Use) (d l c : ℕ) → digit c ≡ true → (c ≡ 48 → ⊥) → next (want u d l) c ≡ move (some u d l)
first_runs taxon d l c p q = rw (ne_eqb c 40 (not_open c p), ne_eqb c 48 q, p)
first_runs weight d l c p q = rw (ne_eqb c 48 q, p)

zero_runs : (u : Use) (d l : ℕ) → next (want u d l) 48 ≡ move (over u d l)
zero_runs taxon d l = refl
zero_runs weight d l = refl

num_runs : (n : Numeral) (u : Use) (d l c : ℕ) (s : List ℕ) → digit c ≡ false → run (numeral_text n (c ∷ s)) (want u d l) ≡ run (c ∷ s) (over u d l)
num_runs nought u d l c s e = to 48 (c ∷ s) (want u d l) (zero_runs u d l)
num_runs (lead k p q r) u d l c s e = to k (digits_text r (c ∷ s)) (want u d l) (first_runs u d l k p q) ∙ digits_run r u d l (c ∷ s) ∙ ended c s u d l e

leaf_runs : (x w : Numeral) (d l c : ℕ) (s : List ℕ) → digit c ≡ false → run (numeral_text x (58 ∷ numeral_text w (c ∷ s))) (want taxon d l) ≡ run (c ∷ s) (over weight d l)
leaf_runs x w d l c s e = num_runs x taxon d l 58 (numeral_text w (c ∷ s)) refl ∙ to 58 (numeral_text w (c ∷ s)) (over taxon d l) refl ∙ num_runs w weight d l c s e

close_runs : (w : Numeral) (d l c : ℕ) (s : List ℕ) → digit c ≡ false → run (58 ∷ numeral_text w (c ∷ s)) (close (suc d) l) ≡ run (c ∷ s) (over weight (suc d) l)
close_runs w d l c s e = to 58 (numeral_text w (c ∷ s)) (close (suc d) l) refl ∙ num_runs w weight (suc d) l c s e

pub kids_run : (f : Children) (d l : ℕ) (s : List ℕ) → Fits f l → run (children_text f (41 ∷ s)) (want taxon (suc d) l) ≡ run s (close d (suc l))
kids_run (leaf x w) d l s h = leaf_runs x w (suc d) l 41 s refl ∙ to 41 s (over weight (suc d) l) refl
kids_run (group f w) d zero s h = absurd h
kids_run (group f w) d (suc l) s h =
    to 40 _ (want taxon (suc d) (suc l)) refl ∙ kids_run f (suc d) l (58 ∷ numeral_text w (41 ∷ s)) h
    ∙ close_runs w d (suc l) 41 s refl ∙ to 41 s (over weight (suc d) (suc l)) refl
kids_run (leaf_then x w r) d l s h = leaf_runs x w (suc d) l 44 (children_text r (41 ∷ s)) refl ∙ to 44 (children_text r (41 ∷ s)) (over weight (suc d) l) refl ∙ kids_run r d l s h
kids_run (group_then f w r) d zero s h = absurd h
kids_run (group_then f w r) d (suc l) s h =
    to 40 _ (want taxon (suc d) (suc l)) refl ∙ kids_run f (suc d) l (58 ∷ numeral_text w (44 ∷ children_text r (41 ∷ s))) h.0
    ∙ close_runs w d (suc l) 44 (children_text r (41 ∷ s)) refl ∙ to 44 (children_text r (41 ∷ s)) (over weight (suc d) (suc l)) refl ∙ kids_run r d (suc l) s h.1

finish : (l : ℕ) (s : List ℕ) → run (59 ∷ s) (close 0 l) ≡ good s
unfolding run
finish l s = refl

-- a text of the grammar, with anything after it, is accepted up to its semicolon
pub complete : (f : Children) (l : ℕ) (s : List ℕ) → Fits f l → run (40 ∷ children_text f (41 ∷ 59 ∷ s)) (start (suc l)) ≡ good s
complete f l s h = to 40 (children_text f (41 ∷ 59 ∷ s)) (start (suc l)) refl ∙ kids_run f 0 l (59 ∷ s) h ∙ finish (suc l) s
