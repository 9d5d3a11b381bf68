-- WHAT A TEXT IS, by the automaton, is what the grammar says of it. Assumes nothing.
use Prim.Native.Nat.{ℕ, suc, ◌-◌, ◌≤◌}
use native.Mathlib.Omega.{arith}
use mathlib.Core.Path.{◌≡◌, refl, sym, ◌∙◌, ap, subst}
use mathlib.Core.List.{List, [], ◌∷◌}
use lib.ListN.{length, drop, length-drop}
use Rattle.newick_text.specs.Automaton.{State, Step, stop, end, move, Out, bad, good, start, next, pick, run}
use Rattle.statement.specs.Sentence.{Children, children_text, Fits, Parses, outside, sentence}
use Rattle.newick_text.proofs.Sound.{sound}
use Rattle.newick_text.proofs.FirstBad.{first_bad}
use Rattle.newick_meaning.specs.Parse.{parsed_by, parsed}

bad_good : {X : Type 0} {a b : List ℕ} → bad a ≡ good b → X
bad_good e = absurd (let z : ◌≡◌ {A = ℕ} 0 1 = cc in omega arith)

good_good : {a b : List ℕ} → good a ≡ good b → a ≡ b
good_good e = cc

bad_bad : {a b : List ℕ} → bad a ≡ bad b → a ≡ b
bad_bad e = cc

pub parsed_good : (text rest : List ℕ) → run text (start 130) ≡ good rest
    → (f : Children) × (parsed text ≡ sentence f) × Fits f 129 × (text ≡ 40 ∷ children_text f (41 ∷ 59 ∷ rest))
unfolding parsed parsed_by
parsed_good text rest g = go (run text (start 130)) refl g
  where
    go : (o : Out) (e : run text (start 130) ≡ o) → o ≡ good rest → (f : Children) × (parsed_by text o e ≡ sentence f) × Fits f 129 × (text ≡ 40 ∷ children_text f (41 ∷ 59 ∷ rest))
    go (bad r) e h = bad_good h
    go (good r) e h =
        let s = sound text 129 r e in
        (s.0, refl, s.1, s.2 ∙ ap (λ (u : List ℕ). 40 ∷ children_text s.0 (41 ∷ 59 ∷ u)) (good_good h))

pub parsed_bad : (text : List ℕ) (k : ℕ) → k ≤ length text → run text (start 130) ≡ bad (drop k text) → parsed text ≡ outside k
unfolding parsed parsed_by
parsed_bad text k l g = go (run text (start 130)) refl g
  where
    go : (o : Out) (e : run text (start 130) ≡ o) → o ≡ bad (drop k text) → parsed_by text o e ≡ outside k
    go (bad r) e h = let q : r ≡ drop k text = bad_bad h in ap outside (let z : length text - length r ≡ k = omega (arith, ap length q, length-drop k text) in z)
    go (good r) e h = bad_good (sym h)

-- where reading stops is a place of the text
pub stopped_at : (t : List ℕ) (q : State) (r : List ℕ) → run t q ≡ bad r → (k : ℕ) × (k ≤ length t) × (r ≡ drop k t)
unfolding run
stopped_at [] q r e = (0, omega arith, sym (let z : [] ≡ r = cc in z))
stopped_at (c ∷ s) q r e = go (next q c) e (λ q k. stopped_at s q r k)
  where
    go : (x : Step) → pick x (bad (c ∷ s)) (good s) (run s) ≡ bad r → ((q : State) → run s q ≡ bad r → (k : ℕ) × (k ≤ length s) × (r ≡ drop k s))
        → (k : ℕ) × (k ≤ suc (length s)) × (r ≡ drop k (c ∷ s))
    go stop e ih = (0, omega arith, sym (let z : c ∷ s ≡ r = cc in z))
    go end e ih = absurd (let z : ◌≡◌ {A = ℕ} 0 1 = cc in omega arith)
    go (move q) e ih = let (k, l, p) = ih q e in (suc k, omega arith, p)

-- EVERY TEXT is a sentence with something behind it, or has a first bad byte
pub text_parses : (text : List ℕ) → Parses text (parsed text)
text_parses text = go (run text (start 130)) refl
  where
    go : (o : Out) → run text (start 130) ≡ o → Parses text (parsed text)
    go (good rest) e = let (f, p, h, q) = parsed_good text rest e in subst (Parses text) (sym p) (rest, h, q)
    go (bad rest) e =
        let (k, l, q) = stopped_at text (start 130) rest e in
        let e' : run text (start 130) ≡ bad (drop k text) = e ∙ ap bad q in
        subst (Parses text) (sym (parsed_bad text k l e')) (first_bad text k e' l)
