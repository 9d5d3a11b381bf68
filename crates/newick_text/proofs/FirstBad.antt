-- WHERE THE AUTOMATON STOPS is the text's first bad byte, and there is one such place. Assumes nothing.
use mathlib.Core.Path.{◌≡◌, refl, ap, sym, ◌∙◌, subst}
use mathlib.Core.Bool.{Bool, true, false, cond}
use mathlib.Core.List.{List, [], ◌∷◌, ◌++◌, append_assoc, append-nil}
use Prim.Native.Nat.{ℕ, zero, suc, ◌≤◌, ◌<◌}
use native.Mathlib.Omega.{arith}
use lib.Dec.{eqb}
use lib.ListN.{length, take, drop, get_or, length-append, take-append-drop}
use lib.Seq.{drop-cons, take-suc, append_snoc, take-take}
use native.Mathlib.Decide.{dec_lt}
use Rattle.newick_text.specs.Automaton.{Use, taxon, weight, State, start, want, some, over, close, Step, stop, end, move, bad, good, opened, closed, first, after, next, pick, run}
use Rattle.statement.specs.Decimal.{digit}
use Rattle.statement.specs.Sentence.{Children, children_text, Fits}
use Rattle.statement.specs.Grammar.{IsSentence, Viable, FirstBad}
use Rattle.newick_text.proofs.Complete.{to, complete}
use Rattle.newick_text.proofs.Sound.{sound}
use Rattle.newick_text.proofs.Productions.{by_productions, accepts_exactly}

-- states from which the end can be reached
abbrev Live : State → Type 0
Live (start zero) = ⊥
Live (start (suc l)) = Unit
Live (want u zero l) = ⊥
Live (want u (suc d) l) = Unit
Live (some u zero l) = ⊥
Live (some u (suc d) l) = Unit
Live (over u zero l) = ⊥
Live (over u (suc d) l) = Unit
Live (close d l) = Unit

abbrev LiveStep : Step → Type 0
LiveStep stop = Unit
LiveStep end = Unit
LiveStep (move q) = Live q

cond_live : (b : Bool) (x y : Step) → LiveStep x → LiveStep y → LiveStep (cond b x y)
cond_live true x y h g = h
cond_live false x y h g = g

opened_live : (d l : ℕ) → LiveStep (opened d l)
opened_live d zero = tt
opened_live d (suc l) = tt

after_live : (u : Use) (d l c : ℕ) → LiveStep (after u (suc d) l c)
after_live taxon d l c = cond_live (eqb c 58) (move (want weight (suc d) l)) stop tt tt
after_live weight d l c = cond_live (eqb c 44) (move (want taxon (suc d) l)) (cond (eqb c 41) (closed (suc d) l) stop) tt (cond_live (eqb c 41) (closed (suc d) l) stop tt tt)

first_live : (u : Use) (d l c : ℕ) → LiveStep (first u (suc d) l c)
first_live u d l c = cond_live (eqb c 48) (move (over u (suc d) l)) (cond (digit c) (move (some u (suc d) l)) stop) tt (cond_live (digit c) (move (some u (suc d) l)) stop tt tt)

live_step : (q : State) (c : ℕ) → Live q → LiveStep (next q c)
live_step (start zero) c h = absurd h
live_step (start (suc l)) c h = cond_live (eqb c 40) (opened 0 (suc l)) stop tt tt
live_step (want u zero l) c h = absurd h
live_step (want taxon (suc d) l) c h = cond_live (eqb c 40) (opened (suc d) l) (first taxon (suc d) l c) (opened_live (suc d) l) (first_live taxon d l c)
live_step (want weight (suc d) l) c h = first_live weight d l c
live_step (some u zero l) c h = absurd h
live_step (some u (suc d) l) c h = cond_live (digit c) (move (some u (suc d) l)) (after u (suc d) l c) tt (after_live u d l c)
live_step (over u zero l) c h = absurd h
live_step (over u (suc d) l) c h = after_live u d l c
live_step (close zero l) c h = cond_live (eqb c 59) end stop tt tt
live_step (close (suc d) l) c h = cond_live (eqb c 58) (move (want weight (suc d) l)) stop tt tt

-- a text that leads from a state to the end
close_up : ℕ → List ℕ
close_up zero = 59 ∷ []
close_up (suc d) = 58 ∷ 48 ∷ 41 ∷ close_up d

Ending : State → Type 0
Ending q = (s : List ℕ) × (run s q ≡ good [])

end_close : (d l : ℕ) → run (close_up d) (close d l) ≡ good []
unfolding run close_up
end_close zero l = refl
end_close (suc d) l = to 58 (48 ∷ 41 ∷ close_up d) (close (suc d) l) refl ∙ to 48 (41 ∷ close_up d) (want weight (suc d) l) refl ∙ to 41 (close_up d) (over weight (suc d) l) refl ∙ end_close d (suc l)

end_weight : (d l : ℕ) → Ending (over weight (suc d) l)
unfolding Ending
end_weight d l = (41 ∷ close_up d, to 41 (close_up d) (over weight (suc d) l) refl ∙ end_close d (suc l))

before_it : (c : ℕ) (q : State) {q' : State} → next q c ≡ move q' → Ending q' → Ending q
unfolding Ending
before_it c q e (s, h) = (c ∷ s, to c s q e ∙ h)

end_colon : (d l : ℕ) → Ending (over taxon (suc d) l)
end_colon d l = before_it 58 (over taxon (suc d) l) refl (before_it 48 (want weight (suc d) l) refl (end_weight d l))

ending : (q : State) → Live q → Ending q
unfolding Ending
ending (start zero) h = absurd h
ending (start (suc l)) h = before_it 40 (start (suc l)) refl (before_it 48 (want taxon 1 l) refl (end_colon 0 l))
ending (want u zero l) h = absurd h
ending (want taxon (suc d) l) h = before_it 48 (want taxon (suc d) l) refl (end_colon d l)
ending (want weight (suc d) l) h = before_it 48 (want weight (suc d) l) refl (end_weight d l)
ending (some u zero l) h = absurd h
ending (some taxon (suc d) l) h = before_it 58 (some taxon (suc d) l) refl (before_it 48 (want weight (suc d) l) refl (end_weight d l))
ending (some weight (suc d) l) h = (41 ∷ close_up d, to 41 (close_up d) (some weight (suc d) l) refl ∙ end_close d (suc l))
ending (over u zero l) h = absurd h
ending (over taxon (suc d) l) h = end_colon d l
ending (over weight (suc d) l) h = end_weight d l
ending (close d l) h = (close_up d, end_close d l)

good_bad : {X : Type 0} {a b : List ℕ} → good a ≡ bad b → X
good_bad e = absurd (let z : ◌≡◌ {A = ℕ} 0 1 = cc in omega arith)

bad_one : {a b : List ℕ} → bad a ≡ bad b → a ≡ b
bad_one e = cc

step_run : (c : ℕ) (s : List ℕ) (q : State) (x : Step) → next q c ≡ x → run (c ∷ s) q ≡ pick x (bad (c ∷ s)) (good s) (run s)
unfolding run
step_run c s q x e = rw e

no_run : (b : List ℕ) (q : State) → run [] q ≡ bad b → length b ≤ 0
unfolding run
no_run b q e = let h : 0 ≡ length b = ap length (bad_one e) in omega arith

bad_short_by : (c : ℕ) (s : List ℕ) (b : List ℕ) (x : Step) → ((q' : State) → run s q' ≡ bad b → length b ≤ length s) → pick x (bad (c ∷ s)) (good s) (run s) ≡ bad b → length b ≤ suc (length s)
bad_short_by c s b stop ih e = let h : suc (length s) ≡ length b = ap length (bad_one e) in omega arith
bad_short_by c s b end ih e = good_bad e
bad_short_by c s b (move q') ih e = let h : length b ≤ length s = ih q' e in omega arith

-- what is left where reading stops is no longer than what there was
bad_short : (s : List ℕ) (q : State) (b : List ℕ) → run s q ≡ bad b → length b ≤ length s
bad_short [] q b e = no_run b q e
bad_short (c ∷ s) q b e = bad_short_by c s b (next q c) (λ q'. bad_short s q' b) (sym (step_run c s q (next q c) refl) ∙ e)

-- where reading stops after p, p leads to a live state
Alive : List ℕ → State → Type 0
Alive p q = (q' : State) × Live q' × ((s : List ℕ) → run (p ++ s) q ≡ run s q')

alive_by : (c : ℕ) (p r : List ℕ) (q : State) (x : Step) → next q c ≡ x → LiveStep x → ((q' : State) → Live q' → run (p ++ r) q' ≡ bad r → Alive p q') → pick x (bad (c ∷ (p ++ r))) (good (p ++ r)) (run (p ++ r)) ≡ bad r → Alive (c ∷ p) q
unfolding Alive
alive_by c p r q stop n v ih e = absurd (let h : suc (length (p ++ r)) ≡ length r = ap length (bad_one e) in omega (arith, length-append p r))
alive_by c p r q end n v ih e = good_bad e
alive_by c p r q (move q₁) n v ih e = let w : Alive p q₁ = ih q₁ v e in (w.0, w.1, λ s. to c (p ++ s) q n ∙ w.2 s)

alive : (p r : List ℕ) (q : State) → Live q → run (p ++ r) q ≡ bad r → Alive p q
unfolding Alive
alive [] r q v e = (q, v, λ s. refl)
alive (c ∷ p) r q v e = alive_by c p r q (next q c) refl (live_step q c v) (λ q' v'. alive p r q' v') (sym (step_run c (p ++ r) q (next q c) refl) ∙ e)

-- where reading stops at c, the state does not take c
stop_by : (c : ℕ) (s : List ℕ) (x : Step) → pick x (bad (c ∷ s)) (good s) (run s) ≡ bad (c ∷ s) → x ≡ stop
stop_by c s stop e = refl
stop_by c s end e = good_bad e
stop_by c s (move q) e = absurd (let h : suc (length s) ≤ length s = bad_short s q (c ∷ s) e in omega arith)

stops : (c : ℕ) (s : List ℕ) (q : State) → run (c ∷ s) q ≡ bad (c ∷ s) → next q c ≡ stop
stops c s q e = stop_by c s (next q c) (sym (step_run c s q (next q c) refl) ∙ e)

-- a sentence is a text that a tree draws, and a text that a tree draws is a sentence
drawn_by : (s : List ℕ) → IsSentence s → (f : Children) × Fits f 129 × (s ≡ 40 ∷ children_text f (41 ∷ 59 ∷ []))
drawn_by s d = (by_productions 129 s []).0 (s, d, sym (append-nil s))

is_sentence : (s : List ℕ) (f : Children) → Fits f 129 → s ≡ 40 ∷ children_text f (41 ∷ 59 ∷ []) → IsSentence s
is_sentence s f i e = let (u, d, q) = (by_productions 129 s []).1 (f, i, e) in subst IsSentence (sym (q ∙ append-nil u)) d

-- p, after which reading stops, begins a sentence
viable : (p r : List ℕ) → run (p ++ r) (start 130) ≡ bad r → Viable p
unfolding Alive Ending
viable p r e =
    let a : Alive p (start 130) = alive p r (start 130) tt e in
    let w : Ending a.0 = ending a.0 a.1 in
    let (f, i, q) = sound (p ++ w.0) 129 [] (a.2 w.0 ∙ w.1) in
    (w.0, is_sentence (p ++ w.0) f i q)

-- and with the byte at which it stops it begins none
not_viable : (c : ℕ) (p s : List ℕ) → run (p ++ (c ∷ s)) (start 130) ≡ bad (c ∷ s) → Viable (p ++ (c ∷ [])) → ⊥
unfolding Alive
not_viable c p s e (s₁, d) =
    let (f, h, g) = drawn_by ((p ++ (c ∷ [])) ++ s₁) d in
    let a : Alive p (start 130) = alive p (c ∷ s) (start 130) tt e in
    let n : next a.0 c ≡ stop = stops c s a.0 (sym (a.2 (c ∷ s)) ∙ e) in
    let t : p ++ (c ∷ s₁) ≡ 40 ∷ children_text f (41 ∷ 59 ∷ []) = sym (append_snoc p c s₁) ∙ g in
    good_bad (sym (complete f 129 [] h) ∙ ap (λ (x : List ℕ). run x (start 130)) (sym t) ∙ a.2 (c ∷ s₁) ∙ step_run c s₁ a.0 stop n)

-- WHERE READING STOPS is the first bad byte
pub first_bad : (t : List ℕ) (k : ℕ) → run t (start 130) ≡ bad (drop k t) → k ≤ length t → FirstBad t k
first_bad t k e h = record { outside = out; within = h; before = viable (take k t) (drop k t) whole; here = at }
  where
    whole : run (take k t ++ drop k t) (start 130) ≡ bad (drop k t)
    whole = ap (λ (x : List ℕ). run x (start 130)) (take-append-drop k t) ∙ e

    out : (s rest : List ℕ) → IsSentence s → t ≡ s ++ rest → ⊥
    out s rest d q = good_bad (sym ((accepts_exactly t rest).1 (s, d, q)) ∙ e)

    at : k < length t → Viable (take (suc k) t) → ⊥
    at b v = not_viable (get_or t k 0) (take k t) (drop (suc k) t)
        (rw (sym (drop-cons t k 0 b)) whole)
        (rw (sym (take-suc t k 0 b)) v)

-- and it is one place
shorter : (p q : List ℕ) → Viable (p ++ q) → Viable p
shorter p q (s, d) = (q ++ s, subst IsSentence (append_assoc p q s) d)

not_later : (t : List ℕ) (k m : ℕ) → FirstBad t k → FirstBad t m → k < m → ⊥
not_later t k m a b h =
    let g : k < length t = omega (arith, b.within) in
    let i : suc k ≤ m = omega arith in
    a.here g (shorter (take (suc k) t) (drop (suc k) (take m t))
    (rw (sym (ap (λ (x : List ℕ). x ++ drop (suc k) (take m t)) (take-take (suc k) m t i)) ∙ take-append-drop (suc k) (take m t)) b.before))

pub one_place : (t : List ℕ) (k m : ℕ) → FirstBad t k → FirstBad t m → k ≡ m
one_place t k m a b = elim (dec_lt k m) [ yes p ↦ absurd (not_later t k m a b p) | no f ↦ elim (dec_lt m k) [ yes p ↦ absurd (not_later t m k b a p) | no g ↦ omega arith ] ]
