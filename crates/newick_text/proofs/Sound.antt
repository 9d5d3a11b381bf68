-- Every accepted text is one of the grammar's.
use mathlib.Core.Path.{◌≡◌, refl, ap, sym, ◌∙◌}
use mathlib.Core.Logic.{◌⊎◌, inl, inr, ⊎_elim}
use mathlib.Core.Bool.{Bool, true, false}
use mathlib.Core.List.{List, [], ◌∷◌}
use Prim.Native.Nat.{ℕ, zero, suc}
use native.Mathlib.Decide.{ℕ_discrete}
use native.Mathlib.Omega.{arith}
use borrow.Author.Tests.{ne_eqb}
use Rattle.newick_text.specs.Automaton.{taxon, weight, State, start, want, some, over, close, stop, move, bad, good, next, run}
use Rattle.statement.specs.Decimal.{digit}
use Rattle.statement.specs.Sentence.{Digits, none, more, Numeral, nought, lead, Children, leaf, group, leaf_then, group_then, digits_text, numeral_text, children_text, Fits}
use Rattle.newick_text.proofs.Complete.{to, ended}

-- what closes the brackets around a list of children: for each, its weight, and the children after it
pub data Up : Type 0 where
  top : Up
  up : Numeral → Up → Up
  up2 : Numeral → Children → Up → Up

abbrev pub up_text : Up → List ℕ → List ℕ
up_text top s = 41 ∷ 59 ∷ s
up_text (up w k) s = 41 ∷ 58 ∷ numeral_text w (up_text k s)
up_text (up2 w f k) s = 41 ∷ 58 ∷ numeral_text w (44 ∷ children_text f (up_text k s))

-- d brackets around, and l more may be opened inside
abbrev pub UpFits : Up → ℕ → ℕ → Type 0
UpFits top zero l = Unit
UpFits top (suc d) l = ⊥
UpFits (up w k) zero l = ⊥
UpFits (up w k) (suc d) l = UpFits k d (suc l)
UpFits (up2 w f k) zero l = ⊥
UpFits (up2 w f k) (suc d) l = Fits f (suc l) × UpFits k d (suc l)

abbrev WantX : ℕ → ℕ → List ℕ → List ℕ → Type 0
WantX d l t r = (f : Children) × (k : Up) × Fits f l × UpFits k d l × (t ≡ children_text f (up_text k r))

abbrev AfterW : ℕ → ℕ → List ℕ → List ℕ → Type 0
AfterW d l t r = (k : Up) × UpFits k d l × ((t ≡ up_text k r) ⊎ ((f : Children) × Fits f l × (t ≡ 44 ∷ children_text f (up_text k r))))

abbrev SomeW : ℕ → ℕ → List ℕ → List ℕ → Type 0
SomeW d l t r = (x : Digits) × (s : List ℕ) × (t ≡ digits_text x s) × AfterW d l s r

abbrev WantW : ℕ → ℕ → List ℕ → List ℕ → Type 0
WantW d l t r = (n : Numeral) × (s : List ℕ) × (t ≡ numeral_text n s) × AfterW d l s r

abbrev AfterX : ℕ → ℕ → List ℕ → List ℕ → Type 0
AfterX d l t r = (s : List ℕ) × (t ≡ 58 ∷ s) × WantW d l s r

abbrev SomeX : ℕ → ℕ → List ℕ → List ℕ → Type 0
SomeX d l t r = (x : Digits) × (s : List ℕ) × (t ≡ digits_text x s) × AfterX d l s r

abbrev Shut : ℕ → ℕ → List ℕ → List ℕ → Type 0
Shut zero l t r = t ≡ 59 ∷ r
Shut (suc d) l t r = AfterX d l t r

-- the texts that lead from a state to the end
abbrev Lang : State → List ℕ → List ℕ → Type 0
Lang (start zero) t r = ⊥
Lang (start (suc l)) t r = (f : Children) × Fits f l × (t ≡ 40 ∷ children_text f (41 ∷ 59 ∷ r))
Lang (want u zero l) t r = Unit
Lang (want taxon (suc d) l) t r = WantX d l t r
Lang (want weight (suc d) l) t r = WantW d l t r
Lang (some u zero l) t r = Unit
Lang (some taxon (suc d) l) t r = SomeX d l t r
Lang (some weight (suc d) l) t r = SomeW d l t r
Lang (over u zero l) t r = Unit
Lang (over taxon (suc d) l) t r = AfterX d l t r
Lang (over weight (suc d) l) t r = AfterW d l t r
Lang (close d l) t r = Shut d l t r

taken : (c : ℕ) (s : List ℕ) (q : State) {q' : State} {r : List ℕ} → next q c ≡ move q' → run (c ∷ s) q ≡ good r → run s q' ≡ good r
taken c s q e h = sym (to c s q e) ∙ h

good_bad : {a b : List ℕ} → bad a ≡ good b → ⊥
good_bad e = let z : ◌≡◌ {A = ℕ} 0 1 = cc in omega arith

stopped : {X : Type 0} (c : ℕ) (s : List ℕ) (q : State) {r : List ℕ} → next q c ≡ stop → run (c ∷ s) q ≡ good r → X
unfolding run
stopped c s q e h = absurd (good_bad (rw e at h))

both : (b : Bool) → (b ≡ true) ⊎ (b ≡ false)
both true = inl refl
both false = inr refl

-- a leaf, and what comes after it
leafed : (x : Numeral) (d l : ℕ) (t s r : List ℕ) → t ≡ numeral_text x s → AfterX d l s r → WantX d l t r
leafed x d l t s r e (s₁, e₁, (w, s₂, e₂, (k, h, inl e₃))) = (leaf x w, k, tt, h, rw (e, e₁, e₂, e₃))
leafed x d l t s r e (s₁, e₁, (w, s₂, e₂, (k, h, inr (f, g, e₃)))) = (leaf_then x w f, k, g, h, rw (e, e₁, e₂, e₃))

-- a bracket, and what comes after it
noded : (d l : ℕ) (t s r : List ℕ) → t ≡ 40 ∷ s → WantX (suc d) l s r → WantX d (suc l) t r
noded d l t s r e (f, top, h, g, e₁) = absurd g
noded d l t s r e (f, up w k, h, g, e₁) = (group f w, k, h, g, rw (e, e₁))
noded d l t s r e (f, up2 w f₂ k, h, g, e₁) = (group_then f w f₂, k, (h, g.0), g.1, rw (e, e₁))

-- a bracket is closed after a weight
shut : (d l : ℕ) (s r : List ℕ) → Shut d (suc l) s r → AfterW d l (41 ∷ s) r
shut zero l s r e = (top, tt, inl (ap (λ (x : List ℕ). 41 ∷ x) e))
shut (suc d) l s r (s₁, e₁, (w, s₂, e₂, (k, h, inl e₃))) = (up w k, h, inl (rw (e₁, e₂, e₃)))
shut (suc d) l s r (s₁, e₁, (w, s₂, e₂, (k, h, inr (f, g, e₃)))) = (up2 w f k, (g, h), inl (rw (e₁, e₂, e₃)))

commaed : (c : ℕ) (s r : List ℕ) (d l : ℕ) → c ≡ 44 → WantX d l s r → AfterW d l (c ∷ s) r
commaed c s r d l p (f, k, h, g, e) = (k, g, inr (f, h, rw (p, e)))

-- The steps, each from what holds of the rest of the text.
module _ (c : ℕ) (s r : List ℕ) (d l : ℕ) (ih : (q : State) → run s q ≡ good r → Lang q s r) where
  step_after_w : run (c ∷ s) (over weight (suc d) l) ≡ good r → AfterW d l (c ∷ s) r
  step_after_w h = elim (ℕ_discrete c 44) [ yes p ↦ comma p | no f ↦ elim (ℕ_discrete c 41) [ yes p ↦ shuts p | no g ↦ stopped c s (over weight (suc d) l) (rw (ne_eqb c 44 f, ne_eqb c 41 g)) h ] ]
    where
      comma : c ≡ 44 → AfterW d l (c ∷ s) r
      comma p = commaed c s r d l p (ih (want taxon (suc d) l) (taken c s (over weight (suc d) l) (rw p) h))

      shuts : c ≡ 41 → AfterW d l (c ∷ s) r
      shuts p = rw p (shut d l s r (ih (close d (suc l)) (taken c s (over weight (suc d) l) (rw p) h)))

  step_some_w : run (c ∷ s) (some weight (suc d) l) ≡ good r → SomeW d l (c ∷ s) r
  step_some_w h = ⊎_elim goes_on other (both (digit c))
    where
      goes_on : digit c ≡ true → SomeW d l (c ∷ s) r
      goes_on p = let w : SomeW d l s r = ih (some weight (suc d) l) (taken c s (some weight (suc d) l) (rw p) h) in (more c p w.0, w.1, ap (λ (x : List ℕ). c ∷ x) w.2, w.3)

      other : digit c ≡ false → SomeW d l (c ∷ s) r
      other p = (none, c ∷ s, refl, step_after_w (sym (ended c s weight (suc d) l p) ∙ h))

  step_want_w : run (c ∷ s) (want weight (suc d) l) ≡ good r → WantW d l (c ∷ s) r
  step_want_w h = elim (ℕ_discrete c 48) [ yes p ↦ nil p | no f ↦ ⊎_elim (goes_on f) (other f) (both (digit c)) ]
    where
      other : (c ≡ 48 → ⊥) → digit c ≡ false → WantW d l (c ∷ s) r
      other f p = stopped c s (want weight (suc d) l) (rw (ne_eqb c 48 f, p)) h

      nil : c ≡ 48 → WantW d l (c ∷ s) r
      nil p = (nought, s, rw p, ih (over weight (suc d) l) (taken c s (want weight (suc d) l) (rw p) h))

      goes_on : (c ≡ 48 → ⊥) → digit c ≡ true → WantW d l (c ∷ s) r
      goes_on f p = let w : SomeW d l s r = ih (some weight (suc d) l) (taken c s (want weight (suc d) l) (rw (ne_eqb c 48 f, p)) h) in (lead c p f w.0, w.1, ap (λ (x : List ℕ). c ∷ x) w.2, w.3)

  step_after_x : run (c ∷ s) (over taxon (suc d) l) ≡ good r → AfterX d l (c ∷ s) r
  step_after_x h = elim (ℕ_discrete c 58) [ yes p ↦ (s, rw p, ih (want weight (suc d) l) (taken c s (over taxon (suc d) l) (rw p) h)) | no f ↦ stopped c s (over taxon (suc d) l) (rw (ne_eqb c 58 f)) h ]

  step_some_x : run (c ∷ s) (some taxon (suc d) l) ≡ good r → SomeX d l (c ∷ s) r
  step_some_x h = ⊎_elim goes_on other (both (digit c))
    where
      goes_on : digit c ≡ true → SomeX d l (c ∷ s) r
      goes_on p = let w : SomeX d l s r = ih (some taxon (suc d) l) (taken c s (some taxon (suc d) l) (rw p) h) in (more c p w.0, w.1, ap (λ (x : List ℕ). c ∷ x) w.2, w.3)

      other : digit c ≡ false → SomeX d l (c ∷ s) r
      other p = (none, c ∷ s, refl, step_after_x (sym (ended c s taxon (suc d) l p) ∙ h))

  step_first : (c ≡ 40 → ⊥) → run (c ∷ s) (want taxon (suc d) l) ≡ good r → WantX d l (c ∷ s) r
  step_first o h = elim (ℕ_discrete c 48) [ yes p ↦ nil p | no f ↦ ⊎_elim (goes_on f) (other f) (both (digit c)) ]
    where
      other : (c ≡ 48 → ⊥) → digit c ≡ false → WantX d l (c ∷ s) r
      other f p = stopped c s (want taxon (suc d) l) (rw (ne_eqb c 40 o, ne_eqb c 48 f, p)) h

      nil : c ≡ 48 → WantX d l (c ∷ s) r
      nil p = leafed nought d l (c ∷ s) s r (rw p) (ih (over taxon (suc d) l) (taken c s (want taxon (suc d) l) (rw p) h))

      goes_on : (c ≡ 48 → ⊥) → digit c ≡ true → WantX d l (c ∷ s) r
      goes_on f p = let w : SomeX d l s r = ih (some taxon (suc d) l) (taken c s (want taxon (suc d) l) (rw (ne_eqb c 40 o, ne_eqb c 48 f, p)) h) in leafed (lead c p f w.0) d l (c ∷ s) w.1 r (ap (λ (x : List ℕ). c ∷ x) w.2) w.3

  step_close : run (c ∷ s) (close (suc d) l) ≡ good r → AfterX d l (c ∷ s) r
  step_close h = elim (ℕ_discrete c 58) [ yes p ↦ (s, rw p, ih (want weight (suc d) l) (taken c s (close (suc d) l) (rw p) h)) | no f ↦ stopped c s (close (suc d) l) (rw (ne_eqb c 58 f)) h ]

step_want_x : (c : ℕ) (s r : List ℕ) (d l : ℕ) → ((q : State) → run s q ≡ good r → Lang q s r) → run (c ∷ s) (want taxon (suc d) l) ≡ good r → WantX d l (c ∷ s) r
step_want_x c s r d l ih h = elim (ℕ_discrete c 40) [ yes p ↦ opens l h p | no f ↦ step_first c s r d l ih f h ]
  where
    opens : (l : ℕ) → run (c ∷ s) (want taxon (suc d) l) ≡ good r → c ≡ 40 → WantX d l (c ∷ s) r
    opens zero h p = stopped c s (want taxon (suc d) zero) (rw p) h
    opens (suc l) h p = noded d l (c ∷ s) s r (rw p) (ih (want taxon (suc (suc d)) l) (taken c s (want taxon (suc d) (suc l)) (rw p) h))

end_good : (s r : List ℕ) (l : ℕ) → run (59 ∷ s) (close zero l) ≡ good r → s ≡ r
unfolding run
end_good s r l h = cc

step_end : (c : ℕ) (s r : List ℕ) (l : ℕ) → run (c ∷ s) (close zero l) ≡ good r → c ∷ s ≡ 59 ∷ r
step_end c s r l h = elim (ℕ_discrete c 59) [ yes p ↦ rw (p, end_good s r l (rw p at h)) | no f ↦ stopped c s (close zero l) (rw (ne_eqb c 59 f)) h ]

top_only : (c l : ℕ) (t r : List ℕ) → c ≡ 40 → WantX zero l t r → (f : Children) × Fits f l × (c ∷ t ≡ 40 ∷ children_text f (41 ∷ 59 ∷ r))
top_only c l t r p (f, top, h, g, e) = (f, h, rw (p, e))
top_only c l t r p (f, up w k, h, g, e) = absurd g
top_only c l t r p (f, up2 w x k, h, g, e) = absurd g

step_start : (c : ℕ) (s r : List ℕ) (l : ℕ) → ((q : State) → run s q ≡ good r → Lang q s r) → run (c ∷ s) (start l) ≡ good r → Lang (start l) (c ∷ s) r
step_start c s r l ih h = elim (ℕ_discrete c 40) [ yes p ↦ opens l h p | no f ↦ stopped c s (start l) (rw (ne_eqb c 40 f)) h ]
  where
    opens : (l : ℕ) → run (c ∷ s) (start l) ≡ good r → c ≡ 40 → Lang (start l) (c ∷ s) r
    opens zero h p = stopped c s (start zero) (rw p) h
    opens (suc l) h p = top_only c l s r p (ih (want taxon 1 l) (taken c s (start (suc l)) (rw p) h))

nothing : {X : Type 0} (q : State) {r : List ℕ} → run [] q ≡ good r → X
unfolding run
nothing q h = absurd (good_bad h)

pub sound_at : (t : List ℕ) (q : State) (r : List ℕ) → run t q ≡ good r → Lang q t r
sound_at [] q r h = nothing q h
sound_at (c ∷ s) (start l) r h = step_start c s r l (λ q. sound_at s q r) h
sound_at (c ∷ s) (want u zero l) r h = tt
sound_at (c ∷ s) (want taxon (suc d) l) r h = step_want_x c s r d l (λ q. sound_at s q r) h
sound_at (c ∷ s) (want weight (suc d) l) r h = step_want_w c s r d l (λ q. sound_at s q r) h
sound_at (c ∷ s) (some u zero l) r h = tt
sound_at (c ∷ s) (some taxon (suc d) l) r h = step_some_x c s r d l (λ q. sound_at s q r) h
sound_at (c ∷ s) (some weight (suc d) l) r h = step_some_w c s r d l (λ q. sound_at s q r) h
sound_at (c ∷ s) (over u zero l) r h = tt
sound_at (c ∷ s) (over taxon (suc d) l) r h = step_after_x c s r d l (λ q. sound_at s q r) h
sound_at (c ∷ s) (over weight (suc d) l) r h = step_after_w c s r d l (λ q. sound_at s q r) h
sound_at (c ∷ s) (close zero l) r h = step_end c s r l h
sound_at (c ∷ s) (close (suc d) l) r h = step_close c s r d l (λ q. sound_at s q r) h

-- an accepted text is a text of the grammar with what was not read after it
pub sound : (t : List ℕ) (l : ℕ) (r : List ℕ) → run t (start (suc l)) ≡ good r → (f : Children) × Fits f l × (t ≡ 40 ∷ children_text f (41 ∷ 59 ∷ r))
sound t l r h = sound_at t (start (suc l)) r h
