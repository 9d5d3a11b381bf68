-- What the walk notes of the edges is what the definition says of them. Assumes nothing.
use Prim.Native.Nat.{ℕ, zero, suc, ◌<◌, min}
use native.Mathlib.Omega.{arith}
use native.Mathlib.Decide.{dec_lt}
use mathlib.Core.Path.{◌≡◌, refl, sym, ◌∙◌, ap, ap₂}
use mathlib.Core.Bool.{Bool, true, false, cond, ◌||◌}
use mathlib.Core.List.{List, [], ◌∷◌, map}
use lib.Dec.{ltb, eqb}
use borrow.Author.Tests.{ltb-false, lt-ltb, le-ltb, ne_eqb}
use Rattle.statement.specs.Matrix.{weight_limit}
use Rattle.statement.specs.Rows.{Row, row}
use Rattle.numerals.specs.Numerals.{number_limit}
use Rattle.statement.specs.Sentence.{Edge, among, split_made, kept_edges, clusters_of, row_of}
use Rattle.statement.specs.Refusals.{places_of, twins}
use Rattle.newick_noted.proofs.Edges.{entry_of}
use Rattle.newick_noted.proofs.Play.{Entry}
use Rattle.newick_noted.proofs.Rows.{held, heavies, bares, solid}
use Rattle.newick_noted.proofs.Once.{clusters_e, twins_e}

-- a number too long to tell apart is neither 0 nor within the limit
zero_cut : (w : ℕ) → eqb (min w number_limit) 0 ≡ eqb w 0
zero_cut zero = refl
zero_cut (suc w) = ne_eqb (min (suc w) number_limit) 0 (λ e. omega arith) ∙ sym (ne_eqb (suc w) 0 (λ e. omega arith))

limit_cut : (w : ℕ) → ltb weight_limit (min w number_limit) ≡ ltb weight_limit w
limit_cut w = go (dec_lt weight_limit w)
  where
    go : Dec (weight_limit < w) → ltb weight_limit (min w number_limit) ≡ ltb weight_limit w
    go (yes h) = lt-ltb weight_limit (min w number_limit) (omega arith) ∙ sym (lt-ltb weight_limit w h)
    go (no h) = le-ltb weight_limit (min w number_limit) (omega arith) ∙ sym (le-ltb weight_limit w (omega arith))

abbrev pub too_heavy : Edge → Bool
too_heavy e = ltb weight_limit e.weight

abbrev pub is_bare : ℕ → Edge → Bool
is_bare n e = eqb (split_made n e) 0

pub heavies_are : (n : ℕ) (es : List Edge) → heavies (map (entry_of n) es) ≡ places_of too_heavy (kept_edges es)
unfolding heavies places_of kept_edges
heavies_are n [] = refl
heavies_are n (e ∷ es) = rw (zero_cut e.weight, limit_cut e.weight) (go (eqb e.weight 0) (heavies_are n es))
  where
    go : (b : Bool) → heavies (map (entry_of n) es) ≡ places_of too_heavy (kept_edges es)
        → cond b (heavies (map (entry_of n) es)) (cond (too_heavy e) (e.place ∷ heavies (map (entry_of n) es)) (heavies (map (entry_of n) es)))
        ≡ places_of too_heavy (cond b (kept_edges es) (e ∷ kept_edges es))
    go true h = h
    go false h = ap (λ (s : List ℕ). cond (too_heavy e) (e.place ∷ s) s) h

pub bares_are : (n : ℕ) (es : List Edge) → bares (map (entry_of n) es) ≡ places_of (is_bare n) (kept_edges es)
unfolding bares places_of kept_edges
bares_are n [] = refl
bares_are n (e ∷ es) = rw (zero_cut e.weight) (go (eqb e.weight 0) (bares_are n es))
  where
    go : (b : Bool) → bares (map (entry_of n) es) ≡ places_of (is_bare n) (kept_edges es)
        → cond b (bares (map (entry_of n) es)) (cond (is_bare n e) (e.place ∷ bares (map (entry_of n) es)) (bares (map (entry_of n) es)))
        ≡ places_of (is_bare n) (cond b (kept_edges es) (e ∷ kept_edges es))
    go true h = h
    go false h = ap (λ (s : List ℕ). cond (is_bare n e) (e.place ∷ s) s) h

cons_nil : {X : Type 0} {p : ℕ} {ps : List ℕ} → p ∷ ps ≡ [] → X
cons_nil e = absurd (let z : ◌≡◌ {A = ℕ} 0 1 = cc in omega arith)

-- no empty cluster: all the edges that are kept
pub solid_are : (n : ℕ) (es : List Edge) → places_of (is_bare n) (kept_edges es) ≡ [] → solid (map (entry_of n) es) ≡ map (entry_of n) (kept_edges es)
unfolding solid places_of kept_edges
solid_are n [] z = refl
solid_are n (e ∷ es) z = rw (zero_cut e.weight) (go (eqb e.weight 0) (is_bare n e) refl z (λ k. solid_are n es k))
  where
    go : (b c : Bool) → is_bare n e ≡ c → places_of (is_bare n) (cond b (kept_edges es) (e ∷ kept_edges es)) ≡ []
        → (places_of (is_bare n) (kept_edges es) ≡ [] → solid (map (entry_of n) es) ≡ map (entry_of n) (kept_edges es))
        → cond b (solid (map (entry_of n) es)) (cond c (solid (map (entry_of n) es)) (entry_of n e ∷ solid (map (entry_of n) es))) ≡ map (entry_of n) (cond b (kept_edges es) (e ∷ kept_edges es))
    go true c q z ih = ih z
    go false true q z ih = cons_nil (rw q at z)
    go false false q z ih = ap (λ (s : List Entry). entry_of n e ∷ s) (ih (rw q at z))

clusters_are : (n : ℕ) (es : List Edge) → clusters_e (map (entry_of n) es) ≡ clusters_of n es
unfolding clusters_of
clusters_are n [] = refl
clusters_are n (e ∷ es) = ap (λ (s : List ℕ). split_made n e ∷ s) (clusters_are n es)

pub twins_are : (n : ℕ) (es : List Edge) (before : List ℕ) → twins_e before (map (entry_of n) es) ≡ twins n before es
unfolding twins_e twins
twins_are n [] before = refl
twins_are n (e ∷ es) before =
    ap₂ (λ (s t : List ℕ). cond (among (split_made n e) before || among (split_made n e) s) (e.place ∷ t) t) (clusters_are n es) (twins_are n es (split_made n e ∷ before))

-- within the limit a weight is what was read
pub rows_are : (n : ℕ) (es : List Edge) → places_of too_heavy es ≡ [] → map (λ r. row r.cluster r.weight) (map held (map (entry_of n) es)) ≡ map (row_of n) es
unfolding places_of
rows_are n [] z = refl
rows_are n (e ∷ es) z = go (too_heavy e) refl z (λ k. rows_are n es k)
  where
    go : (b : Bool) → too_heavy e ≡ b → cond b (e.place ∷ places_of too_heavy es) (places_of too_heavy es) ≡ []
        → (places_of too_heavy es ≡ [] → map (λ r. row r.cluster r.weight) (map held (map (entry_of n) es)) ≡ map (row_of n) es)
        → row (split_made n e) (min e.weight number_limit) ∷ map (λ r. row r.cluster r.weight) (map held (map (entry_of n) es)) ≡ row_of n e ∷ map (row_of n) es
    go true q z ih = cons_nil z
    go false q z ih =
        let l = ltb-false weight_limit e.weight q in
        let m : min e.weight number_limit ≡ e.weight = omega arith in
        ap₂ (λ (w : ℕ) (s : List Row). row (split_made n e) w ∷ s) m (ih z)
