-- Each cluster once: the rows of the table, and the first edge whose cluster another has. Assumes nothing.
use Prim.Native.Nat.{ℕ}
use native.Mathlib.Omega.{arith}
use mathlib.Core.Path.{◌≡◌, refl, sym, ◌∙◌, ap, ap₂}
use mathlib.Core.Logic.{◌⊎◌, inl, inr, ⊎_elim}
use mathlib.Core.Bool.{Bool, true, false, cond, ◌||◌, true≢false}
use mathlib.Core.List.{List, [], ◌∷◌, map}
use lib.Dec.{eqb}
use borrow.Author.Tests.{eqb-true, eqb-false, eq-eqb, ne_eqb}
use Rattle.statement.specs.Sentence.{among}
use Rattle.newick_noted.proofs.Taxa.{head_or, both, or_none}
use Rattle.newick_noted.proofs.Play.{Entry}
use Rattle.newick_noted.proofs.Rows.{Held, held, again, add_to, add_all}

abbrev pub clusters_e : List Entry → List ℕ
clusters_e es = map (λ e. e.cluster) es

abbrev pub clusters_h : List Held → List ℕ
clusters_h R = map (λ r. r.cluster) R

abbrev pub without : ℕ → List Entry → List Entry
without c [] = []
without c (e ∷ es) = cond (eqb c e.cluster) (without c es) (e ∷ without c es)

abbrev pub mark_by : Held → List Entry → Held
mark_by r es = cond (among r.cluster (clusters_e es)) (again r) r

-- what is added behind a row marks it, or goes by
behind : (es : List Entry) (r : Held) (R : List Held) → add_all (r ∷ R) es ≡ mark_by r es ∷ add_all R (without r.cluster es)
unfolding add_all add_to
behind [] r R = refl
behind (e ∷ es) r R = go (eqb r.cluster e.cluster) (behind es (again r) R) (behind es r (add_to R e))
  where
    same : (b : Bool) → cond b (again r) (again r) ≡ again r
    same true = refl
    same false = refl

    go : (b : Bool) → add_all (again r ∷ R) es ≡ cond (among r.cluster (clusters_e es)) (again r) (again r) ∷ add_all R (without r.cluster es)
        → add_all (r ∷ add_to R e) es ≡ mark_by r es ∷ add_all (add_to R e) (without r.cluster es)
        → add_all (cond b (again r ∷ R) (r ∷ add_to R e)) es ≡ cond (b || among r.cluster (clusters_e es)) (again r) r ∷ add_all R (cond b (without r.cluster es) (e ∷ without r.cluster es))
    go true p q = p ∙ ap (λ (x : Held). x ∷ add_all R (without r.cluster es)) (same (among r.cluster (clusters_e es)))
    go false p q = q

pub first_row : (e : Entry) (es : List Entry) → add_all [] (e ∷ es) ≡ mark_by (held e) es ∷ add_all [] (without e.cluster es)
unfolding add_all add_to
first_row e es = behind es (held e) []

without_none : (c : ℕ) (es : List Entry) → among c (clusters_e es) ≡ false → without c es ≡ es
without_none c [] h = refl
without_none c (e ∷ es) h =
    let k = or_none (eqb c e.cluster) (among c (clusters_e es)) h in
    rw k.0 (ap (λ (s : List Entry). e ∷ s) (without_none c es k.1))

-- TWINS
unfoldable pub twins_e : List ℕ → List Entry → List ℕ
twins_e before [] = []
twins_e before (e ∷ es) =
    cond (among e.cluster before || among e.cluster (clusters_e es)) (e.place ∷ twins_e (e.cluster ∷ before) es) (twins_e (e.cluster ∷ before) es)

-- none of the clusters came before
abbrev pub Fresh : List ℕ → List Entry → Type 0
Fresh before [] = Unit {0}
Fresh before (e ∷ es) = (among e.cluster before ≡ false) × Fresh before es

fresh_on : (c : ℕ) (before : List ℕ) (es : List Entry) → among c (clusters_e es) ≡ false → Fresh before es → Fresh (c ∷ before) es
fresh_on c before [] h f = tt
fresh_on c before (e ∷ es) h f =
    let k = or_none (eqb c e.cluster) (among c (clusters_e es)) h in
    (rw (ne_eqb e.cluster c (λ q. eqb-false c e.cluster k.0 (sym q))) f.0, fresh_on c before es k.1 f.1)

pub fresh_none : (es : List Entry) → Fresh [] es
fresh_none [] = tt
fresh_none (e ∷ es) = (refl, fresh_none es)

-- the places of the rows that are marked
abbrev pub many_places : List Held → List ℕ
many_places [] = []
many_places (r ∷ R) = cond (eqb r.many 0) (many_places R) (r.place ∷ many_places R)

no_rows : 0 ≡ head_or 0 (many_places (add_all [] []))
unfolding head_or add_all
no_rows = refl

pub twins_many : (es : List Entry) (before : List ℕ) → Fresh before es → head_or 0 (twins_e before es) ≡ head_or 0 (many_places (add_all [] es))
unfolding twins_e head_or
twins_many [] before f = no_rows
twins_many (e ∷ es) before f = go (both (among e.cluster (clusters_e es)))
    (λ h. twins_many es (e.cluster ∷ before) (fresh_on e.cluster before es h f.1))
  where
    go : (among e.cluster (clusters_e es) ≡ true) ⊎ (among e.cluster (clusters_e es) ≡ false)
        → (among e.cluster (clusters_e es) ≡ false → head_or 0 (twins_e (e.cluster ∷ before) es) ≡ head_or 0 (many_places (add_all [] es)))
        → head_or 0 (cond (among e.cluster before || among e.cluster (clusters_e es)) (e.place ∷ twins_e (e.cluster ∷ before) es) (twins_e (e.cluster ∷ before) es))
        ≡ head_or 0 (many_places (add_all [] (e ∷ es)))
    go (inl h) ih = rw (f.0, h) (sym (ap (λ (s : List Held). head_or 0 (many_places s)) (first_row e es ∙ ap (λ (b : Bool). cond b (again (held e)) (held e) ∷ add_all [] (without e.cluster es)) h)))
    go (inr h) ih =
        rw (f.0, h) (ih h ∙ sym (ap (λ (s : List Held). head_or 0 (many_places s))
        (first_row e es ∙ ap₂ (λ (b : Bool) (s : List Entry). cond b (again (held e)) (held e) ∷ add_all [] s) h (without_none e.cluster es h))))

cons_nil : {X : Type 0} {p : ℕ} {ps : List ℕ} → p ∷ ps ≡ [] → X
cons_nil e = absurd (let z : ◌≡◌ {A = ℕ} 0 1 = cc in omega arith)

all_none : add_all [] [] ≡ []
unfolding add_all
all_none = refl

-- WHERE THERE ARE NONE, the rows are those of the edges
pub twins_none : (es : List Entry) (before : List ℕ) → Fresh before es → twins_e before es ≡ [] → add_all [] es ≡ map held es
unfolding twins_e
twins_none [] before f z = all_none
twins_none (e ∷ es) before f z = go (both (among e.cluster (clusters_e es)))
    (λ h k. twins_none es (e.cluster ∷ before) (fresh_on e.cluster before es h f.1) k) z
  where
    go : (among e.cluster (clusters_e es) ≡ true) ⊎ (among e.cluster (clusters_e es) ≡ false)
        → (among e.cluster (clusters_e es) ≡ false → twins_e (e.cluster ∷ before) es ≡ [] → add_all [] es ≡ map held es)
        → cond (among e.cluster before || among e.cluster (clusters_e es)) (e.place ∷ twins_e (e.cluster ∷ before) es) (twins_e (e.cluster ∷ before) es) ≡ []
        → add_all [] (e ∷ es) ≡ held e ∷ map held es
    go (inl h) ih z = cons_nil (rw (f.0, h) at z)
    go (inr h) ih z =
        first_row e es ∙ ap₂ (λ (b : Bool) (s : List Entry). cond b (again (held e)) (held e) ∷ add_all [] s) h (without_none e.cluster es h)
        ∙ ap (λ (s : List Held). held e ∷ s) (ih h (rw (f.0, h) at z))

-- ALL DIFFERENT, and each a cluster of an edge
abbrev pub Distinct : List ℕ → Type 0
Distinct [] = Unit {0}
Distinct (x ∷ xs) = (among x xs ≡ false) × Distinct xs

among_add : (R : List Held) (e : Entry) (x : ℕ) → among x (clusters_h (add_to R e)) ≡ true → (among x (clusters_h R) ≡ true) ⊎ (x ≡ e.cluster)
unfolding add_to
among_add [] e x h = go (eqb x e.cluster) refl h
  where
    go : (b : Bool) → eqb x e.cluster ≡ b → (b || false) ≡ true → (false ≡ true) ⊎ (x ≡ e.cluster)
    go true q h = inr (eqb-true x e.cluster q)
    go false q h = inl h
among_add (r ∷ R) e x h = go (eqb r.cluster e.cluster) h (λ k. among_add R e x k)
  where
    or : (b : Bool) → (b || among x (clusters_h (add_to R e))) ≡ true → (among x (clusters_h (add_to R e)) ≡ true → (among x (clusters_h R) ≡ true) ⊎ (x ≡ e.cluster))
        → ((b || among x (clusters_h R)) ≡ true) ⊎ (x ≡ e.cluster)
    or true h ih = inl refl
    or false h ih = ih h

    go : (b : Bool) → among x (clusters_h (cond b (again r ∷ R) (r ∷ add_to R e))) ≡ true
        → (among x (clusters_h (add_to R e)) ≡ true → (among x (clusters_h R) ≡ true) ⊎ (x ≡ e.cluster))
        → ((eqb x r.cluster || among x (clusters_h R)) ≡ true) ⊎ (x ≡ e.cluster)
    go true h ih = inl h
    go false h ih = or (eqb x r.cluster) h ih

distinct_add : (R : List Held) (e : Entry) → Distinct (clusters_h R) → Distinct (clusters_h (add_to R e))
unfolding add_to
distinct_add [] e d = (refl, tt)
distinct_add (r ∷ R) e d = go (eqb r.cluster e.cluster) refl (distinct_add R e d.1) (both (among r.cluster (clusters_h (add_to R e)))) (λ k. among_add R e r.cluster k)
  where
    go : (b : Bool) → eqb r.cluster e.cluster ≡ b → Distinct (clusters_h (add_to R e))
        → (among r.cluster (clusters_h (add_to R e)) ≡ true) ⊎ (among r.cluster (clusters_h (add_to R e)) ≡ false)
        → (among r.cluster (clusters_h (add_to R e)) ≡ true → (among r.cluster (clusters_h R) ≡ true) ⊎ (r.cluster ≡ e.cluster))
        → Distinct (clusters_h (cond b (again r ∷ R) (r ∷ add_to R e)))
    go true q ih k a = d
    go false q ih (inr h) a = (h, ih)
    go false q ih (inl h) a =
        absurd (⊎_elim (λ z. true≢false (sym z ∙ d.0)) (λ z. eqb-false r.cluster e.cluster q z) (a h))

pub distinct_all : (es : List Entry) (R : List Held) → Distinct (clusters_h R) → Distinct (clusters_h (add_all R es))
unfolding add_all
distinct_all [] R d = d
distinct_all (e ∷ es) R d = distinct_all es (add_to R e) (distinct_add R e d)

pub among_all : (es : List Entry) (R : List Held) (x : ℕ) → among x (clusters_h (add_all R es)) ≡ true → (among x (clusters_h R) ≡ true) ⊎ (among x (clusters_e es) ≡ true)
unfolding add_all
among_all [] R x h = inl h
among_all (e ∷ es) R x h = ⊎_elim (λ k. ⊎_elim (λ q. inl q) (λ q. inr (rw (eq-eqb x e.cluster q))) (among_add R e x k)) (λ k. inr (later (eqb x e.cluster) k)) (among_all es (add_to R e) x h)
  where
    later : (b : Bool) → among x (clusters_e es) ≡ true → (b || among x (clusters_e es)) ≡ true
    later true k = refl
    later false k = k
