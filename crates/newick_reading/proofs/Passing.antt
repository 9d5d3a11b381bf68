-- PASSING EVERY CHECK: a sentence that is `Accepted` is read as the rows of its edges; what each check asks for that. Assumes nothing.
use Prim.Native.Nat.{ℕ, suc, ◌<◌}
use native.Mathlib.Omega.{arith}
use mathlib.Core.Path.{◌≡◌, refl, sym, ◌∙◌, ap, ap₂, subst}
use mathlib.Core.Logic.{inl, inr}
use mathlib.Core.Bool.{Bool, true, false, cond, not, ◌||◌}
use mathlib.Core.List.{List, [], ◌∷◌, ◌++◌, map}
use lib.Dec.{ltb, eqb}
use borrow.Author.Tests.{lt-ltb, le-ltb, eqb-true, not-false}
use Rattle.statement.specs.Outcomes.{Done}
use Rattle.statement.specs.Lowest.{somewhere}
use Rattle.statement.specs.Rows.{clusters, list_of, Mem}
use Rattle.statement.specs.Tree.{sort_rows}
use Rattle.statement.specs.Refusals.{outcome_of, places_of, strays, twins, missing, sentence_checks, newick_checks}
use Rattle.statement.proofs.Lowest.{none_of, none_at}
use Rattle.statement.proofs.Refused.{passed_single, none_left}
use Rattle.row_sort.proofs.Sorting.{Held, Different}
use Rattle.statement.specs.Sentence.{Children, Leaf, Edge, among, taxa_of, split_made, sentence, clusters_of, leaves_of, edges_of, semicolon_at, row_of}
use Rattle.statement.specs.Calls.{reading_of}
use Rattle.newick_noted.proofs.Taxa.{Good, taxa}
use Rattle.newick_noted.proofs.Edges.{taxa_leaves}
use Rattle.newick_reading.proofs.Nested.{InE}
use Rattle.newick_reading.proofs.Room.{among_mem}
use Rattle.newick_reading.proofs.Same.{too_heavy, is_bare}
use Rattle.newick_reading.proofs.Places.{bad_passed}
use Rattle.newick_reading.proofs.Accepted.{Accepted, rows_clusters}

-- ACCEPTED: all checks are passed
no_strays : (n : ℕ) (before : List ℕ) (ls : List Leaf) → Good n before (taxa ls) → strays n before ls ≡ []
unfolding strays
no_strays n before [] g = refl
no_strays n before (l ∷ ls) g = rw (lt-ltb l.taxon n g.0, g.1) (no_strays n (l.taxon ∷ before) ls g.2)

pub accepted_reply : (n : ℕ) (f : Children) → Accepted n f → reading_of n (sentence f) ≡ record { outcome = Done; list = list_of n (sort_rows (map (row_of n) (edges_of f))) }
accepted_reply n f a = rw done
  where
    m : ℕ
    m = suc (semicolon_at f)

    few : (ltb n 2 || ltb 64 n) ≡ false
    few = rw (le-ltb n 2 a.two, le-ltb 64 n a.few)

    s : strays n [] (leaves_of f) ≡ []
    s = no_strays n [] (leaves_of f) (subst (Good n []) (sym (taxa_leaves 1 f)) a.taxa)

    done : outcome_of (newick_checks n (sentence f)) ≡ Done
    done =
        passed_single 1 (ltb n 2 || ltb 64 n) (sentence_checks n f) few
        ∙ bad_passed 20 (suc (semicolon_at f)) _ (strays n [] (leaves_of f) ++ missing n f) (ap₂ (λ (x y : List ℕ). x ++ y) s a.whole)
        ∙ bad_passed 14 (suc (semicolon_at f)) _ (places_of too_heavy (edges_of f)) a.light
        ∙ bad_passed 12 (suc (semicolon_at f)) _ (places_of (is_bare n) (edges_of f)) a.full
        ∙ bad_passed 13 (suc (semicolon_at f)) _ (twins n [] (edges_of f)) a.apart
        ∙ none_left

-- ALL TAXA are there
abbrev pub All : ℕ → Children → Type 0
All n f = (x : ℕ) → x < n → among x (taxa_of f) ≡ true

pub all_of : (n : ℕ) (f : Children) → missing n f ≡ [] → All n f
unfolding missing
all_of n f z = go (somewhere (λ x. not (among x (taxa_of f))) n) refl z
  where
    go : (b : Bool) → somewhere (λ x. not (among x (taxa_of f))) n ≡ b → cond b (semicolon_at f ∷ []) [] ≡ [] → (x : ℕ) → x < n → among x (taxa_of f) ≡ true
    go true e z x l = absurd (let y : ◌≡◌ {A = ℕ} 0 1 = cc in omega arith)
    go false e z x l = not-false (among x (taxa_of f)) (none_of (λ x. not (among x (taxa_of f))) n e x l)

pub none_missing : (n : ℕ) (f : Children) → All n f → missing n f ≡ []
unfolding missing
none_missing n f h = rw (none_at (λ x. not (among x (taxa_of f))) n (λ x l. ap not (h x l)))

-- WHAT THE ROWS SAY of the checks
pub places_none : (test : Edge → Bool) (es : List Edge) → ((e : Edge) → InE e es → test e ≡ false) → places_of test es ≡ []
unfolding places_of
places_none test [] h = refl
places_none test (e ∷ es) h = rw (h e (inl refl)) (places_none test es (λ d i. h d (inr i)))

pub row_in : (n : ℕ) (es : List Edge) (e : Edge) → InE e es → Held (row_of n e) (map (row_of n) es)
row_in n [] e x' = elim x' [ ]
row_in n (x ∷ es) e (inl q) = inl (ap (row_of n) q)
row_in n (x ∷ es) e (inr i) = inr (row_in n es e i)

cluster_out : (n : ℕ) (es : List Edge) (c : ℕ) → (Mem c (clusters (map (row_of n) es)) → ⊥) → among c (clusters_of n es) ≡ false
cluster_out n es c f = go (among c (clusters_of n es)) refl
  where
    go : (b : Bool) → among c (clusters_of n es) ≡ b → b ≡ false
    go true e = absurd (f (subst (Mem c) (sym (rows_clusters n es)) (among_mem c (clusters_of n es) e)))
    go false e = refl

abbrev pub Later : ℕ → List ℕ → List Edge → Type 0
Later n before [] = Unit {0}
Later n before (e ∷ es) = (among (split_made n e) before ≡ false) × Later n before es

later_on : (n : ℕ) (c : ℕ) (before : List ℕ) (es : List Edge) → (Mem c (clusters (map (row_of n) es)) → ⊥) → Later n before es → Later n (c ∷ before) es
later_on n c before [] f l = tt
later_on n c before (e ∷ es) f l = (go (eqb (split_made n e) c) refl, later_on n c before es (λ m. f (inr m)) l.1)
  where
    go : (b : Bool) → eqb (split_made n e) c ≡ b → (b || among (split_made n e) before) ≡ false
    go true q = absurd (f (inl (sym (eqb-true (split_made n e) c q))))
    go false q = l.0

pub twins_none : (n : ℕ) (es : List Edge) (before : List ℕ) → Later n before es → Different (map (row_of n) es) → twins n before es ≡ []
unfolding twins
twins_none n [] before l d = refl
twins_none n (e ∷ es) before l d =
    rw (l.0, cluster_out n es (split_made n e) d.0) (twins_none n es (split_made n e ∷ before) (later_on n (split_made n e) before es d.0 l.1) d.1)

pub later_none : (n : ℕ) (es : List Edge) → Later n [] es
later_none n [] = tt
later_none n (e ∷ es) = (refl, later_none n es)
