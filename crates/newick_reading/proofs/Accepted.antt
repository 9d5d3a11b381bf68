-- AN ACCEPTED TEXT gives a well-formed list over all its n taxa. Assumes nothing.
use Prim.Native.Nat.{ℕ, zero, suc, ◌+◌, ◌^◌, ◌≤◌, ◌<◌}
use native.Mathlib.Omega.{arith}
use mathlib.Core.Path.{◌≡◌, refl, sym, ◌∙◌, ap, subst}
use mathlib.Core.Logic.{◌⊎◌, inl, inr}
use mathlib.Core.Bool.{Bool, true, false, cond, not, ◌||◌, true≢false}
use mathlib.Core.List.{List, [], ◌∷◌, ◌++◌, map}
use lib.Dec.{ltb, eqb}
use lib.Pow.{pow_pos}
use borrow.Author.Tests.{ltb-false, eqb-false, eq-eqb}
use Rattle.statement.specs.Outcomes.{Reading, Outcome, Done, Short, Refused}
use Rattle.statement.specs.Cluster.{bit, Split, Conflict}
use Rattle.statement.specs.Matrix.{weight_limit}
use Rattle.statement.specs.Rows.{Row, clusters, list_of, Mem, Ascending, WellFormed}
use Rattle.statement.specs.Lowest.{somewhere}
use Rattle.statement.specs.Tree.{sort_rows}
use Rattle.statement.specs.Refusals.{outcome_of, Passed, AllPassed, places_of, strays, twins, missing, bad_at, sentence_checks, text_checks, newick_checks}
use Rattle.statement.specs.Calls.{unless_refused, refused_reading, reading_of}
use Rattle.statement.proofs.Enlarged.{WellRows}
use Rattle.statement.proofs.Allowance.{rows_well}
use Rattle.statement.proofs.Listed.{asc_le}
use Rattle.statement.proofs.Refused.{accepted_exactly, never_short}
use Rattle.row_sort.proofs.Sorting.{Held, mem_held, sort_held, sort_up, Different}
use Rattle.statement.specs.Sentence.{Children, Edge, among, size, taxa_of, edges_at, split_made, kept_edges, Parsed, outside, sentence, clusters_of, leaves_of, edges_of, semicolon_at, row_of, rows_read}
use Rattle.newick_meaning.specs.Parse.{parsed, read_newick}
use Rattle.newick_noted.proofs.Taxa.{Good, good_of, or_none}
use Rattle.newick_noted.proofs.Edges.{taxa_leaves}
use Rattle.newick_reading.proofs.Nested.{InE, nested, no_conflict, cluster_split}
use Rattle.newick_reading.proofs.Room.{mem_among}
use Rattle.newick_reading.proofs.Same.{too_heavy, is_bare}
use Rattle.newick_reading.proofs.Places.{asc_between, leaves_up, edges_up, strays_up, places_up, twins_up, kept_up}

-- what the checks ask, without places
pub record Accepted (n : ℕ) (f : Children) : Type 0 where
  pub two : 2 ≤ n
  pub few : n ≤ 64
  pub taxa : Good n [] (taxa_of f)
  pub whole : missing n f ≡ []
  pub light : places_of too_heavy (edges_of f) ≡ []
  pub full : places_of (is_bare n) (edges_of f) ≡ []
  pub apart : twins n [] (edges_of f) ≡ []

-- a check that is passed has no bad places
none_bad : (number lo m : ℕ) (ps : List ℕ) → Ascending lo m ps → Passed (bad_at number ps m) → ps ≡ []
none_bad number lo m [] h p = refl
none_bad number lo m (q ∷ ps) h p = absurd (true≢false (sym (rw (eq-eqb q q refl)) ∙ p q (omega (arith, asc_le (suc q) m ps h.1))))

wide : (f : Children) (ps : List ℕ) → Ascending 1 (1 + size f) ps → Ascending 1 (suc (semicolon_at f)) ps
wide f ps h = asc_between 1 1 (1 + size f) (suc (semicolon_at f)) ps (omega arith) (omega arith) h

kept_asc : (f : Children) → Ascending 1 (1 + size f) (map (λ e. e.place) (edges_of f))
kept_asc f = kept_up 1 (1 + size f) (edges_at 1 f) (edges_up 1 f)

append_none : (xs ys : List ℕ) → xs ++ ys ≡ [] → (xs ≡ []) × (ys ≡ [])
append_none [] ys e = (refl, e)
append_none (x ∷ xs) ys e = absurd (let z : ◌≡◌ {A = ℕ} 0 1 = cc in omega arith)

any_none : (ps : List ℕ) (m : ℕ) → ((i : ℕ) → i < m → among i ps ≡ false) → (lo : ℕ) → Ascending lo m ps → ps ≡ []
any_none ps m p lo h = none_bad 0 lo m ps h p

missing_up : (n : ℕ) (f : Children) → Ascending 0 (suc (semicolon_at f)) (missing n f)
unfolding missing
missing_up n f = go (somewhere (λ x. not (among x (taxa_of f))) n)
  where
    go : (b : Bool) → Ascending 0 (suc (semicolon_at f)) (cond b (semicolon_at f ∷ []) [])
    go true = (omega arith, omega arith)
    go false = omega arith

left_none : (xs ys : List ℕ) (m : ℕ) → ((i : ℕ) → i < m → among i (xs ++ ys) ≡ false) → (i : ℕ) → i < m → among i xs ≡ false
left_none [] ys m p i l = refl
left_none (x ∷ xs) ys m p i l = or_of (eqb i x) (p i l) (left_none xs ys m (λ j k. (or_none (eqb j x) (among j (xs ++ ys)) (p j k)).1) i l)
  where
    or_of : (b : Bool) → (b || among i (xs ++ ys)) ≡ false → among i xs ≡ false → (b || among i xs) ≡ false
    or_of true e h = e
    or_of false e h = h

right_none : (xs ys : List ℕ) (m : ℕ) → ((i : ℕ) → i < m → among i (xs ++ ys) ≡ false) → (i : ℕ) → i < m → among i ys ≡ false
right_none [] ys m p i l = p i l
right_none (x ∷ xs) ys m p i l = right_none xs ys m (λ j k. (or_none (eqb j x) (among j (xs ++ ys)) (p j k)).1) i l

pub passed_all : (n : ℕ) (f : Children) → 2 ≤ n → n ≤ 64 → AllPassed (sentence_checks n f) → Accepted n f
passed_all n f two few (p20, (p14, (p12, (p13, u)))) =
    let s = any_none (strays n [] (leaves_of f)) (suc (semicolon_at f)) (left_none (strays n [] (leaves_of f)) (missing n f) (suc (semicolon_at f)) p20) 1
    (wide f (strays n [] (leaves_of f)) (strays_up n 1 (1 + size f) [] (leaves_of f) (leaves_up 1 f))) in
    record {
      two = two;
      few = few;
      taxa = subst (Good n []) (taxa_leaves 1 f) (good_of n [] (leaves_of f) s);
      whole = any_none (missing n f) (suc (semicolon_at f)) (right_none (strays n [] (leaves_of f)) (missing n f) (suc (semicolon_at f)) p20) 0 (missing_up n f);
      light = none_bad 14 1 (suc (semicolon_at f)) (places_of too_heavy (edges_of f)) (wide f (places_of too_heavy (edges_of f)) (places_up too_heavy 1 (1 + size f) (edges_of f) (kept_asc f))) p14;
      full = none_bad 12 1 (suc (semicolon_at f)) (places_of (is_bare n) (edges_of f)) (wide f (places_of (is_bare n) (edges_of f)) (places_up (is_bare n) 1 (1 + size f) (edges_of f) (kept_asc f))) p12;
      apart = none_bad 13 1 (suc (semicolon_at f)) (twins n [] (edges_of f)) (wide f (twins n [] (edges_of f)) (twins_up n 1 (1 + size f) [] (edges_of f) (kept_asc f))) p13;
    }

pub done_of : (o : Outcome) (given : Reading) → (o ≡ Short → ⊥) → (unless_refused o (refused_reading o) given).outcome ≡ Done → o ≡ Done
done_of Done given s e = refl
done_of Short given s e = absurd (s refl)
done_of (Refused number place) given s e = e

-- AN ACCEPTED TEXT is a sentence, and its list is that of its tree
pub accepted : (n : ℕ) (text : List ℕ) → (read_newick n text).outcome ≡ Done
    → (f : Children) × (parsed text ≡ sentence f) × Accepted n f × ((read_newick n text).list ≡ list_of n (sort_rows (map (row_of n) (edges_of f))))
unfolding read_newick
accepted n text e =
    let d = done_of (outcome_of (newick_checks n (parsed text))) _ (never_short (newick_checks n (parsed text))) e in
    go (parsed text) refl ((accepted_exactly (newick_checks n (parsed text))).0 d) d
  where
    go : (p : Parsed) → parsed text ≡ p → AllPassed (newick_checks n (parsed text)) → outcome_of (newick_checks n (parsed text)) ≡ Done
        → (f : Children) × (parsed text ≡ sentence f) × Accepted n f × ((read_newick n text).list ≡ list_of n (sort_rows (map (row_of n) (edges_of f))))
    go (outside k) q (p1, ps) d =
        let ps' : AllPassed (text_checks n (outside k)) = subst (λ (p : Parsed). AllPassed (text_checks n p)) q ps in
        absurd (true≢false (sym (rw (eq-eqb k k refl)) ∙ ps'.0 k (omega arith)))
    go (sentence f) q (p1, ps) d =
        let t = or_none (ltb n 2) (ltb 64 n) (p1 0 (omega arith)) in (
          f,
          q,
          passed_all n f (ltb-false n 2 t.0) (ltb-false 64 n t.1) (subst (λ (p : Parsed). AllPassed (text_checks n p)) q ps),
          rw d (ap (λ (p : Parsed). list_of n (rows_read n p)) q),
        )

pub sentence_accepted : (n : ℕ) (f : Children) → (reading_of n (sentence f)).outcome ≡ Done → Accepted n f
sentence_accepted n f e =
    let d = done_of (outcome_of (newick_checks n (sentence f))) _ (never_short (newick_checks n (sentence f))) e in
    let (p1, ps) = (accepted_exactly (newick_checks n (sentence f))).0 d in
    let t = or_none (ltb n 2) (ltb 64 n) (p1 0 (omega arith)) in
    passed_all n f (ltb-false n 2 t.0) (ltb-false 64 n t.1) ps

-- THE ROWS
pub row_of_law : (n : ℕ) (es : List Edge) (r : Row) → Held r (map (row_of n) es) → (e : Edge) × InE e es × (r ≡ row_of n e)
row_of_law n [] r x' = elim x' [ ]
row_of_law n (e ∷ es) r (inl q) = (e, inl refl, q)
row_of_law n (e ∷ es) r (inr h) = let (d, i, q) = row_of_law n es r h in (d, inr i, q)

pub kept_in : (es : List Edge) (e : Edge) → InE e (kept_edges es) → InE e es × (e.weight ≡ 0 → ⊥)
unfolding kept_edges
kept_in [] e h = absurd h
kept_in (x ∷ es) e h = go (eqb x.weight 0) refl h (λ k. kept_in es e k)
  where
    go : (b : Bool) → eqb x.weight 0 ≡ b → InE e (cond b (kept_edges es) (x ∷ kept_edges es)) → (InE e (kept_edges es) → InE e es × (e.weight ≡ 0 → ⊥)) → ((e ≡ x) ⊎ InE e es) × (e.weight ≡ 0 → ⊥)
    go true q h ih = let (i, f) = ih h in (inr i, f)
    go false q (inl p) ih = (inl p, λ z. eqb-false x.weight 0 q (sym (ap (λ (y : Edge). y.weight) p) ∙ z))
    go false q (inr h) ih = let (i, f) = ih h in (inr i, f)

pub none_test : (test : Edge → Bool) (es : List Edge) (e : Edge) → places_of test es ≡ [] → InE e es → test e ≡ false
unfolding places_of
none_test test [] e z h = elim h [ ]
none_test test (x ∷ es) e z h = go (test x) refl z h (λ k i. none_test test es e k i)
  where
    go : (b : Bool) → test x ≡ b → cond b (x.place ∷ places_of test es) (places_of test es) ≡ [] → (e ≡ x) ⊎ InE e es
        → (places_of test es ≡ [] → InE e es → test e ≡ false) → test e ≡ false
    go true q z h ih = absurd (let y : ◌≡◌ {A = ℕ} 0 1 = cc in omega arith)
    go false q z (inl p) ih = ap test p ∙ q
    go false q z (inr i) ih = ih z i

pub rows_clusters : (n : ℕ) (es : List Edge) → clusters (map (row_of n) es) ≡ clusters_of n es
unfolding clusters_of
rows_clusters n [] = refl
rows_clusters n (e ∷ es) = ap (λ (s : List ℕ). split_made n e ∷ s) (rows_clusters n es)

pub different : (n : ℕ) (es : List Edge) (before : List ℕ) → twins n before es ≡ [] → Different (map (row_of n) es)
unfolding twins
different n [] before z = tt
different n (e ∷ es) before z = go (both_off (among (split_made n e) before) (among (split_made n e) (clusters_of n es)) z)
    (λ k. different n es (split_made n e ∷ before) k)
  where
    both_off : (a b : Bool) → cond (a || b) (e.place ∷ twins n (split_made n e ∷ before) es) (twins n (split_made n e ∷ before) es) ≡ []
        → (b ≡ false) × (twins n (split_made n e ∷ before) es ≡ [])
    both_off true b z = absurd (let y : ◌≡◌ {A = ℕ} 0 1 = cc in omega arith)
    both_off false true z = absurd (let y : ◌≡◌ {A = ℕ} 0 1 = cc in omega arith)
    both_off false false z = (refl, z)

    go : (among (split_made n e) (clusters_of n es) ≡ false) × (twins n (split_made n e ∷ before) es ≡ []) → (twins n (split_made n e ∷ before) es ≡ [] → Different (map (row_of n) es))
        → (Mem (split_made n e) (clusters (map (row_of n) es)) → ⊥) × Different (map (row_of n) es)
    go (h, k) ih = ((λ m. true≢false (sym (mem_among (split_made n e) (clusters_of n es) (subst (Mem (split_made n e)) (rows_clusters n es) m)) ∙ h)), ih k)

-- WELL-FORMED
module _ (n : ℕ) (f : Children) (a : Accepted n f) where
  rows : List Row
  rows = map (row_of n) (edges_of f)

  edge_split : (e : Edge) → InE e (edges_of f) → Split n (split_made n e)
  edge_split e i = cluster_split n (omega (arith, a.two)) e (λ z. true≢false (sym (eq-eqb (split_made n e) 0 z) ∙ none_test (is_bare n) (edges_of f) e a.full i))

  column_of : (g : Row → ℕ) (c : ℕ) → Mem c (map g (sort_rows (map (row_of n) (edges_of f)))) → (e : Edge) × InE e (edges_of f) × (c ≡ g (row_of n e))
  column_of g c m =
      let (r, h, q) = mem_held g c (sort_rows (map (row_of n) (edges_of f))) m in
      let (e, i, p) = row_of_law n (edges_of f) r ((sort_held r (map (row_of n) (edges_of f))).0 h) in
      (e, i, q ∙ ap g p)

  pub read_rows : WellRows weight_limit n (sort_rows (map (row_of n) (edges_of f)))
  read_rows =
      record {
        clean = record {
          up = sort_up 1 (2 ^ n) (map (row_of n) (edges_of f)) (pow_pos n)
              (λ r h. let (e, i, p) = row_of_law n (edges_of f) r h in let s = edge_split e i in let c = ap (λ (x : Row). x.cluster) p in (omega (arith, s.some), omega (arith, s.below)))
              (different n (edges_of f) [] a.apart);
          free = λ c m. let (e, i, q) = column_of (λ r. r.cluster) c m in ap (λ (x : ℕ). bit x 0) q ∙ (edge_split e i).free;
          clean = λ x y mx my h.
              let (d, i, p) = column_of (λ r. r.cluster) x mx in
              let (e, j, q) = column_of (λ r. r.cluster) y my in
              no_conflict n (omega (arith, a.two)) d e (subst (λ (z : ℕ). Conflict n z (split_made n e)) p (subst (λ (z : ℕ). Conflict n x z) q h))
              (nested n f 1 [] a.taxa d e (kept_in (edges_at 1 f) d i).0 (kept_in (edges_at 1 f) e j).0);
        };
        weigh = λ w m.
            let (e, i, q) = column_of (λ r. r.weight) w m in
            (positive w (λ z. (kept_in (edges_at 1 f) e i).1 (sym q ∙ z)), omega (arith, q, ltb-false weight_limit e.weight (none_test too_heavy (edges_of f) e a.light i)));
      }
    where
      positive : (w : ℕ) → (w ≡ 0 → ⊥) → 1 ≤ w
      positive zero g = absurd (g refl)
      positive (suc w) g = omega arith

-- THE LIST of an accepted text is well-formed, and covers all n taxa
pub read_well : (n : ℕ) (text : List ℕ) → (read_newick n text).outcome ≡ Done → WellFormed weight_limit n (read_newick n text).list × ((read_newick n text).list.taxa ≡ n)
unfolding list_of
read_well n text e =
    let (f, q, a, l) = accepted n text e in (
      subst (WellFormed weight_limit n) (sym l) (rows_well weight_limit n n (sort_rows (map (row_of n) (edges_of f))) a.two (omega arith) (read_rows n f a)),
      ap (λ s. s.taxa) l,
    )
