-- ONE TAXON MORE, over rows: the enlarged list holds exactly the candidates whose fours that are looked at are all above zero; it is well-formed again;
-- and the full answer for k taxa grows to that for k + 1. Assumes nothing.
use Prim.Native.Nat.{ℕ, suc, ◌+◌, ◌%◌, ◌^◌, ◌≤◌, ◌<◌}
use native.Mathlib.Omega.{arith}
use native.Mathlib.Nat.{mod_self, le_refl}
use native.Mathlib.Decide.{dec_lt, ℕ_discrete}
use mathlib.Core.Path.{◌≡◌, refl, sym, ◌∙◌, ap, subst}
use mathlib.Core.Logic.{◌⊎◌, inl, inr, ◌↔◌}
use mathlib.Core.Bool.{Bool, true, false, cond}
use mathlib.Core.List.{List, [], ◌∷◌, ◌++◌, map}
use lib.Dec.{T, ltb, eqb, ltb→lt, lt→ltb}
use borrow.Author.Tests.{eq-eqb, ne_eqb, eqb-true, eqb-false}
use Rattle.statement.specs.Rows.{Row, row, clusters, weights, Ascending, Mem, Listed, weight_in}
use Rattle.statement.specs.Cluster.{Split}
use Rattle.statement.specs.Growing.{candidates, cons_if, kept, enlarged, Manner, grown_rows}
use Rattle.statement.proofs.Rule.{Rule, Laws, Weight, Trial, Kept, Parent, Value}
use Rattle.statement.proofs.Answer.{Clean, Full, Weighed, keep_if, extensions}
use Rattle.statement.proofs.Listed.{asc_mem, clean_split, mem_keep, mem_keep_of}
use Rattle.statement.proofs.Grow.{mod_cases}
use Rattle.statement.proofs.Weigh.{value_kept}
use Rattle.statement.proofs.Full.{candidate_of, extensions_up, weighed_grow, well_grow}

-- the clusters of the candidates
clusters_append : (xs ys : List Row) → clusters (xs ++ ys) ≡ clusters xs ++ clusters ys
clusters_append [] ys = refl
clusters_append (x ∷ xs) ys = ap (λ (l : List ℕ). x.cluster ∷ l) (clusters_append xs ys)

clusters_with : (b : ℕ) (rows : List Row) → clusters (map (λ r. row (b + r.cluster) r.weight) rows) ≡ map (λ c. b + c) (clusters rows)
clusters_with b [] = refl
clusters_with b (r ∷ rs) = ap (λ (l : List ℕ). (b + r.cluster) ∷ l) (clusters_with b rs)

pub candidate_clusters : (most k : ℕ) (rows : List Row) → clusters (candidates most k rows) ≡ extensions k (clusters rows)
candidate_clusters most k rows =
    clusters_append rows (row (2 ^ k) most ∷ map (λ r. row (2 ^ k + r.cluster) r.weight) rows)
    ∙ ap (λ (l : List ℕ). clusters rows ++ (2 ^ k ∷ l)) (clusters_with (2 ^ k) rows)

-- the weight that a candidate's trial starts from
weight_append : (xs ys : List Row) (c : ℕ) → (Listed c xs → ⊥) → weight_in (xs ++ ys) c ≡ weight_in ys c
weight_append [] ys c h = refl
weight_append (x ∷ xs) ys c h = rw (ne_eqb x.cluster c (λ e. h (inl (sym e)))) (weight_append xs ys c (λ m. h (inr m)))

weight_in_first : (xs ys : List Row) (c : ℕ) → Listed c xs → weight_in (xs ++ ys) c ≡ weight_in xs c
weight_in_first [] ys c m = elim m [ ]
weight_in_first (x ∷ xs) ys c m = go (eqb x.cluster c) refl m (λ n. weight_in_first xs ys c n)
  where
    go : (b : Bool) → eqb x.cluster c ≡ b → (c ≡ x.cluster) ⊎ Listed c xs → (Listed c xs → weight_in (xs ++ ys) c ≡ weight_in xs c)
        → cond b x.weight (weight_in (xs ++ ys) c) ≡ cond b x.weight (weight_in xs c)
    go true e m ih = refl
    go false e (inl q) ih = absurd (eqb-false x.cluster c e (sym q))
    go false e (inr n) ih = ih n

weight_with : (b : ℕ) (rows : List Row) (c : ℕ) → weight_in (map (λ r. row (b + r.cluster) r.weight) rows) (b + c) ≡ weight_in rows c
weight_with b [] c = refl
weight_with b (r ∷ rs) c = go (ℕ_discrete r.cluster c) (weight_with b rs c)
  where
    go : Dec (r.cluster ≡ c) → weight_in (map (λ r. row (b + r.cluster) r.weight) rs) (b + c) ≡ weight_in rs c
        → cond (eqb (b + r.cluster) (b + c)) r.weight (weight_in (map (λ r. row (b + r.cluster) r.weight) rs) (b + c))
        ≡ cond (eqb r.cluster c) r.weight (weight_in rs c)
    go (yes e) ih = rw (eq-eqb r.cluster c e, eq-eqb (b + r.cluster) (b + c) (omega arith))
    go (no e) ih = rw (ne_eqb r.cluster c e, ne_eqb (b + r.cluster) (b + c) (λ q. e (omega arith))) ih

module _ (most k : ℕ) (rows : List Row) (up : Ascending 1 (2 ^ k) (clusters rows)) where
  not_listed : (c : ℕ) → 2 ^ k ≤ c → Listed c rows → ⊥
  not_listed c l m = omega (arith, asc_mem 1 (2 ^ k) (clusters rows) up c m)

  -- the newcomer alone starts from the most that a split can weigh, any other from its parent's weight
  pub start_alone : weight_in (candidates most k rows) (2 ^ k) ≡ most
  start_alone =
      weight_append rows (row (2 ^ k) most ∷ map (λ r. row (2 ^ k + r.cluster) r.weight) rows) (2 ^ k) (not_listed (2 ^ k) (omega arith))
      ∙ rw (eq-eqb (2 ^ k) (2 ^ k) refl)

  start_old : (c : ℕ) → Mem c (extensions k (clusters rows)) → 0 < c % 2 ^ k → weight_in (candidates most k rows) c ≡ weight_in rows (c % 2 ^ k)
  start_old c m p = go (mod_cases k c of.0) of.1
    where
      of : (c < 2 ^ suc k) × ((c ≡ 2 ^ k) ⊎ Mem (c % 2 ^ k) (clusters rows))
      of = candidate_of k (clusters rows) up c m

      later : List Row
      later = row (2 ^ k) most ∷ map (λ r. row (2 ^ k + r.cluster) r.weight) rows

      with_newcomer : (a : ℕ) → 0 < a → weight_in (rows ++ later) (2 ^ k + a) ≡ weight_in rows a
      with_newcomer a pa =
          weight_append rows later (2 ^ k + a) (not_listed (2 ^ k + a) (omega arith))
          ∙ rw (ne_eqb (2 ^ k) (2 ^ k + a) (λ e. omega arith)) (weight_with (2 ^ k) rows a)

      go : (c % 2 ^ k ≡ c) ⊎ (2 ^ k + c % 2 ^ k ≡ c) → (c ≡ 2 ^ k) ⊎ Mem (c % 2 ^ k) (clusters rows) → weight_in (rows ++ later) c ≡ weight_in rows (c % 2 ^ k)
      go q (inl e) = absurd (omega (arith, ap (λ (a : ℕ). a % 2 ^ k) e, mod_self (2 ^ k)))
      go (inl e) (inr n) = weight_in_first rows later c (subst (λ (a : ℕ). Mem a (clusters rows)) e n) ∙ ap (weight_in rows) (sym e)
      go (inr e) (inr n) = ap (weight_in (rows ++ later)) (sym e) ∙ with_newcomer (c % 2 ^ k) p

-- WHAT IS KEPT, by the value of each cluster
keep_one : (ℕ → ℕ) → List ℕ → List Row
keep_one v cs = map (λ c. row c (v c)) (keep_if (λ c. ltb 0 (v c)) cs)

own_weight : (r : Row) (rs : List Row) → weight_in (r ∷ rs) r.cluster ≡ r.weight
own_weight r rs = rw (eq-eqb r.cluster r.cluster refl)

kept_is : (f : ℕ → ℕ → ℕ) (low high : ℕ) (all rows : List Row) → Ascending low high (clusters rows) → ((c : ℕ) → low ≤ c → weight_in all c ≡ weight_in rows c)
    → kept f rows ≡ keep_one (λ c. f c (weight_in all c)) (clusters rows)
unfolding kept keep_one keep_if
kept_is f low high all [] up same = refl
kept_is f low high all (r ∷ rs) up same =
    let own : weight_in all r.cluster ≡ r.weight = same r.cluster up.0 ∙ own_weight r rs in
    rw (← own)
    (go (ltb 0 (v r.cluster))
    (kept_is f (suc r.cluster) high all rs up.1 (λ c l. same c (omega (arith, up.0)) ∙ rw (ne_eqb r.cluster c (λ e. omega arith)))))
  where
    v : ℕ → ℕ
    v c = f c (weight_in all c)

    go : (s : Bool) → kept f rs ≡ keep_one v (clusters rs)
        → cons_if s (row r.cluster (v r.cluster)) (kept f rs)
        ≡ map (λ c. row c (v c)) (cond s (r.cluster ∷ keep_if (λ c. ltb 0 (v c)) (clusters rs)) (keep_if (λ c. ltb 0 (v c)) (clusters rs)))
    go true ih = ap (λ (l : List Row). row r.cluster (v r.cluster) ∷ l) ih
    go false ih = ih

clusters_keep_one : (v : ℕ → ℕ) (cs : List ℕ) → clusters (keep_one v cs) ≡ keep_if (λ c. ltb 0 (v c)) cs
unfolding keep_one
clusters_keep_one v cs = go (keep_if (λ c. ltb 0 (v c)) cs)
  where
    go : (xs : List ℕ) → clusters (map (λ c. row c (v c)) xs) ≡ xs
    go [] = refl
    go (x ∷ xs) = ap (λ (l : List ℕ). x ∷ l) (go xs)

weight_keep_one : (v : ℕ → ℕ) (cs : List ℕ) (c : ℕ) → Mem c (keep_if (λ c. ltb 0 (v c)) cs) → weight_in (keep_one v cs) c ≡ v c
unfolding keep_one
weight_keep_one v cs c = go (keep_if (λ c. ltb 0 (v c)) cs)
  where
    go : (xs : List ℕ) → Mem c xs → weight_in (map (λ c. row c (v c)) xs) c ≡ v c
    go [] m = elim m [ ]
    go (x ∷ xs) m = at (eqb x c) refl m (λ n. go xs n)
      where
        at : (b : Bool) → eqb x c ≡ b → (c ≡ x) ⊎ Mem c xs → (Mem c xs → weight_in (map (λ c. row c (v c)) xs) c ≡ v c) → cond b (v x) (weight_in (map (λ c. row c (v c)) xs) c) ≡ v c
        at true e m ih = ap v (eqb-true x c e)
        at false e (inl q) ih = absurd (eqb-false x c e (sym q))
        at false e (inr n) ih = ih n

-- the weights that are kept are values above zero of candidates
weights_keep_one : (v : ℕ → ℕ) (cs : List ℕ) (w : ℕ) → Mem w (weights (keep_one v cs)) → (c : ℕ) × Mem c cs × (0 < v c) × (w ≡ v c)
unfolding keep_one
weights_keep_one v cs w m =
    let (c, n, e) = go (keep_if (λ c. ltb 0 (v c)) cs) m in
    let p = mem_keep_of (λ c. ltb 0 (v c)) c cs n in
    (c, p.0, ltb→lt 0 (v c) p.1, e)
  where
    go : (xs : List ℕ) → Mem w (weights (map (λ c. row c (v c)) xs)) → (c : ℕ) × Mem c xs × (w ≡ v c)
    go [] x' = elim x' [ ]
    go (x ∷ xs) (inl e) = (x, inl refl, e)
    go (x ∷ xs) (inr n) = let (c, q, e) = go xs n in (c, inr q, e)

-- WHAT IS EXTENDED, of rows without conflict: the rows, and each split that is weighed anew, listed or not. Those start from the most that a split can
-- weigh, the others from their weight
pub record Extended (r : Rule) (most k : ℕ) (rows parents : List Row) : Type 0 where
  pub clean : Clean k (clusters parents)
  pub exact : (p : ℕ) → Listed p parents ↔ ((Split k p × T (r.anew k p)) ⊎ Listed p rows)
  pub anew : (p : ℕ) → Listed p parents → T (r.anew k p) → weight_in parents p ≡ most
  pub old : (p : ℕ) → Listed p parents → r.anew k p ≡ false → weight_in parents p ≡ weight_in rows p

-- WHAT A TRIAL ANSWERS, from the weight w: v
pub record Tried (r : Rule) (most k c w v : ℕ) : Type 0 where
  pub alone : c ≡ 2 ^ k → w ≡ most → Trial r k c most v
  pub old : Split k (c % 2 ^ k) → r.anew k (c % 2 ^ k) ≡ false → Trial r k c w v
  pub anew : Split k (c % 2 ^ k) → T (r.anew k (c % 2 ^ k)) → w ≡ most → Weight r (suc k) c v

-- A MANNER OF GROWTH that answers by a rule
pub record Sound (r : Rule) (g : Manner) : Type 0 where
  pub laws : Laws r
  pub caps : (k c : ℕ) → r.cap k c ≡ g.most
  pub extends : (k : ℕ) (rows : List Row) → Clean k (clusters rows) → Extended r g.most k rows (g.parents k rows)
  pub tries : (k c w : ℕ) → suc k ≤ r.taxa → 0 < k → Tried r g.most k c w (g.trial (suc k) k c w)

-- A RULE AS DOCUMENT 01 HAS THEM (nothing is weighed anew, one cap), and a trial that answers by it: the rows are extended as they are
pub record Plain (r : Rule) (most : ℕ) (trial : ℕ → ℕ → ℕ → ℕ → ℕ) : Type 0 where
  pub laws : Laws r
  pub never : (k p : ℕ) → r.anew k p ≡ false
  pub caps : (k c : ℕ) → r.cap k c ≡ most
  pub tries : (k c w : ℕ) → Trial r k c w (trial (suc k) k c w)

pub plain_sound : (r : Rule) (most : ℕ) (trial : ℕ → ℕ → ℕ → ℕ → ℕ) → Plain r most trial → Sound r (record { trial = trial; most = most; parents = λ k rows. rows })
plain_sound r most trial plain =
    record {
      laws = plain.laws;
      caps = plain.caps;
      extends = λ k rows w.
          record {
            clean = w;
            exact = λ p. ((λ m. inr m), (λ h. elim h [ inl s ↦ absurd (subst T (plain.never k p) s.1) | inr m ↦ m ]));
            anew = λ p m t. absurd (subst T (plain.never k p) t);
            old = λ p m e. refl;
          };
      tries = λ k c w fits pk.
          record {
            alone = λ e q. subst (λ (m : ℕ). Trial r k c m (trial (suc k) k c w)) q (plain.tries k c w);
            old = λ s e. plain.tries k c w;
            anew = λ s t q. absurd (subst T (plain.never k (c % 2 ^ k)) t);
          };
    }

-- the rows of a well-formed list, and of the full answer of a rule
pub record WellRows (most k : ℕ) (rows : List Row) : Type 0 where
  pub clean : Clean k (clusters rows)
  pub weigh : (w : ℕ) → Mem w (weights rows) → (1 ≤ w) × (w ≤ most)

abbrev pub FullRows : Rule → ℕ → List Row → Type 0
FullRows r k rows = Weighed r k (clusters rows) (weight_in rows)

pub weight_listed : (rows : List Row) (c : ℕ) → Listed c rows → Mem (weight_in rows c) (weights rows)
weight_listed [] c m = elim m [ ]
weight_listed (r ∷ rs) c m = go (eqb r.cluster c) refl m (λ n. weight_listed rs c n)
  where
    go : (b : Bool) → eqb r.cluster c ≡ b → (c ≡ r.cluster) ⊎ Listed c rs → (Listed c rs → Mem (weight_in rs c) (weights rs))
        → (cond b r.weight (weight_in rs c) ≡ r.weight) ⊎ Mem (cond b r.weight (weight_in rs c)) (weights rs)
    go true e m ih = inl refl
    go false e (inl q) ih = absurd (eqb-false r.cluster c e (sym q))
    go false e (inr n) ih = inr (ih n)

module _ (r : Rule) (g : Manner) (sound : Sound r g) (k : ℕ) (fits : suc k ≤ r.taxa) (pk : 0 < k) (rows : List Row) (clean : Clean k (clusters rows)) where
  -- what is extended
  given : List Row
  given = g.parents k rows

  extended : Extended r g.most k rows given
  unfolding given
  extended = sound.extends k rows clean

  up : Ascending 1 (2 ^ k) (clusters given)
  up = extended.clean.up

  -- what growth gives a candidate
  value : ℕ → ℕ
  value c = g.trial (suc k) k c (weight_in (candidates g.most k given) c)

  enlarged_is : grown_rows g k rows ≡ keep_one value (extensions k (clusters given))
  unfolding enlarged value given
  enlarged_is =
      kept_is (g.trial (suc k) k) 1 (2 ^ suc k) (candidates g.most k given) (candidates g.most k given)
      (subst (Ascending 1 (2 ^ suc k)) (sym (candidate_clusters g.most k given)) (extensions_up k (clusters given) up)) (λ c l. refl)
      ∙ ap (keep_one value) (candidate_clusters g.most k given)

  enlarged_clusters : clusters (grown_rows g k rows) ≡ keep_if (λ c. ltb 0 (value c)) (extensions k (clusters given))
  enlarged_clusters = ap clusters enlarged_is ∙ clusters_keep_one value (extensions k (clusters given))

  -- its weight in the enlarged list
  enlarged_weight : (c : ℕ) → Listed c (grown_rows g k rows) → weight_in (grown_rows g k rows) c ≡ value c
  enlarged_weight c m =
      ap (λ (l : List Row). weight_in l c) enlarged_is
      ∙ weight_keep_one value (extensions k (clusters given)) c (subst (Mem c) enlarged_clusters m)

  -- the newcomer by itself, or an extension of a split
  parent_split : (p : ℕ) → Listed p given → Split k p
  parent_split p m = clean_split k (clusters given) extended.clean p m

  -- A CANDIDATE: the newcomer by itself, or with its parent
  value_is : (c : ℕ) → Mem c (extensions k (clusters given)) → Value r k (weight_in rows) c (value c)
  unfolding value
  value_is c m =
      record {
        alone = λ e.
            subst (λ (w : ℕ). Trial r k c w (value c)) (sym (sound.caps (suc k) c))
            (tried.alone (only e) (ap (weight_in (candidates g.most k given)) (only e) ∙ start_alone g.most k given up));
        old = λ p e. subst (λ (w : ℕ). Trial r k c w (value c)) (start_old g.most k given up c m p ∙ extended.old (c % 2 ^ k) (parent p) e) (tried.old (parent_split (c % 2 ^ k) (parent p)) e);
        anew = λ p t. tried.anew (parent_split (c % 2 ^ k) (parent p)) t (start_old g.most k given up c m p ∙ extended.anew (c % 2 ^ k) (parent p) t);
      }
    where
      tried : Tried r g.most k c (weight_in (candidates g.most k given) c) (value c)
      tried = sound.tries k c (weight_in (candidates g.most k given) c) fits pk

      of : (c ≡ 2 ^ k) ⊎ Mem (c % 2 ^ k) (clusters given)
      of = (candidate_of k (clusters given) up c m).1

      only : c % 2 ^ k ≡ 0 → c ≡ 2 ^ k
      only e = elim of [ inl q ↦ q | inr n ↦ absurd (omega (arith, asc_mem 1 (2 ^ k) (clusters given) up (c % 2 ^ k) n)) ]

      parent : 0 < c % 2 ^ k → Listed (c % 2 ^ k) given
      parent p = elim of [ inl q ↦ absurd (omega (arith, ap (λ (a : ℕ). a % 2 ^ k) q, mod_self (2 ^ k))) | inr n ↦ n ]

  -- a value is above zero where every four that is looked at is
  value_above : ((c : ℕ) → Listed c rows → 0 < weight_in rows c) → (c : ℕ) → Mem c (extensions k (clusters given)) → (0 < value c) ↔ Kept r k c
  value_above positive c m = value_kept r sound.laws k c (value c) (weight_in rows) fits pk (value_is c m) (go (candidate_of k (clusters given) up c m).1)
    where
      go : (c ≡ 2 ^ k) ⊎ Mem (c % 2 ^ k) (clusters given) → (c ≡ 2 ^ k) ⊎ (Split k (c % 2 ^ k) × (r.anew k (c % 2 ^ k) ≡ false → 0 < weight_in rows (c % 2 ^ k)))
      go (inl e) = inl e
      go (inr n) = inr (parent_split (c % 2 ^ k) n, λ e. positive (c % 2 ^ k) (elim ((extended.exact (c % 2 ^ k)).0 n) [ inl s ↦ absurd (subst T e s.1) | inr l ↦ l ]))

  -- THE FIRST PROMISE. Of a well-formed list: listed are exactly the candidates whose fours with the newcomer all score above zero, and all fours of
  -- what is weighed anew
  pub enlarged_exact : ((c : ℕ) → Listed c rows → 0 < weight_in rows c) → (c : ℕ)
      → Listed c (grown_rows g k rows) ↔ (Mem c (extensions k (clusters (g.parents k rows))) × Kept r k c)
  unfolding given
  enlarged_exact positive c = (
    (λ m.
        let p = mem_keep_of (λ c. ltb 0 (value c)) c (extensions k (clusters given)) (subst (Mem c) enlarged_clusters m) in
        (p.0, (value_above positive c p.0).0 (ltb→lt 0 (value c) p.1))),
    (λ p. subst (Mem c) (sym enlarged_clusters)
        (mem_keep (λ c. ltb 0 (value c)) c (extensions k (clusters given)) p.0 (lt→ltb 0 (value c) ((value_above positive c p.0).1 p.1)))),
  )

  -- and each weighs its value
  pub enlarged_value : (c : ℕ) → Listed c (grown_rows g k rows) → Value r k (weight_in rows) c (weight_in (grown_rows g k rows) c)
  enlarged_value c m =
      subst (Value r k (weight_in rows) c) (sym (enlarged_weight c m))
      (value_is c (mem_keep_of (λ c. ltb 0 (value c)) c (extensions k (clusters given)) (subst (Mem c) enlarged_clusters m)).0)

  -- it is well-formed again
  pub enlarged_well : WellRows g.most k rows → WellRows g.most (suc k) (grown_rows g k rows)
  enlarged_well w =
      record {
        clean = subst (Clean (suc k)) (sym enlarged_clusters)
            (well_grow r sound.laws k fits pk (λ c. ltb 0 (value c)) (clusters given) (λ c m t. ((value_above positive c m).0 (ltb→lt 0 (value c) t)).new) extended.clean);
        weigh = λ x m.
            let (c, n, p, e) = weights_keep_one value (extensions k (clusters given)) x (subst (λ (l : List Row). Mem x (weights l)) enlarged_is m) in
            (omega arith, omega (arith, low c n p));
      }
    where
      positive : (c : ℕ) → Listed c rows → 0 < weight_in rows c
      positive c m = (w.weigh (weight_in rows c) (weight_listed rows c m)).0

      low : (c : ℕ) → Mem c (extensions k (clusters given)) → 0 < value c → value c ≤ g.most
      low c m p = go (dec_lt 0 (c % 2 ^ k)) (r.anew k (c % 2 ^ k)) refl
        where
          here : Value r k (weight_in rows) c (value c)
          here = value_is c m

          listed : 0 < c % 2 ^ k → r.anew k (c % 2 ^ k) ≡ false → Listed (c % 2 ^ k) rows
          listed q e =
              elim (candidate_of k (clusters given) up c m).1 [
                | inl z ↦ absurd (omega (arith, ap (λ (a : ℕ). a % 2 ^ k) z, mod_self (2 ^ k)))
                | inr n ↦ elim ((extended.exact (c % 2 ^ k)).0 n) [ inl s ↦ absurd (subst T e s.1) | inr l ↦ l ]
              ]

          go : Dec (0 < c % 2 ^ k) → (b : Bool) → r.anew k (c % 2 ^ k) ≡ b → value c ≤ g.most
          go (no q) b e = omega (arith, (((here.alone (omega arith)).least (value c) p).0 (le_refl (value c))).0, sound.caps (suc k) c)
          go (yes q) true e = omega (arith, (((here.anew q (subst T (sym e) tt)).least (value c) p).0 (le_refl (value c))).0, sound.caps (suc k) c)
          go (yes q) false e =
              omega (arith, (((here.old q e).least (value c) p).0 (le_refl (value c))).0, (w.weigh (weight_in rows (c % 2 ^ k)) (weight_listed rows (c % 2 ^ k) (listed q e))).1)

  -- THE SECOND PROMISE: from the full answer for k taxa to that for k + 1
  pub enlarged_full : FullRows r k rows → FullRows r (suc k) (grown_rows g k rows)
  enlarged_full f =
      let h = weighed_grow r sound.laws k fits pk (weight_in rows) value (clusters given) up parents
      (λ p m e. f.weights p (elim ((extended.exact p).0 m) [ inl s ↦ absurd (subst T e s.1) | inr l ↦ l ])) value_is in
      record {
        full = subst (Full r (suc k)) (sym enlarged_clusters) h.full;
        weights = λ c m. subst (Weight r (suc k) c) (sym (enlarged_weight c m)) (h.weights c (subst (Mem c) enlarged_clusters m));
      }
    where
      parents : (p : ℕ) → Mem p (clusters given) ↔ Parent r k p
      parents p = (
        (λ m. record {
          split = parent_split p m;
          held = elim ((extended.exact p).0 m) [ inl s ↦ inl s.1 | inr l ↦ inr ((f.full.exact p).0 l).fours ];
        }),
        (λ h. (extended.exact p).1 (elim h.held [ inl a ↦ inl (h.split, a) | inr q ↦ inr ((f.full.exact p).1 (record { split = h.split; fours = q })) ])),
      )
