-- Trivial splits put in among the rows of a list, as the loops do it. Assumes nothing.
use Prim.Native.Nat.{ℕ, zero, suc, ◌+◌, ◌-◌, ◌^◌, ◌≤◌, ◌<◌}
use native.Mathlib.Omega.{arith}
use native.Mathlib.Numerals.{add-one}
use native.Mathlib.Decide.{dec_lt, ℕ_discrete}
use mathlib.Core.Path.{◌≡◌, refl, sym, ◌∙◌, ap, ap₂, subst}
use mathlib.Core.Logic.{◌≢◌}
use mathlib.Core.Bool.{Bool, true, false, cond}
use mathlib.Core.List.{List, [], ◌∷◌, ◌++◌, append_assoc}
use lib.Dec.{ltb, eqb}
use lib.ListN.{length, drop, get_or, length-append}
use lib.Pow.{pow_mono}
use borrow.Author.Tests.{lt-ltb, le-ltb, eq-eqb, ne_eqb}
use Rattle.statement.specs.declared.Splits.{Splits}
use Rattle.statement.specs.Rows.{Row, row, rows_of, list_of}
use Rattle.statement.specs.Growing.{put_in, with_singles, with_trivial}
use Rattle.splits_list.specs.Pushed.{pushed, appended}
use Rattle.splits_list.proofs.Laws.{Roomy, rows_at, rows_end, appended_append, appended_rows, appended_list}
use Rattle.parents.specs.Merging.{first_of, trivial_at, Below, Passed, Put}

-- THE REST of a list pushed: what remains at row i
pub record Copying (s into t : Splits) (from i : ℕ) : Type 0 where
  pub low : i ≤ s.rows
  pub room : t.rows + length (drop i (rows_of s)) ≤ 125
  pub same : appended t (drop i (rows_of s)) ≡ appended into (drop from (rows_of s))

module _ (s into : Splits) (from : ℕ) where
  pub copying_from : from ≤ s.rows → into.rows + length (drop from (rows_of s)) ≤ 125 → Copying s into into from from
  copying_from l h = record { low = l; room = h; same = refl }

  module _ (t : Splits) (i : ℕ) (room : Roomy s) (inv : Copying s into t from i) where
    pub copying_room : i < s.rows → t.rows < 125
    copying_room l = omega (arith, inv.room, ap length (rows_at s room i l))

    pub copying_turn : i < s.rows → Copying s into (pushed t (get_or s.clusters i 0) (get_or s.weights i 0)) from (i + 1)
    copying_turn l =
        rw (add-one i) (record {
          low = omega arith;
          room = omega (arith, inv.room, ap length (rows_at s room i l));
          same = sym (ap (appended t) (rows_at s room i l)) ∙ inv.same;
        })

    pub copying_end : s.rows ≤ i → t ≡ appended into (drop from (rows_of s))
    copying_end l =
        let e : i ≡ s.rows = omega (arith, inv.low) in
        sym (ap (appended t) (ap (λ (m : ℕ). drop m (rows_of s)) e ∙ rows_end s room)) ∙ inv.same

-- PUT IN before a row, in its stead, or past it
module _ (c w x v : ℕ) (xs : List Row) where
  put_past : x < c → put_in (row c w) (row x v ∷ xs) ≡ row x v ∷ put_in (row c w) xs
  unfolding put_in
  put_past l = rw (le-ltb c x (omega arith), ne_eqb c x (λ e. omega arith))

  put_same : c ≡ x → put_in (row c w) (row x v ∷ xs) ≡ row c w ∷ xs
  unfolding put_in
  put_same e = rw (le-ltb c x (omega arith), eq-eqb c x e)

  put_before : c < x → put_in (row c w) (row x v ∷ xs) ≡ row c w ∷ (row x v ∷ xs)
  unfolding put_in
  put_before l = rw (lt-ltb c x l)

put_none : (r : Row) → put_in r [] ≡ r ∷ []
unfolding put_in
put_none r = refl

pub put_longer : (r : Row) (rows : List Row) → length rows ≤ length (put_in r rows)
unfolding put_in
put_longer r [] = omega arith
put_longer r (x ∷ xs) = go (ltb r.cluster x.cluster) (eqb r.cluster x.cluster) (put_longer r xs)
  where
    go : (b e : Bool) → length xs ≤ length (put_in r xs) → suc (length xs) ≤ length (cond b (r ∷ (x ∷ xs)) (cond e (r ∷ xs) (x ∷ put_in r xs)))
    go true e ih = omega arith
    go false true ih = omega arith
    go false false ih = omega arith

put_twice : (c w : ℕ) (rows : List Row) → put_in (row c w) (put_in (row c w) rows) ≡ put_in (row c w) rows
put_twice c w [] = ap (put_in (row c w)) (put_none (row c w)) ∙ put_same c w c w [] refl ∙ sym (put_none (row c w))
put_twice c w (x ∷ xs) = go (dec_lt x.cluster c) (ℕ_discrete c x.cluster) (put_twice c w xs)
  where
    go : Dec (x.cluster < c) → Dec (c ≡ x.cluster) → put_in (row c w) (put_in (row c w) xs) ≡ put_in (row c w) xs → put_in (row c w) (put_in (row c w) (x ∷ xs)) ≡ put_in (row c w) (x ∷ xs)
    go (yes l) _ ih =
        let e = put_past c w x.cluster x.weight xs l in
        ap (put_in (row c w)) e ∙ put_past c w x.cluster x.weight (put_in (row c w) xs) l
        ∙ ap (λ (rows : List Row). x ∷ rows) ih ∙ sym e
    go (no l) (yes q) ih = let e = put_same c w x.cluster x.weight xs q in ap (put_in (row c w)) e ∙ put_same c w c w xs refl ∙ sym e
    go (no l) (no q) ih =
        let e = put_before c w x.cluster x.weight xs (omega arith) in
        ap (put_in (row c w)) e ∙ put_same c w c w (x ∷ xs) refl ∙ sym e

-- behind rows of lower clusters
below_more : (c d : ℕ) (rows : List Row) → c ≤ d → Below c rows → Below d rows
unfolding Below
below_more c d [] l h = tt
below_more c d (r ∷ rs) l h = (omega (arith, h.0), below_more c d rs l h.1)

below_both : (c : ℕ) (xs ys : List Row) → Below c xs → Below c ys → Below c (xs ++ ys)
unfolding Below
below_both c [] ys h g = g
below_both c (x ∷ xs) ys h g = (h.0, below_both c xs ys h.1 g)

below_one : (c d w : ℕ) → d < c → Below c (row d w ∷ [])
unfolding Below
below_one c d w l = (l, tt)

below_none : (c : ℕ) → Below c []
unfolding Below
below_none c = tt

put_behind : (c w : ℕ) (xs ys : List Row) → Below c xs → put_in (row c w) (xs ++ ys) ≡ xs ++ put_in (row c w) ys
unfolding Below
put_behind c w [] ys h = refl
put_behind c w (x ∷ xs) ys h = put_past c w x.cluster x.weight (xs ++ ys) h.0 ∙ ap (λ (rows : List Row). x ∷ rows) (put_behind c w xs ys h.1)

-- ROWS PASSED, whose clusters are below c
module _ (old t : Splits) (c from : ℕ) where
  pub passed_none : from ≤ old.rows → Passed old t t c from from
  passed_none l = record { pre = []; is = refl; same = refl; below = below_none c; low = l }

  module _ (u : Splits) (at : ℕ) (room : Roomy old) (p : Passed old t u c from at) (l : at < old.rows) where
    pub passed_room : t.rows + length (drop from (rows_of old)) ≤ 125 → u.rows < 125
    passed_room h =
        omega (
          arith,
          ap (λ (s : Splits). s.rows) p.is,
          appended_rows t p.pre,
          ap length p.same,
          length-append p.pre (drop at (rows_of old)),
          ap length (rows_at old room at l),
        )

    pub passed_turn : get_or old.clusters at 0 < c → Passed old t (pushed u (get_or old.clusters at 0) (get_or old.weights at 0)) c from (at + 1)
    passed_turn h =
        let x = get_or old.clusters at 0 in
        let v = get_or old.weights at 0 in
        rw (add-one at) (record {
          pre = p.pre ++ (row x v ∷ []);
          is = ap (λ (s : Splits). pushed s x v) p.is ∙ sym (appended_append t p.pre (row x v ∷ []));
          same =
              append_assoc p.pre (row x v ∷ []) (drop (suc at) (rows_of old))
              ∙ ap (λ (rows : List Row). p.pre ++ rows) (sym (rows_at old room at l))
              ∙ p.same;
          below = below_both c p.pre (row x v ∷ []) p.below (below_one c x v h);
          low = omega arith;
        })

-- the next row, past one of the cluster c
pub record Past (old : Splits) (c at to : ℕ) : Type 0 where
  pub same : at < old.rows → get_or old.clusters at 0 ≡ c → to ≡ at + 1
  pub other : (at < old.rows → get_or old.clusters at 0 ≡ c → ⊥) → to ≡ at

-- ONE PUT IN where those below it are passed
module _ (old t u : Splits) (c w from at to : ℕ) (room : Roomy old) (p : Passed old t u c from at) (stop : at < old.rows → c ≤ get_or old.clusters at 0)
    (past : Past old c at to) where
  here : (row c w ∷ drop to (rows_of old) ≡ put_in (row c w) (drop at (rows_of old))) × (to ≤ old.rows)
  here = go (dec_lt at old.rows) (ℕ_discrete (get_or old.clusters at 0) c)
    where
      go : Dec (at < old.rows) → Dec (get_or old.clusters at 0 ≡ c) → (row c w ∷ drop to (rows_of old) ≡ put_in (row c w) (drop at (rows_of old))) × (to ≤ old.rows)
      go (no l) _ =
          let e : to ≡ at = past.other (λ h _. l h) in
          let none : drop at (rows_of old) ≡ [] = let f : at ≡ old.rows = omega (arith, p.low) in ap (λ (m : ℕ). drop m (rows_of old)) f ∙ rows_end old room in (
            ap (λ (m : ℕ). row c w ∷ drop m (rows_of old)) e ∙ ap (λ (rows : List Row). row c w ∷ rows) none
                ∙ sym (ap (put_in (row c w)) none ∙ put_none (row c w)),
            omega (arith, p.low),
          )
      go (yes l) (yes q) =
          let e : to ≡ at + 1 = past.same l q in (
            ap (λ (m : ℕ). row c w ∷ drop m (rows_of old)) (e ∙ add-one at)
                ∙ sym (ap (put_in (row c w)) (rows_at old room at l) ∙ put_same c w (get_or old.clusters at 0) _ _ (sym q)),
            omega arith,
          )
      go (yes l) (no q) =
          let e : to ≡ at = past.other (λ _ h. q h) in (
            ap (λ (m : ℕ). row c w ∷ drop m (rows_of old)) e
                ∙ sym (ap (put_in (row c w)) (rows_at old room at l) ∙ put_before c w (get_or old.clusters at 0) _ _ (omega (arith, stop l))
                ∙ ap (λ (rows : List Row). row c w ∷ rows) (sym (rows_at old room at l))),
            omega (arith, p.low),
          )

  pub put_here : Put old t (pushed u c w) c w from to
  put_here =
      record {
        pre = p.pre ++ (row c w ∷ []);
        is = ap (λ (s : Splits). pushed s c w) p.is ∙ sym (appended_append t p.pre (row c w ∷ []));
        same =
            append_assoc p.pre (row c w ∷ []) (drop to (rows_of old))
            ∙ ap (λ (rows : List Row). p.pre ++ rows) here.0
            ∙ sym (put_behind c w p.pre (drop at (rows_of old)) p.below)
            ∙ ap (put_in (row c w)) p.same;
        below = below_both (c + 1) p.pre (row c w ∷ []) (below_more c (c + 1) p.pre (omega arith) p.below) (below_one (c + 1) c w (omega arith));
        low = here.1;
      }

pub put_room : (old t u : Splits) (c w from at : ℕ) → Passed old t u c from at → t.rows + length (put_in (row c w) (drop from (rows_of old))) ≤ 125 → u.rows < 125
put_room old t u c w from at p h =
    omega (
      arith,
      ap (λ (s : Splits). s.rows) p.is,
      appended_rows t p.pre,
      ap length (sym (put_behind c w p.pre (drop at (rows_of old)) p.below) ∙ ap (put_in (row c w)) p.same),
      length-append p.pre (put_in (row c w) (drop at (rows_of old))),
      put_some (row c w) (drop at (rows_of old)),
    )
  where
    put_some : (r : Row) (rows : List Row) → 1 ≤ length (put_in r rows)
    put_some r [] = omega (arith, ap length (put_none r))
    put_some r (x ∷ xs) = omega (arith, put_longer r (x ∷ xs))

-- EVERY TRIVIAL SPLIT put in, one after the other: the rows with the first j of them
unfoldable pub filled_to : ℕ → ℕ → List Row → ℕ → List Row
filled_to most k rows zero = rows
filled_to most k rows (suc j) = put_in (row (trivial_at k (first_of k + j)) most) (filled_to most k rows j)

filled_next : (most k : ℕ) (rows : List Row) (j : ℕ) → filled_to most k rows (suc j) ≡ put_in (row (trivial_at k (first_of k + j)) most) (filled_to most k rows j)
unfolding filled_to
filled_next most k rows j = refl

filled_longer : (most k : ℕ) (rows : List Row) (f j m : ℕ) → f + j ≡ m → length (filled_to most k rows j) ≤ length (filled_to most k rows m)
filled_longer most k rows zero j m e = let q : j ≡ m = omega arith in omega (arith, ap (λ (i : ℕ). length (filled_to most k rows i)) q)
filled_longer most k rows (suc f) j m e =
    omega (
      arith,
      filled_longer most k rows f (suc j) m (omega arith),
      ap length (filled_next most k rows j),
      put_longer (row (trivial_at k (first_of k + j)) most) (filled_to most k rows j),
    )

pub trivial_low : (k i : ℕ) → i < k → trivial_at k i ≡ 2 ^ i
trivial_low k i l = rw (ne_eqb i k (λ e. omega arith))

pub trivial_top : (k i : ℕ) → i ≡ k → trivial_at k i ≡ 2 ^ k - 2
trivial_top k i e = rw (eq-eqb i k e)

pub first_two : (k : ℕ) → k ≡ 2 → first_of k ≡ 2
first_two k e = rw (eq-eqb k 2 e)

pub first_more : (k : ℕ) → k ≢ 2 → first_of k ≡ 1
first_more k e = rw (ne_eqb k 2 e)

pub first_low : (k : ℕ) → 2 ≤ k → (1 ≤ first_of k) × (first_of k ≤ k)
first_low k two = go (ℕ_discrete k 2)
  where
    go : Dec (k ≡ 2) → (1 ≤ first_of k) × (first_of k ≤ k)
    go (yes e) = (omega (arith, first_two k e), omega (arith, first_two k e))
    go (no e) = (omega (arith, first_more k e), omega (arith, first_more k e))

filled_singles : (most k : ℕ) (rows : List Row) → k ≢ 2 → (j : ℕ) → j < k → filled_to most k rows j ≡ with_singles most (suc j) rows
unfolding filled_to with_singles
filled_singles most k rows ne zero l = refl
filled_singles most k rows ne (suc j) l =
    let e : trivial_at k (first_of k + j) ≡ 2 ^ suc j =
    ap (λ (f : ℕ). trivial_at k (f + j)) (first_more k ne) ∙ ap (trivial_at k) (let q : 1 + j ≡ suc j = omega arith in q) ∙ trivial_low k (suc j) l in
    ap₂ (λ (c : ℕ) (rs : List Row). put_in (row c most) rs) e (filled_singles most k rows ne j (omega arith))

trivial_last : (most k : ℕ) (rows : List Row) → 2 ≤ k → with_trivial most k rows ≡ put_in (row (2 ^ k - 2) most) (with_singles most k rows)
unfolding with_trivial
trivial_last most zero rows l = absurd (omega arith)
trivial_last most (suc zero) rows l = absurd (omega arith)
trivial_last most (suc (suc k)) rows l = refl

two_singles : (most : ℕ) (rows : List Row) → with_singles most 2 rows ≡ put_in (row 2 most) rows
unfolding with_singles
two_singles most rows = refl

pub filled_none : (most k : ℕ) (rows : List Row) → filled_to most k rows 0 ≡ rows
unfolding filled_to
filled_none most k rows = refl

-- all of them
pub filled_all : (most k : ℕ) (rows : List Row) → 2 ≤ k → filled_to most k rows (k + 1 - first_of k) ≡ with_trivial most k rows
filled_all most k rows two = go (ℕ_discrete k 2)
  where
    go : Dec (k ≡ 2) → filled_to most k rows (k + 1 - first_of k) ≡ with_trivial most k rows
    go (yes e) =
        let j : k + 1 - first_of k ≡ 1 = omega (arith, first_two k e) in
        let c : trivial_at k (first_of k + 0) ≡ 2 = trivial_top k (first_of k + 0) (omega (arith, first_two k e)) ∙ ap (λ (m : ℕ). 2 ^ m - 2) e in
        ap (filled_to most k rows) j ∙ filled_next most k rows 0
        ∙ ap₂ (λ (b : ℕ) (rs : List Row). put_in (row b most) rs) c (filled_none most k rows)
        ∙ sym (trivial_last most k rows two ∙ ap (λ (m : ℕ). put_in (row (2 ^ m - 2) most) (with_singles most m rows)) e
        ∙ ap (put_in (row 2 most)) (two_singles most rows) ∙ put_twice 2 most rows)
    go (no e) =
        let j : k + 1 - first_of k ≡ suc (k - 1) = omega (arith, first_more k e) in
        let c : trivial_at k (first_of k + (k - 1)) ≡ 2 ^ k - 2 = trivial_top k (first_of k + (k - 1)) (omega (arith, first_more k e)) in
        ap (filled_to most k rows) j ∙ filled_next most k rows (k - 1)
        ∙ ap₂ (λ (b : ℕ) (rs : List Row). put_in (row b most) rs) c
        (filled_singles most k rows e (k - 1) (omega arith) ∙ ap (λ (m : ℕ). with_singles most m rows) (let q : suc (k - 1) ≡ k = omega arith in q))
        ∙ sym (trivial_last most k rows two)

-- their clusters ascend
trivial_up : (k i : ℕ) → 2 ≤ k → first_of k ≤ i → i < k → trivial_at k i + 1 ≤ trivial_at k (i + 1)
trivial_up k i two f l = go (ℕ_discrete k 2) (ℕ_discrete (i + 1) k)
  where
    big : 3 ≤ k → i + 1 ≡ k → 2 ^ i + 1 ≤ 2 ^ k - 2
    big three e =
        let q : 2 ^ k ≡ 2 ^ suc i = ap (λ (m : ℕ). 2 ^ m) (omega arith) in
        omega (arith, q, pow_mono {i = 2} {j = i} (omega arith))

    go : Dec (k ≡ 2) → Dec (i + 1 ≡ k) → trivial_at k i + 1 ≤ trivial_at k (i + 1)
    go (yes e) _ = absurd (omega (arith, first_two k e))
    go (no e) (yes q) = omega (arith, trivial_low k i l, trivial_top k (i + 1) q, big (omega arith) q)
    go (no e) (no q) =
        omega (arith, trivial_low k i l, trivial_low k (i + 1) (omega arith), ap (λ (m : ℕ). 2 ^ m) (add-one i), pow_mono {i = 0} {j = i} (omega arith))

-- THE MERGE at the trivial split numbered i
pub record Merging (most k : ℕ) (old t : Splits) (at i : ℕ) : Type 0 where
  pub pre : List Row
  pub is : t ≡ list_of k pre
  pub same : pre ++ drop at (rows_of old) ≡ filled_to most k (rows_of old) (i - first_of k)
  pub below : i ≤ k → Below (trivial_at k i) pre
  pub low : at ≤ old.rows
  pub from : first_of k ≤ i
  pub to : i ≤ k + 1

module _ (most k : ℕ) (two : 2 ≤ k) (old : Splits) (room : length (with_trivial most k (rows_of old)) ≤ 125) where
  enough : (j : ℕ) → j ≤ k + 1 - first_of k → length (filled_to most k (rows_of old) j) ≤ 125
  enough j l =
      omega (
        arith,
        filled_longer most k (rows_of old) (k + 1 - first_of k - j) j (k + 1 - first_of k) (omega arith),
        ap length (filled_all most k (rows_of old) two),
      )

  pub merging_from : (t : Splits) (i : ℕ) → t ≡ list_of k [] → i ≡ first_of k → Merging most k old t 0 i
  merging_from t i is e =
      record {
        pre = [];
        is = is;
        same = sym (ap (filled_to most k (rows_of old)) (let q : i - first_of k ≡ 0 = omega arith in q) ∙ filled_none most k (rows_of old));
        below = λ _. below_none (trivial_at k i);
        low = omega arith;
        from = omega arith;
        to = omega (arith, (first_low k two).1);
      }

  module _ (t : Splits) (at i : ℕ) (m : Merging most k old t at i) where
    rows_is : t.rows ≡ length m.pre
    unfolding list_of
    rows_is = ap (λ (s : Splits). s.rows) m.is

    module _ (l : i ≤ k) where
      next : m.pre ++ put_in (row (trivial_at k i) most) (drop at (rows_of old)) ≡ filled_to most k (rows_of old) (suc (i - first_of k))
      next =
          sym (put_behind (trivial_at k i) most m.pre (drop at (rows_of old)) (m.below l))
          ∙ ap₂ (λ (c : ℕ) (rs : List Row). put_in (row c most) rs)
          (ap (trivial_at k) (let q : i ≡ first_of k + (i - first_of k) = omega (arith, m.from) in q)) m.same
          ∙ sym (filled_next most k (rows_of old) (i - first_of k))

      size : length m.pre + length (put_in (row (trivial_at k i) most) (drop at (rows_of old))) ≤ 125
      size =
          omega (
            arith,
            enough (suc (i - first_of k)) (omega (arith, m.from)),
            ap length next,
            length-append m.pre (put_in (row (trivial_at k i) most) (drop at (rows_of old))),
          )

      pub merging_room : (b : ℕ) → b ≡ trivial_at k i → t.rows + length (put_in (row b most) (drop at (rows_of old))) ≤ 125
      merging_room b e = omega (arith, rows_is, size, ap (λ (c : ℕ). length (put_in (row c most) (drop at (rows_of old)))) e)

      with_it : (u : Splits) (to : ℕ) → Put old t u (trivial_at k i) most at to → Merging most k old u to (i + 1)
      with_it u to p =
          let parts = append_assoc m.pre p.pre (drop to (rows_of old)) ∙ ap (λ (rs : List Row). m.pre ++ rs) p.same in
          record {
            pre = m.pre ++ p.pre;
            is =
                p.is ∙ ap (λ (s : Splits). appended s p.pre) m.is
                ∙ appended_list k m.pre p.pre
                (omega (arith, size, ap length p.same, length-append p.pre (drop to (rows_of old))));
            same = parts ∙ next ∙ ap (filled_to most k (rows_of old)) (let q : suc (i - first_of k) ≡ i + 1 - first_of k = omega (arith, m.from) in q);
            below = λ h.
                below_more (trivial_at k i + 1) (trivial_at k (i + 1)) (m.pre ++ p.pre) (trivial_up k i two m.from (omega arith))
                (below_both (trivial_at k i + 1) m.pre p.pre (below_more (trivial_at k i) (trivial_at k i + 1) m.pre (omega arith) (m.below l)) p.below);
            low = p.low;
            from = omega (arith, m.from);
            to = omega arith;
          }

      pub merging_turn : (b : ℕ) → b ≡ trivial_at k i → (u : Splits) (to : ℕ) → Put old t u b most at to → Merging most k old u to (i + 1)
      merging_turn b e u to q = with_it u to (subst (λ (c : ℕ). Put old t u c most at to) e q)

    module _ (l : k < i) where
      whole : m.pre ++ drop at (rows_of old) ≡ with_trivial most k (rows_of old)
      whole =
          m.same ∙ ap (filled_to most k (rows_of old)) (let q : i - first_of k ≡ k + 1 - first_of k = omega (arith, m.to) in q)
          ∙ filled_all most k (rows_of old) two

      pub rest_room : t.rows + length (drop at (rows_of old)) ≤ 125
      rest_room = omega (arith, rows_is, room, ap length whole, length-append m.pre (drop at (rows_of old)))

      pub rest_is : (u : Splits) → u ≡ appended t (drop at (rows_of old)) → u ≡ list_of k (with_trivial most k (rows_of old))
      rest_is u e =
          e ∙ ap (λ (s : Splits). appended s (drop at (rows_of old))) m.is
          ∙ appended_list k m.pre (drop at (rows_of old)) (omega (arith, rows_is, rest_room)) ∙ ap (list_of k) whole

-- one taxon has no trivial split
pub none_filled : (most k : ℕ) (s t : Splits) → k < 2 → s.rows ≡ 0 → t ≡ list_of k [] → t ≡ list_of k (with_trivial most k (rows_of s))
unfolding with_trivial rows_of
none_filled most zero s t l e q = q ∙ ap (list_of 0) (sym (rw e))
none_filled most (suc zero) s t l e q = q ∙ ap (list_of 1) (sym (rw e))
none_filled most (suc (suc k)) s t l e q = absurd (omega arith)
