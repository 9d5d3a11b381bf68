-- A list passes the test exactly where it is well-formed, in document 01's words ("Growing and the allowance"): first the list's columns, then what
-- each test says, of a conflict, of a row and of the whole. Assumes nothing.
use Prim.Native.Nat.{ℕ, suc, ◌*◌, ◌-◌, ◌^◌, ◌≤◌, ◌<◌}
use native.Mathlib.Omega.{arith}
use native.Mathlib.Decide.{dec_lt}
use mathlib.Core.Path.{◌≡◌, refl, sym, ◌∙◌, ap, subst}
use mathlib.Core.Logic.Iff
use mathlib.Core.Logic.{inl, inr, ◌↔◌}
use mathlib.Core.Bool.{true, false, not, ◌&&◌, ◌||◌}
use mathlib.Core.List.{List, [], ◌∷◌}
use lib.Dec.{ltb, leb, eqb}
use lib.ListN.{length, take, get_or, length-map}
use lib.Seq.{length-take-le, get_or-take}
use lib.Pow.{pow_pos}
use borrow.Author.Tests.{leb-false, lt-leb, not-true}
use Rattle.statement.specs.declared.Splits.{Splits}
use Rattle.statement.specs.Cluster.{bit, Split, Conflict}
use Rattle.statement.specs.Lowest.{somewhere, nowhere}
use Rattle.statement.specs.Rows.{Listed, clusters, weights, rows_from, rows_of, Mem, Ascending, meets, conflicts, fits, clashes, bad_row, well_formed, WellFormed}
use Rattle.statement.proofs.Lowest.{some_at, some_of}
use Rattle.statement.proofs.Tests.{less_is, most_is, same_is, both_is, neither_is, not_is, fails_is, none_is}
use Rattle.statement.proofs.Listed.{asc_mem, asc_get_d, mem_get_d}

-- A LIST'S COLUMNS. xs is the front of ys, m places long
pub record Front (m : ℕ) (xs ys : List ℕ) : Type 0 where
  pub long : length xs ≡ m
  pub at : (i : ℕ) → i < m → get_or xs i 0 ≡ get_or ys i 0

front_take : (m : ℕ) (xs ys : List ℕ) → m ≤ length ys → xs ≡ take m ys → Front m xs ys
front_take m xs ys h e = record { long = ap length e ∙ length-take-le m ys h; at = λ i l. ap (λ (zs : List ℕ). get_or zs i 0) e ∙ get_or-take m ys i 0 l }

zip_columns : (xs ys : List ℕ) → length xs ≡ length ys → (clusters (rows_from xs ys) ≡ xs) × (weights (rows_from xs ys) ≡ ys)
zip_columns [] [] h = (refl, refl)
zip_columns [] (y ∷ ys) h = absurd (omega arith)
zip_columns (x ∷ xs) [] h = absurd (omega arith)
zip_columns (x ∷ xs) (y ∷ ys) h =
    let (a, b) = zip_columns xs ys (omega arith) in (ap (λ (l : List ℕ). x ∷ l) a, ap (λ (l : List ℕ). y ∷ l) b)

-- a list whose used rows lie within its fixed room
pub record Roomy (s : Splits) : Type 0 where
  pub clusters : length s.clusters ≡ 125
  pub weights : length s.weights ≡ 125
  pub rows : s.rows ≤ 125

module _ (s : Splits) (room : Roomy s) where
  within : (xs : List ℕ) → length xs ≡ 125 → s.rows ≤ length xs
  within xs e = omega (arith, room.rows)

  columns : (clusters (rows_of s) ≡ take s.rows s.clusters) × (weights (rows_of s) ≡ take s.rows s.weights)
  unfolding rows_of
  columns =
      zip_columns (take s.rows s.clusters) (take s.rows s.weights)
      (length-take-le s.rows s.clusters (within s.clusters room.clusters)
      ∙ sym (length-take-le s.rows s.weights (within s.weights room.weights)))

  -- the rows hold the fronts of the two arrays, and are as many as the list says
  pub clusters_front : Front s.rows (clusters (rows_of s)) s.clusters
  clusters_front = front_take s.rows (clusters (rows_of s)) s.clusters (within s.clusters room.clusters) columns.0

  pub weights_front : Front s.rows (weights (rows_of s)) s.weights
  weights_front = front_take s.rows (weights (rows_of s)) s.weights (within s.weights room.weights) columns.1

  pub rows_length : length (rows_of s) ≡ s.rows
  rows_length = sym (length-map (rows_of s) (λ r. r.cluster)) ∙ clusters_front.long

-- CONFLICT, as a test
meets_is : (k a p b q : ℕ) → (meets k a p b q ≡ true) ↔ ((i : ℕ) × (i < k) × (bit a i ≡ p) × (bit b i ≡ q))
meets_is k a p b q = (there, back)
  where
    there : meets k a p b q ≡ true → (i : ℕ) × (i < k) × (bit a i ≡ p) × (bit b i ≡ q)
    there e =
        let (i, l, t) = some_of (λ i. eqb (bit a i) p && eqb (bit b i) q) k e in
        let (x, y) = (both_is (same_is (bit a i) p) (same_is (bit b i) q)).0 t in
        (i, l, x, y)

    back : ((i : ℕ) × (i < k) × (bit a i ≡ p) × (bit b i ≡ q)) → meets k a p b q ≡ true
    back (i, l, x, y) =
        some_at (λ i. eqb (bit a i) p && eqb (bit b i) q) k i l ((both_is (same_is (bit a i) p) (same_is (bit b i) q)).1 (x, y))

pub conflicts_is : (k a b : ℕ) → (conflicts k a b ≡ true) ↔ Conflict k a b
unfolding conflicts
conflicts_is k a b =
    let all = both_is (both_is (both_is (meets_is k a 1 b 1) (meets_is k a 1 b 0)) (meets_is k a 0 b 1)) (meets_is k a 0 b 0) in
    (λ e. let (((x, y), z), w) = all.0 e in record { ii = x; io = y; oi = z; oo = w }, λ h. all.1 (((h.ii, h.io), h.oi), h.oo))

-- A ROW BY ITSELF: a split, of a weight from 1 to most
pub record Fit (most k c w : ℕ) : Type 0 where
  pub split : Split k c
  pub low : 1 ≤ w
  pub high : w ≤ most

pub fit_is : (most k c w : ℕ) → (ltb 0 c && ltb c (2 ^ k) && eqb (bit c 0) 0 && ltb 0 w && leb w most ≡ true) ↔ Fit most k c w
fit_is most k c w =
    let all = both_is (both_is (both_is (both_is (less_is 0 c) (less_is c (2 ^ k))) (same_is (bit c 0) 0)) (less_is 0 w)) (most_is w most) in (
      λ e. let ((((x, y), z), v), m) = all.0 e in record { split = record { some = x; below = y; free = z }; low = v; high = m },
      λ h. all.1 ((((h.split.some, h.split.below), h.split.free), h.low), h.high),
    )

-- BESIDE A ROW BEFORE IT, of the cluster b: above it, and without conflict
pub record Beside (k b c : ℕ) : Type 0 where
  pub above : b < c
  pub clean : Conflict k b c → ⊥

pub beside_is : (k b c : ℕ) → (leb c b || conflicts k b c ≡ false) ↔ Beside k b c
beside_is k b c =
    let all = neither_is (leb-false c b, lt-leb c b) (fails_is (conflicts_is k b c)) in
    (λ e. record { above = (all.0 e).0; clean = (all.0 e).1 }, λ h. all.1 (h.above, h.clean))

pub record GoodRow (most : ℕ) (s : Splits) (i : ℕ) : Type 0 where
  pub fit : Fit most s.taxa (get_or s.clusters i 0) (get_or s.weights i 0)
  pub beside : (j : ℕ) → j < i → Beside s.taxa (get_or s.clusters j 0) (get_or s.clusters i 0)

pub row_is : (most : ℕ) (s : Splits) (i : ℕ) → (bad_row most s i ≡ false) ↔ GoodRow most s i
unfolding bad_row fits clashes
row_is most s i =
    let c = get_or s.clusters i 0 in
    let all = neither_is (not_is (fit_is most s.taxa c (get_or s.weights i 0)))
    (none_is (λ j. leb c (get_or s.clusters j 0) || conflicts s.taxa (get_or s.clusters j 0) c) i (λ j. beside_is s.taxa (get_or s.clusters j 0) c)) in
    (λ e. record { fit = (all.0 e).0; beside = (all.0 e).1 }, λ h. all.1 (h.fit, h.beside))

-- ASCENDING, place by place
asc_of : (low high : ℕ) (xs : List ℕ) → low ≤ high → ((i : ℕ) → i < length xs → (low ≤ get_or xs i 0) × (get_or xs i 0 < high))
    → ((i j : ℕ) → i < j → j < length xs → get_or xs i 0 < get_or xs j 0) → Ascending low high xs
asc_of low high [] h f g = h
asc_of low high (x ∷ xs) h f g = (
  (f 0 (omega arith)).0,
  asc_of (suc x) high xs (f 0 (omega arith)).1 (λ i l. (g 0 (suc i) (omega arith) (omega arith), (f (suc i) (omega arith)).1))
      (λ i j b l. g (suc i) (suc j) (omega arith) (omega arith)),
)

-- MEMBERS BY THEIR PLACES, of a front xs of ys
module _ {m : ℕ} {xs ys : List ℕ} (front : Front m xs ys) where
  member_at : (c : ℕ) → Mem c xs → (i : ℕ) × (i < m) × (c ≡ get_or ys i 0)
  member_at c h =
      let (i, l, e) = mem_at xs h in
      let b : i < m = omega (arith, front.long) in
      (i, b, e ∙ front.at i b)
    where
      mem_at : (zs : List ℕ) → Mem c zs → (i : ℕ) × (i < length zs) × (c ≡ get_or zs i 0)
      mem_at [] x' = elim x' [ ]
      mem_at (z ∷ zs) (inl e) = (0, omega arith, e)
      mem_at (z ∷ zs) (inr h) = let (i, l, e) = mem_at zs h in (suc i, omega arith, e)

  member_of : (i : ℕ) → i < m → Mem (get_or ys i 0) xs
  member_of i l = subst (λ (c : ℕ). Mem c xs) (front.at i l) (mem_get_d xs i (omega (arith, front.long)))

  ascending_of : (low high : ℕ) → low ≤ high → ((i : ℕ) → i < m → (low ≤ get_or ys i 0) × (get_or ys i 0 < high))
      → ((i j : ℕ) → i < j → j < m → get_or ys i 0 < get_or ys j 0) → Ascending low high xs
  ascending_of low high h f g =
      asc_of low high xs h
      (λ i l. let b : i < m = omega (arith, front.long) in subst (λ (c : ℕ). (low ≤ c) × (c < high)) (sym (front.at i b)) (f i b))
      (λ i j b l. omega (arith, g i j b (omega (arith, front.long)), front.at i (omega (arith, front.long)), front.at j (omega (arith, front.long))))

  ascending_at : (low high : ℕ) → Ascending low high xs → (i j : ℕ) → i < j → j < m → get_or ys i 0 < get_or ys j 0
  ascending_at low high h i j p l =
      omega (arith, asc_get_d low high xs h i j p (omega (arith, front.long)), front.at i (omega arith), front.at j l)

-- two rows without conflict: one is before the other, or they are one
conflict_turned : (k a b : ℕ) → Conflict k a b → Conflict k b a
conflict_turned k a b h =
    let (i, li, ai, bi) = h.ii in
    let (j, lj, aj, bj) = h.io in
    let (l, ll, al, bl) = h.oi in
    let (m, lm, am, bm) = h.oo in
    record { ii = (i, li, bi, ai); io = (l, ll, bl, al); oi = (j, lj, bj, aj); oo = (m, lm, bm, am) }

clean_pairs : (k : ℕ) (f : ℕ → ℕ) (i j : ℕ) → (i < j → Conflict k (f i) (f j) → ⊥) → (j < i → Conflict k (f j) (f i) → ⊥) → Conflict k (f i) (f j) → ⊥
clean_pairs k f i j before after h = go (dec_lt i j) (dec_lt j i)
  where
    go : Dec (i < j) → Dec (j < i) → ⊥
    go (yes l) d = before l h
    go (no l) (yes g) = after g (conflict_turned k (f i) (f j) h)
    go (no l) (no g) = let e : i ≡ j = omega arith in let (t, b, x, y) = h.io in omega (arith, x, y, ap (λ (z : ℕ). bit (f z) t) e)

-- THE WHOLE: the rows are good, each by itself and beside those before it, exactly where the list is as document 01 says
module _ (most n : ℕ) (s : Splits) (room : Roomy s) where
  listed_at : (c : ℕ) → Listed c (rows_of s) → (i : ℕ) × (i < s.rows) × (c ≡ get_or s.clusters i 0)
  listed_at = member_at (clusters_front s room)

  listed_of : (i : ℕ) → i < s.rows → Listed (get_or s.clusters i 0) (rows_of s)
  listed_of = member_of (clusters_front s room)

  rows_good : ((i : ℕ) → i < s.rows → GoodRow most s i) → 1 ≤ s.taxa → s.taxa ≤ n → s.rows ≤ 2 * s.taxa - 3 → WellFormed most n s
  rows_good good one taxa few = record {
    one = one;
    taxa = taxa;
    few = few;
    up = ascending_of (clusters_front s room) 1 (2 ^ s.taxa) (pow_pos s.taxa)
        (λ i l. ((good i l).fit.split.some, (good i l).fit.split.below)) (λ i j b l. ((good j l).beside i b).above);
    free = λ c m. let (i, l, e) = listed_at c m in ap (λ (x : ℕ). bit x 0) e ∙ (good i l).fit.split.free;
    weigh = λ w m. let (i, l, e) = member_at (weights_front s room) w m in
        (omega (arith, e, (good i l).fit.low), omega (arith, e, (good i l).fit.high));
    clean = λ a b ma mb h. let (i, li, ea) = listed_at a ma in let (j, lj, eb) = listed_at b mb in
        clean_pairs s.taxa (λ x. get_or s.clusters x 0) i j (λ l. ((good j lj).beside i l).clean) (λ l. ((good i li).beside j l).clean)
        (subst (λ (x : ℕ). Conflict s.taxa x (get_or s.clusters j 0)) ea (subst (λ (x : ℕ). Conflict s.taxa a x) eb h));
  }

  good_rows : WellFormed most n s → (i : ℕ) → i < s.rows → GoodRow most s i
  good_rows w i l =
      let (low, high) = asc_mem 1 (2 ^ s.taxa) (clusters (rows_of s)) w.up (get_or s.clusters i 0) (listed_of i l) in
      let (light, heavy) = w.weigh (get_or s.weights i 0) (member_of (weights_front s room) i l) in
      record {
        fit = record { split = record { some = low; below = high; free = w.free (get_or s.clusters i 0) (listed_of i l) }; low = light; high = heavy };
        beside = λ j b. record {
          above = ascending_at (clusters_front s room) 1 (2 ^ s.taxa) w.up j i b l;
          clean = w.clean (get_or s.clusters j 0) (get_or s.clusters i 0) (listed_of j (omega arith)) (listed_of i l);
        };
      }

pub well_formed_is : (most n : ℕ) (s : Splits) → length s.clusters ≡ 125 → length s.weights ≡ 125 → n ≤ 64 → (well_formed most n s ≡ true) ↔ WellFormed most n s
unfolding well_formed
well_formed_is most n s hc hw hn =
    let good : (nowhere (bad_row most s) s.rows ≡ true) ↔ ((i : ℕ) → i < s.rows → GoodRow most s i) =
    Iff.trans (not-true (somewhere (bad_row most s) s.rows), ap not) (none_is (bad_row most s) s.rows (row_is most s)) in
    let all = both_is (both_is (both_is (most_is 1 s.taxa) (most_is s.taxa n)) (most_is s.rows (2 * s.taxa - 3))) good in
    let room : s.taxa ≤ n → s.rows ≤ 2 * s.taxa - 3 → Roomy s = λ t f. record { clusters = hc; weights = hw; rows = omega arith } in (
      λ e. let (((o, t), f), g) = all.0 e in rows_good most n s (room t f) g o t f,
      λ w. all.1 (((w.one, w.taxa), w.few), good_rows most n s (room w.taxa w.few) w),
    )
