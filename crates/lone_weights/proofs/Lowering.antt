-- Kept weights, a turn of each loop: a row, the newcomer by itself, and the weights with the newcomer taken in. Assumes nothing.
use Prim.Native.Nat.{ℕ, ◌+◌, ◌-◌, ◌≤◌, ◌<◌, min}
use native.Mathlib.Nat.{le_refl}
use native.Mathlib.Omega.{arith}
use native.Mathlib.Decide.{dec_lt, ℕ_discrete}
use mathlib.Core.Path.{◌≡◌, sym, ◌∙◌, subst}
use mathlib.Core.Logic.{◌≢◌}
use mathlib.Core.List.{List}
use lib.ListN.{length, get_or, set}
use lib.Seq.{get_or-set_other}
use lib.IntN.{pos, sub_ℕ}
use lib.Signed.{◌≤ℤ◌}
use Rattle.statement.specs.Matrix.{distance, AcceptedMatrix, score, weight_limit}
use Rattle.statement.specs.Growing.{above}
use Rattle.statement.proofs.Matrix.{to_score, of_score}
use Rattle.bits.proofs.Stored.{stored}
use Rattle.matrix.proofs.Signs.{lowered_at}
use Rattle.lone_weights.specs.Lone.{Scores, Lone, Kept}
use Rattle.lone_weights.specs.Lowering.{Term, Row, Beside, Lowered, Begun}

-- A ROW
pub row_turn : (d : ℕ → ℕ → ℕ) (v z y : ℕ) {low p next : ℕ} → Row d v z y low → Term d v z y p → next ≡ min low p → Row d v z (y + 1) next
row_turn d v z y {low} {p} {next} r term en = record { least = λ s. (there s, back s) }
  where
    there : (s : ℕ) → s ≤ next → (s ≤ 3000000) × ((i : ℕ) → i < y + 1 → i ≢ v → s + d z i ≤ d v i + 1000000)
    there s h = let q = (r.least s).0 (omega arith) in (q.0, λ i l ne. at i l ne (dec_lt i y) q.1)
      where
        at : (i : ℕ) → i < y + 1 → i ≢ v → Dec (i < y) → ((i : ℕ) → i < y → i ≢ v → s + d z i ≤ d v i + 1000000) → s + d z i ≤ d v i + 1000000
        at i l ne (yes m) f = f i m ne
        at i l ne (no m) f =
            let same : y ≡ i = omega arith in
            subst (λ (j : ℕ). s + d z j ≤ d v j + 1000000) same (omega (arith, en, h, term.on (λ e. ne (sym same ∙ e))))

    back : (s : ℕ) → (s ≤ 3000000) × ((i : ℕ) → i < y + 1 → i ≢ v → s + d z i ≤ d v i + 1000000) → s ≤ next
    back s h = go (ℕ_discrete y v)
      where
        old : s ≤ low
        old = (r.least s).1 (h.0, λ i l ne. h.1 i (omega arith) ne)

        go : Dec (y ≡ v) → s ≤ next
        go (yes e) = omega (arith, old, en, term.off e, h.0)
        go (no e) = omega (arith, old, en, term.on e, h.1 y (omega arith) e)

pub row_most : {d : ℕ → ℕ → ℕ} {v z m r : ℕ} → Row d v z m r → r ≤ 3000000
row_most {r = r} h = ((h.least r).0 (le_refl r)).0

-- A WEIGHT LOWERED by a row
pub lowered_none : (d : ℕ → ℕ → ℕ) (v z m : ℕ) {best : ℕ} → best ≡ 0 → Lowered d v z m best 0
lowered_none d v z m e = record { least = λ t pt. ((λ h. absurd (omega arith)), (λ h. absurd (omega (arith, h.0)))) }

pub lowered_row : (d : ℕ → ℕ → ℕ) (v z m : ℕ) {best low p r : ℕ} → best ≤ weight_limit → p ≤ 1000000 → Row d v z m low → p ≡ d v z
    → r ≡ min (above (sub_ℕ (low + p) 1000000)) best → Lowered d v z m best r
lowered_row d v z m {best} {low} {p} {r} lb lp row ep er = record { least = λ t pt. (there t pt, back t pt) }
  where
    there : (t : ℕ) → 1 ≤ t → t ≤ r → (t ≤ best) × Beside d v z m t
    there t pt h =
        let q = (lowered_at t (low + p) 1000000 best r pt er).0 h in
        (q.0, λ y l ne. omega (arith, ep, ((row.least (t + 1000000 - p)).0 (omega (arith, q.1))).1 y l ne))

    back : (t : ℕ) → 1 ≤ t → (t ≤ best) × Beside d v z m t → t ≤ r
    back t pt h =
        (lowered_at t (low + p) 1000000 best r pt er).1
        (h.0, omega (arith, (row.least (t + 1000000 - p)).1 (omega (arith, h.0), λ y l ne. omega (arith, ep, h.1 y l ne))))

pub lowered_most : {d : ℕ → ℕ → ℕ} {v z m best r : ℕ} → Lowered d v z m best r → r ≤ best
lowered_most {best = best} {r = r} h = go (dec_lt 0 r)
  where
    go : Dec (0 < r) → r ≤ best
    go (yes l) = ((h.least r (omega arith)).0 (le_refl r)).0
    go (no l) = omega arith

pub lone_most : {d : ℕ → ℕ → ℕ} {k v r : ℕ} → Lone d k v r → r ≤ weight_limit
lone_most {r = r} h = go (dec_lt 0 r)
  where
    go : Dec (0 < r) → r ≤ weight_limit
    go (yes l) = ((h.least r (omega arith)).0 (le_refl r)).0
    go (no l) = omega arith

-- THE NEWCOMER by itself, as far as the taxa z passed
pub begun_turn : (d : ℕ → ℕ → ℕ) (j z : ℕ) {best next : ℕ} → Begun d j z best → Lowered d j z z best next → Begun d j (z + 1) next
begun_turn d j z {best} {next} b low = record { least = λ t pt. (there t pt, back t pt) }
  where
    there : (t : ℕ) → 1 ≤ t → t ≤ next → (t ≤ weight_limit) × ((g : ℕ) → g < z + 1 → Beside d j g g t)
    there t pt h = let p = (low.least t pt).0 h in let q = (b.least t pt).0 p.0 in (q.0, λ g l. at g l (dec_lt g z) q.1 p.1)
      where
        at : (g : ℕ) → g < z + 1 → Dec (g < z) → ((g : ℕ) → g < z → Beside d j g g t) → Beside d j z z t → Beside d j g g t
        at g l (yes m) f new = f g m
        at g l (no m) f new = let same : z ≡ g = omega arith in subst (λ (i : ℕ). Beside d j i i t) same new

    back : (t : ℕ) → 1 ≤ t → (t ≤ weight_limit) × ((g : ℕ) → g < z + 1 → Beside d j g g t) → t ≤ next
    back t pt h = (low.least t pt).1 ((b.least t pt).1 (h.0, λ g l. h.1 g (omega arith)), h.1 z (omega arith))

module _ (n : ℕ) (entries : List ℕ) (accepted : AcceptedMatrix n entries) where
  -- the scores of vv|yz, in ℕ
  to_lone : (t v y z : ℕ) → v < n → t + distance n entries y z ≤ distance n entries v y + distance n entries v z → pos t ≤ℤ score (distance n entries) v v y z
  to_lone t v y z lv h = to_score (distance n entries) t v v y z (omega (arith, h, accepted.diagonal v lv))

  of_lone : (t v y z : ℕ) → v < n → pos t ≤ℤ score (distance n entries) v v y z → t + distance n entries y z ≤ distance n entries v y + distance n entries v z
  of_lone t v y z lv h = omega (arith, of_score (distance n entries) t v v y z h, accepted.diagonal v lv)

  module _ (j : ℕ) (lj : j < n) where
    pub lone_newcomer : {r : ℕ} → Begun (distance n entries) j j r → Lone (distance n entries) (j + 1) j r
    lone_newcomer b = record { least = λ t pt. ((λ h. let p = (b.least t pt).0 h in (p.0, there t p.1)), (λ h. (b.least t pt).1 (h.0, back t h.1))) }
      where
        there : (t : ℕ) → ((z : ℕ) → z < j → Beside (distance n entries) j z z t) → Scores (distance n entries) (j + 1) j t
        there t f y z ly lz ny nz ne = to_lone t j y z lj (go (dec_lt y z))
          where
            go : Dec (y < z) → t + distance n entries y z ≤ distance n entries j y + distance n entries j z
            go (yes l) = omega (arith, f z (omega arith) y l ny, accepted.same y z (omega arith) (omega arith))
            go (no l) = omega (arith, f y (omega arith) z (omega arith) nz)

        back : (t : ℕ) → Scores (distance n entries) (j + 1) j t → (z : ℕ) → z < j → Beside (distance n entries) j z z t
        back t f z lz y ly ny =
            omega (arith, of_lone t j y z lj (f y z (omega arith) (omega arith) ny (λ e. absurd (omega arith)) (λ e. absurd (omega arith))), accepted.same y z (omega arith) (omega arith))

    -- an earlier taxon, by the newcomer's fours
    pub lone_earlier : (v : ℕ) {best r : ℕ} → v < j → Lone (distance n entries) j v best → Lowered (distance n entries) v j j best r → Lone (distance n entries) (j + 1) v r
    lone_earlier v {best} {r} lv lone low =
        record {
          least = λ t pt. (
            (λ h. let p = (low.least t pt).0 h in let q = (lone.least t pt).0 p.0 in (q.0, there t q.1 p.1)),
            (λ h. (low.least t pt).1 ((lone.least t pt).1 (h.0, λ y z ly lz. h.1 y z (omega arith) (omega arith)), back t h.1)),
          );
        }
      where
        there : (t : ℕ) → Scores (distance n entries) j v t → Beside (distance n entries) v j j t → Scores (distance n entries) (j + 1) v t
        there t old new y z ly lz ny nz ne = go (dec_lt y j) (dec_lt z j)
          where
            go : Dec (y < j) → Dec (z < j) → pos t ≤ℤ score (distance n entries) v v y z
            go (yes p) (yes q) = old y z p q ny nz ne
            go (yes p) (no q) =
                let same : j ≡ z = omega arith in
                subst (λ (i : ℕ). pos t ≤ℤ score (distance n entries) v v y i) same
                (to_lone t v y j (omega arith) (omega (arith, new y p ny, accepted.same y j (omega arith) lj)))
            go (no p) (yes q) =
                let same : j ≡ y = omega arith in
                subst (λ (i : ℕ). pos t ≤ℤ score (distance n entries) v v i z) same (to_lone t v j z (omega arith) (omega (arith, new z q nz)))
            go (no p) (no q) = absurd (ne (omega arith))

        back : (t : ℕ) → Scores (distance n entries) (j + 1) v t → Beside (distance n entries) v j j t
        back t f y ly ny =
            omega (arith, of_lone t v y j (omega arith) (f y j (omega arith) (omega arith) ny (λ e. absurd (omega arith)) (λ e. absurd (omega arith))), accepted.same y j (omega arith) lj)

-- THE NEWCOMER TAKEN IN: the first v weights are done
pub record Taking (d : ℕ → ℕ → ℕ) (j v : ℕ) (xs : List ℕ) : Type 0 where
  pub done : Kept d (j + 1) v xs
  pub left : (u : ℕ) → v ≤ u → u < j → Lone d j u (get_or xs u 0)

module _ (d : ℕ → ℕ → ℕ) (j : ℕ) (xs : List ℕ) where
  pub taking_from : Kept d j j xs → Taking d j 0 xs
  taking_from h = record { done = λ u l. absurd (omega arith); left = λ u _ l. h u l }

  pub taking_turn : (v r : ℕ) → v < length xs → Taking d j v xs → Lone d (j + 1) v r → Taking d j (v + 1) (set xs v r)
  taking_turn v r room h new =
      record {
        done = stored (Lone d (j + 1)) xs v r room new h.done;
        left = λ u l m. rw (get_or-set_other xs v u r 0 (λ e. absurd (omega arith))) (h.left u (omega arith) m);
      }
