-- A family of clusters without conflict is small. Assumes nothing.
use Prim.Native.Nat.{ℕ, zero, suc, ◌+◌, ◌*◌, ◌^◌, ◌≤◌, ◌<◌, min, max}
use native.Mathlib.Omega.{arith}
use native.Mathlib.Decide.{dec_lt}
use mathlib.Core.Path.{◌≡◌, refl, sym, ◌∙◌, ap}
use mathlib.Core.Logic.{◌⊎◌, inl, inr}
use lib.Pow.{pow_pos}
use Rattle.statement.specs.Cluster.{bit, In, Out, Split, Conflict}
use Rattle.statement.proofs.Bits.{zero_or_one, bit_none, bit_zero, bit_plus, bit_past, bit_top, lt_bit}
use Rattle.statement.proofs.Clash.{conflict_same, empty_left, empty_right}
use Rattle.statement.proofs.Tally.{tally, tally_add, tally_split, tally_two, ascending, has, has_le, has_at, has_of}

-- a family of clusters of the first k taxa, as a function to 0 and 1; the empty cluster may be in
pub record Laminar (k : ℕ) (f : ℕ → ℕ) : Type 0 where
  pub small : (c : ℕ) → f c ≤ 1
  pub free : (c : ℕ) → c < 2 ^ k → 0 < f c → Out c 0
  pub agree : (a b : ℕ) → a < 2 ^ k → b < 2 ^ k → 0 < f a → 0 < f b → Conflict k a b → ⊥

widen : (k a b : ℕ) → Conflict k a b → Conflict (suc k) a b
widen k a b h =
    record {
      ii = (h.ii.0, omega (arith, h.ii.1), h.ii.2, h.ii.3);
      io = (h.io.0, omega (arith, h.io.1), h.io.2, h.io.3);
      oi = (h.oi.0, omega (arith, h.oi.1), h.oi.2, h.oi.3);
      oo = (h.oo.0, omega (arith, h.oo.1), h.oo.2, h.oo.3);
    }

module _ (k : ℕ) (f : ℕ → ℕ) (pk : 0 < k) (lam : Laminar (suc k) f) where
  -- a cluster of the restricted family comes from one of the family, with the same bits
  comes : (a : ℕ) → a < 2 ^ k → 0 < max (f a) (f (2 ^ k + a)) → (a' : ℕ) × (a' < 2 ^ suc k) × (0 < f a') × ((i : ℕ) → i < k → bit a i ≡ bit a' i)
  comes a l h = go (dec_lt 0 (f a))
    where
      go : Dec (0 < f a) → (a' : ℕ) × (a' < 2 ^ suc k) × (0 < f a') × ((i : ℕ) → i < k → bit a i ≡ bit a' i)
      go (yes p) = (a, omega arith, p, λ i m. refl)
      go (no p) = (2 ^ k + a, omega arith, omega arith, λ i m. sym (bit_plus a k i m))

  restrict : Laminar k (λ c. max (f c) (f (2 ^ k + c)))
  restrict =
      record {
        small = λ c. omega (arith, lam.small c, lam.small (2 ^ k + c));
        free = λ c l h. let q = comes c l h in q.3 0 pk ∙ lam.free q.0 q.1 q.2;
        agree = λ a b la lb ha hb x.
            let p = comes a la ha in
            let q = comes b lb hb in
            lam.agree p.0 q.0 p.1 q.1 p.2 q.2 (widen k p.0 q.0 (conflict_same k a b p.0 q.0 p.3 q.3 x));
      }

  -- at most one cluster but the empty one is in with the newcomer and without
  both_once : (a b : ℕ) → 0 < a → a < b → b < 2 ^ k → 0 < min (f a) (f (2 ^ k + a)) → 0 < min (f b) (f (2 ^ k + b)) → ⊥
  both_once a b pa ab lb ha hb =
      let (i, li, ai, bi) = lt_bit k a b ab lb in
      let (j, lj, oj, aj) = lt_bit k 0 a pa (omega arith) in
      go i li ai bi j lj aj (zero_or_one b j)
    where
      la : a < 2 ^ k
      la = omega arith

      a0 : Out (2 ^ k + a) 0
      a0 = lam.free (2 ^ k + a) (omega arith) (omega arith)

      b0 : Out b 0
      b0 = lam.free b (omega arith) (omega arith)

      go : (i : ℕ) → i < k → Out a i → In b i → (j : ℕ) → j < k → In a j → Out b j ⊎ In b j → ⊥
      go i li ai bi j lj aj (inr m) =
          lam.agree (2 ^ k + a) b (omega arith) (omega arith) (omega arith) (omega arith)
          (record {
            ii = (j, omega arith, bit_plus a k j lj ∙ aj, m);
            io = (k, omega arith, bit_top a k la, bit_past b k lb);
            oi = (i, omega arith, bit_plus a k i li ∙ ai, bi);
            oo = (0, omega arith, a0, b0);
          })
      go i li ai bi j lj aj (inl m) =
          lam.agree (2 ^ k + a) (2 ^ k + b) (omega arith) (omega arith) (omega arith) (omega arith)
          (record {
            ii = (k, omega arith, bit_top a k la, bit_top b k lb);
            io = (j, omega arith, bit_plus a k j lj ∙ aj, bit_plus b k j lj ∙ m);
            oi = (i, omega arith, bit_plus a k i li ∙ ai, bit_plus b k i li ∙ bi);
            oo = (0, omega arith, a0, bit_plus b k 0 pk ∙ b0);
          })

  step : tally f (2 ^ suc k) ≤ tally (λ c. max (f c) (f (2 ^ k + c))) (2 ^ k) + 2
  step =
      omega (
        arith,
        ap (tally f) twice,
        tally_add f (2 ^ k) (2 ^ k),
        tally_split f (λ c. f (2 ^ k + c)) (2 ^ k),
        tally_two (λ c. min (f c) (f (2 ^ k + c))) (2 ^ k) (λ c. omega (arith, lam.small c)) both_once,
      )
    where
      twice : 2 ^ suc k ≡ 2 ^ k + 2 ^ k
      twice = omega arith

family_bound : (k : ℕ) (f : ℕ → ℕ) → Laminar (suc (suc k)) f → tally f (2 ^ suc (suc k)) + 2 ≤ 2 * suc (suc k)
unfolding tally
family_bound zero f lam = omega (arith, lam.small 0, lam.small 2, odd 1 (omega arith) (bit_zero 1), odd 3 (omega arith) (bit_zero 3))
  where
    odd : (c : ℕ) → c < 4 → In c 0 → f c ≡ 0
    odd c l o = go (dec_lt 0 (f c))
      where
        go : Dec (0 < f c) → f c ≡ 0
        go (yes h) = absurd (omega (arith, lam.free c l h))
        go (no h) = omega arith
family_bound (suc k) f lam =
    omega (arith, step (suc (suc k)) f (omega arith) lam, family_bound k (λ c. max (f c) (f (2 ^ suc (suc k) + c))) (restrict (suc (suc k)) f (omega arith) lam))

pub laminar_bound : (k : ℕ) (f : ℕ → ℕ) → 2 ≤ k → Laminar k f → tally f (2 ^ k) + 2 ≤ 2 * k
laminar_bound zero f h lam = absurd (omega arith)
laminar_bound (suc zero) f h lam = absurd (omega arith)
laminar_bound (suc (suc k)) f h lam = family_bound k f lam

-- the rows with the empty cluster before them
with_empty : (ℕ → ℕ) → ℕ → ℕ
with_empty row zero = 0
with_empty row (suc i) = row i

-- THE BOUND: m ascending clusters without conflict, of k taxa
module _ (k m : ℕ) (row : ℕ → ℕ) (two : 2 ≤ k) (up : (i j : ℕ) → i < j → j < m → row i < row j) (splits : (i : ℕ) → i < m → Split k (row i))
    (clean : (i j : ℕ) → i < m → j < m → Conflict k (row i) (row j) → ⊥) where
  rows_low : (i : ℕ) → i < suc m → with_empty row i < 2 ^ k
  unfolding with_empty
  rows_low zero l = pow_pos k
  rows_low (suc i) l = (splits i (omega arith)).below

  rows_free : (i : ℕ) → i < suc m → Out (with_empty row i) 0
  unfolding with_empty
  rows_free zero l = bit_none 0
  rows_free (suc i) l = (splits i (omega arith)).free

  rows_up : (i j : ℕ) → i < j → j < suc m → with_empty row i < with_empty row j
  unfolding with_empty
  rows_up i zero h l = absurd (omega arith)
  rows_up zero (suc j) h l = (splits j (omega arith)).some
  rows_up (suc i) (suc j) h l = up i j (omega arith) (omega arith)

  rows_clean : (i j : ℕ) → i < suc m → j < suc m → Conflict k (with_empty row i) (with_empty row j) → ⊥
  unfolding with_empty
  rows_clean zero j li lj x = empty_left k (with_empty row j) x
  rows_clean (suc i) zero li lj x = empty_right k (row i) x
  rows_clean (suc i) (suc j) li lj x = clean i j (omega arith) (omega arith) x

  rows_laminar : Laminar k (has (with_empty row) (suc m))
  rows_laminar =
      record {
        small = has_le (with_empty row) (suc m);
        free = λ c l h. let (i, li, e) = has_of (with_empty row) (suc m) c h in rw (← e) (rows_free i li);
        agree = λ a b la lb ha hb x.
            let (i, li, e) = has_of (with_empty row) (suc m) a ha in
            let (j, lj, d) = has_of (with_empty row) (suc m) b hb in
            rows_clean i j li lj (conflict_same k a b _ _ (λ n l. ap (λ (c : ℕ). bit c n) (sym e)) (λ n l. ap (λ (c : ℕ). bit c n) (sym d)) x);
      }

  pub bound : m + 3 ≤ 2 * k
  bound =
      omega (
        arith,
        laminar_bound k (has (with_empty row) (suc m)) two rows_laminar,
        ascending (has (with_empty row) (suc m)) (with_empty row) (suc m) (2 ^ k) rows_up rows_low (has_at (with_empty row) (suc m)),
      )
