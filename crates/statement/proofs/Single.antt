-- Groups of one. Assumes nothing.
use Prim.Native.Nat.{ℕ, zero, suc, ◌+◌, ◌/◌, ◌-◌, ◌%◌, ◌^◌, ◌≤◌, ◌<◌}
use native.Mathlib.Omega.{arith}
use native.Mathlib.Decide.{dec_lt, ℕ_discrete}
use mathlib.Core.Path.{◌≡◌, refl, sym, ◌∙◌, ap}
use mathlib.Core.Logic.{◌≢◌, ◌⊎◌, inl, inr}
use mathlib.Core.Bool.{Bool, true, false, cond}
use lib.Dec.{T, eqb}
use lib.Pow.{pow_pos, pow-lt}
use borrow.Author.Tests.{eqb-true, eq-eqb}
use Rattle.statement.specs.Cluster.{bit, In, Out, Split, Conflict, Single, Pair}
use Rattle.statement.proofs.Instances.{pow_below, trivial}
use Rattle.statement.proofs.Bits.{lt_bit, bit_zero, bit_suc, zero_or_one, bit_past, bit_top, bit_ext}
use Rattle.statement.proofs.Grow.{alone_low}

-- the digits of 2 ^ i and of 2 ^ k - 2
pub pow_self : (i : ℕ) → In (2 ^ i) i
pow_self i = ap (λ (n : ℕ). bit n i) (omega arith) ∙ bit_top 0 i (pow_pos i)

pub pow_other : (i j : ℕ) → j ≢ i → Out (2 ^ i) j
pow_other i j d = go (dec_lt j i)
  where
    go : Dec (j < i) → Out (2 ^ i) j
    go (yes l) = alone_low i j l
    go (no l) = let h : i < j = omega arith in bit_past (2 ^ i) j (pow-lt h)

ones : (m a j : ℕ) → a + 1 ≡ 2 ^ m → j < m → In a j
ones zero a j e l = absurd (omega arith)
ones (suc m) a zero e l = bit_zero a ∙ omega arith
ones (suc m) a (suc j) e l = bit_suc a j ∙ ones m (a / 2) j (omega arith) (omega arith)

pub rest_other : (k c j : ℕ) → c + 2 ≡ 2 ^ k → j < k → 0 < j → In c j
rest_other zero c j e l p = absurd (omega arith)
rest_other (suc k) c zero e l p = absurd (omega arith)
rest_other (suc k) c (suc j) e l p = bit_suc c j ∙ ones k (c / 2) j (omega arith) (omega arith)

pow_of : (k c : ℕ) → T (pow_below k c) → (i : ℕ) × (i < k) × (c ≡ 2 ^ i)
unfolding pow_below
pow_of zero c h = absurd h
pow_of (suc k) c h = go (eqb c (2 ^ k)) refl h (λ g. pow_of k c g)
  where
    go : (b : Bool) → eqb c (2 ^ k) ≡ b → T (cond b true (pow_below k c)) → (T (pow_below k c) → (i : ℕ) × (i < k) × (c ≡ 2 ^ i)) → (i : ℕ) × (i < suc k) × (c ≡ 2 ^ i)
    go true e g ih = (k, omega arith, eqb-true c (2 ^ k) e)
    go false e g ih = let q = ih g in (q.0, omega arith, q.2)

of_pow : (k c i : ℕ) → i < k → c ≡ 2 ^ i → T (pow_below k c)
unfolding pow_below
of_pow zero c i l e = absurd (omega arith)
of_pow (suc k) c i l e = go (eqb c (2 ^ k)) refl (dec_lt i k) (λ m. of_pow k c i m e)
  where
    go : (b : Bool) → eqb c (2 ^ k) ≡ b → Dec (i < k) → (i < k → T (pow_below k c)) → T (cond b true (pow_below k c))
    go true q m ih = tt
    go false q (yes m) ih = ih m
    go false q (no m) ih =
        let n : i ≡ k = omega arith in
        absurd (let z : false ≡ true = sym q ∙ eq-eqb c (2 ^ k) (e ∙ ap (λ (x : ℕ). 2 ^ x) n) in let y : ◌≡◌ {A = ℕ} 0 1 = cc in omega arith)

pub trivial_cases : (k c : ℕ) → T (trivial k c) → (c + 2 ≡ 2 ^ k) ⊎ ((i : ℕ) × (i < k) × (c ≡ 2 ^ i))
unfolding trivial
trivial_cases k c h = go (eqb (c + 2) (2 ^ k)) refl h
  where
    go : (b : Bool) → eqb (c + 2) (2 ^ k) ≡ b → T (cond b true (pow_below k c)) → (c + 2 ≡ 2 ^ k) ⊎ ((i : ℕ) × (i < k) × (c ≡ 2 ^ i))
    go true e g = inl (eqb-true (c + 2) (2 ^ k) e)
    go false e g = inr (pow_of k c g)

pub trivial_rest : (k c : ℕ) → c + 2 ≡ 2 ^ k → T (trivial k c)
unfolding trivial
trivial_rest k c e = rw (eq-eqb (c + 2) (2 ^ k) e) tt

pub trivial_pow : (k c i : ℕ) → i < k → c ≡ 2 ^ i → T (trivial k c)
unfolding trivial
trivial_pow k c i l e = go (eqb (c + 2) (2 ^ k))
  where
    go : (b : Bool) → T (cond b true (pow_below k c))
    go true = tt
    go false = of_pow k c i l e

-- a taxon that is the whole cluster
pub pow_single : (k c i : ℕ) → c ≡ 2 ^ i → Single k c i
pow_single k c i e = record { only = λ j l q. at j q (ℕ_discrete j i) }
  where
    at : (j : ℕ) → bit c j ≡ bit c i → Dec (j ≡ i) → j ≡ i
    at j q (yes p) = p
    at j q (no p) = absurd (omega (arith, q, ap (λ (n : ℕ). bit n i) e, ap (λ (n : ℕ). bit n j) e, pow_self i, pow_other i j p))

-- THE TEST: a split is trivial where some taxon is the whole of its group
pub trivial_single : (k c : ℕ) → Split k c → T (trivial k c) → (u : ℕ) × (u < k) × Single k c u
trivial_single k c s h = go (trivial_cases k c h)
  where
    go : (c + 2 ≡ 2 ^ k) ⊎ ((i : ℕ) × (i < k) × (c ≡ 2 ^ i)) → (u : ℕ) × (u < k) × Single k c u
    go (inl e) = (0, pos_k k s.some s.below, record { only = λ i l q. at i l q (dec_lt 0 i) })
      where
        pos_k : (m : ℕ) → 0 < c → c < 2 ^ m → 0 < m
        pos_k zero a b = absurd (omega arith)
        pos_k (suc m) a b = omega arith

        at : (i : ℕ) → i < k → bit c i ≡ bit c 0 → Dec (0 < i) → i ≡ 0
        at i l q (yes p) = absurd (omega (arith, rest_other k c i e l p, s.free))
        at i l q (no p) = omega arith
    go (inr (i, li, e)) = (i, li, pow_single k c i e)

pub single_trivial : (k c u : ℕ) → Split k c → u < k → Single k c u → T (trivial k c)
single_trivial k c u s l h = go (zero_or_one c u)
  where
    go : Out c u ⊎ In c u → T (trivial k c)
    go (inr i) = trivial_pow k c u l (bit_ext k c (2 ^ u) s.below (pow-lt l) (λ j lj. at j lj (ℕ_discrete j u) (zero_or_one c j)))
      where
        at : (j : ℕ) → j < k → Dec (j ≡ u) → Out c j ⊎ In c j → bit c j ≡ bit (2 ^ u) j
        at j lj (yes p) q = ap (bit c) p ∙ i ∙ sym (ap (bit (2 ^ u)) p ∙ pow_self u)
        at j lj (no p) (inl o) = o ∙ sym (pow_other u j p)
        at j lj (no p) (inr n) = absurd (p (h.only j lj (n ∙ sym i)))
    go (inl o) = trivial_rest k c (let e = bit_ext k c (2 ^ k - 2) s.below (omega (arith, pow_pos k)) at in omega (arith, e, two))
      where
        pk : 0 < k
        pk = omega arith

        zero_only : 0 ≡ u
        zero_only = h.only 0 pk (s.free ∙ sym o)

        two : 2 ≤ 2 ^ k
        two = big k s.some s.below
          where
            big : (m : ℕ) → 0 < c → c < 2 ^ m → 2 ≤ 2 ^ m
            big zero a b = absurd (omega arith)
            big (suc m) a b = omega (arith, pow_pos m)

        at : (j : ℕ) → j < k → bit c j ≡ bit (2 ^ k - 2) j
        at j lj = pick (dec_lt 0 j) (zero_or_one c j)
          where
            pick : Dec (0 < j) → Out c j ⊎ In c j → bit c j ≡ bit (2 ^ k - 2) j
            pick (yes p) (inr n) = n ∙ sym (rest_other k (2 ^ k - 2) j (omega (arith, two)) lj p)
            pick (yes p) (inl q) = absurd (omega (arith, h.only j lj (q ∙ sym o), zero_only))
            pick (no p) q = let e : j ≡ 0 = omega arith in ap (bit c) e ∙ s.free ∙ sym (ap (bit (2 ^ k - 2)) e ∙ bit_zero (2 ^ k - 2) ∙ even k pk)
              where
                even : (m : ℕ) → 0 < m → (2 ^ m - 2) % 2 ≡ 0
                even zero a = absurd (omega arith)
                even (suc m) a = omega (arith, pow_pos m)

-- a trivial split conflicts with none
pub single_clean : (k a b u : ℕ) → Single k a u → Conflict k a b → ⊥
single_clean k a b u h x = go (zero_or_one a u)
  where
    go : Out a u ⊎ In a u → ⊥
    go (inl o) =
        let e = h.only x.oi.0 x.oi.1 (x.oi.2 ∙ sym o) in
        let f = h.only x.oo.0 x.oo.1 (x.oo.2 ∙ sym o) in
        omega (arith, ap (bit b) (e ∙ sym f), x.oi.3, x.oo.3)
    go (inr i) =
        let e = h.only x.ii.0 x.ii.1 (x.ii.2 ∙ sym i) in
        let f = h.only x.io.0 x.io.1 (x.io.2 ∙ sym i) in
        omega (arith, ap (bit b) (e ∙ sym f), x.ii.3, x.io.3)

-- a taxon is the whole of its group, or the group has another
pub single_or : (k c u : ℕ) → Single k c u ⊎ ((i : ℕ) × (i < k) × (bit c i ≡ bit c u) × (i ≢ u))
single_or zero c u = inl (record { only = λ i l. absurd (omega arith) })
single_or (suc k) c u = go (single_or k c u) (ℕ_discrete (bit c k) (bit c u)) (ℕ_discrete k u)
  where
    go : Single k c u ⊎ ((i : ℕ) × (i < k) × (bit c i ≡ bit c u) × (i ≢ u)) → Dec (bit c k ≡ bit c u) → Dec (k ≡ u)
        → Single (suc k) c u ⊎ ((i : ℕ) × (i < suc k) × (bit c i ≡ bit c u) × (i ≢ u))
    go (inr (i, l, e, d)) p q = inr (i, omega arith, e, d)
    go (inl h) (yes p) (no q) = inr (k, omega arith, p, q)
    go (inl h) (yes p) (yes q) = inl (record { only = λ i l e. at i l e (dec_lt i k) })
      where
        at : (i : ℕ) → i < suc k → bit c i ≡ bit c u → Dec (i < k) → i ≡ u
        at i l e (yes m) = h.only i m e
        at i l e (no m) = omega arith
    go (inl h) (no p) q = inl (record { only = λ i l e. at i l e (dec_lt i k) })
      where
        at : (i : ℕ) → i < suc k → bit c i ≡ bit c u → Dec (i < k) → i ≡ u
        at i l e (yes m) = h.only i m e
        at i l e (no m) = let n : i ≡ k = omega arith in absurd (p (sym (ap (bit c) n) ∙ e))

-- EVERY SPLIT HAS A FOUR: each taxon is of a pair of its group
pub some_pair : (k c u : ℕ) → u < k → (u' : ℕ) × (u' < k) × (bit c u' ≡ bit c u) × Pair k c u u'
some_pair k c u l = go (single_or k c u)
  where
    go : Single k c u ⊎ ((i : ℕ) × (i < k) × (bit c i ≡ bit c u) × (i ≢ u)) → (u' : ℕ) × (u' < k) × (bit c u' ≡ bit c u) × Pair k c u u'
    go (inl s) = (u, l, refl, λ e. s)
    go (inr (i, li, e, ne)) = (i, li, e, λ q. absurd (ne (sym q)))

-- every split has a four
pub some_four : (k c : ℕ) → 0 < k → Split k c
    → (u u' v v' : ℕ) × (u < k) × (u' < k) × (v < k) × (v' < k) × Out c u × Out c u' × In c v × In c v' × Pair k c u u' × Pair k c v v'
some_four k c pk s =
    let (v, lv, zv, ov) = lt_bit k 0 c s.some s.below in
    let p = some_pair k c 0 pk in
    let q = some_pair k c v lv in
    (0, p.0, v, q.0, pk, p.1, lv, q.1, s.free, p.2 ∙ s.free, ov, q.2 ∙ ov, p.3, q.3)

pub dec_pair : (k c u u' : ℕ) → Dec (Pair k c u u')
dec_pair k c u u' = go (ℕ_discrete u u') (single_or k c u)
  where
    go : Dec (u ≡ u') → Single k c u ⊎ ((i : ℕ) × (i < k) × (bit c i ≡ bit c u) × (i ≢ u)) → Dec (Pair k c u u')
    go (no d) s = yes (λ e. absurd (d e))
    go (yes e) (inl s) = yes (λ q. s)
    go (yes e) (inr (i, l, b, d)) = no (λ p. d ((p e).only i l b))
