-- The literal wording: a weight above zero is the score of an asked four, or the cap; and the lowest such four is there. Assumes nothing.
use Prim.Native.Nat.{ℕ, zero, suc, ◌≤◌, ◌<◌}
use native.Mathlib.Omega.{arith}
use native.Mathlib.Decide.{dec_lt, ℕ_discrete}
use native.Mathlib.Nat.{le_refl}
use mathlib.Core.Path.{◌≡◌, refl, sym, ap, subst}
use mathlib.Core.Logic.{◌⊎◌, inl, inr}
use mathlib.Core.Bool.{Bool, true, false}
use lib.Dec.{T, leb→le, le→leb}
use lib.IntN.{ℤ, pos, negsuc}
use lib.Signed.{◌≤ℤ◌, le_z}
use Rattle.statement.specs.Cluster.{bit, In, Out}
use Rattle.statement.proofs.Rule.{Rule, Ok, Fours, New, Weight, Trial, Reached, Bare, WeightOf, Caps}
use Rattle.statement.proofs.Parts.{Parted}
use Rattle.statement.proofs.Trial.{Anchored, anchored_new}

-- all below n, or one that is not
pub search_below : {P Q : ℕ → Type 0} → ((i : ℕ) → P i ⊎ Q i) → (n : ℕ) → ((i : ℕ) → i < n → P i) ⊎ ((i : ℕ) × (i < n) × Q i)
search_below f zero = inl (λ i l. absurd (omega arith))
search_below {P} {Q} f (suc n) = go (search_below f n) (f n)
  where
    go : ((i : ℕ) → i < n → P i) ⊎ ((i : ℕ) × (i < n) × Q i) → P n ⊎ Q n → ((i : ℕ) → i < suc n → P i) ⊎ ((i : ℕ) × (i < suc n) × Q i)
    go (inr (i, l, q)) p = inr (i, omega arith, q)
    go (inl a) (inr q) = inr (n, omega arith, q)
    go (inl a) (inl p) = inl (λ i l. at i l (dec_lt i n))
      where
        at : (i : ℕ) → i < suc n → Dec (i < n) → P i
        at i l (yes m) = a i m
        at i l (no m) = let e : n ≡ i = omega arith in subst P e p

-- the least i with Q, where P is its contrary
pub least_below : {P Q : ℕ → Type 0} → ((i : ℕ) → P i ⊎ Q i) → (n : ℕ) → ((i : ℕ) → i < n → P i) ⊎ ((i : ℕ) × Q i × ((j : ℕ) → j < i → P j))
least_below f zero = inl (λ i l. absurd (omega arith))
least_below {P} {Q} f (suc n) = go (least_below f n) (f n)
  where
    go : ((i : ℕ) → i < n → P i) ⊎ ((i : ℕ) × Q i × ((j : ℕ) → j < i → P j)) → P n ⊎ Q n → ((i : ℕ) → i < suc n → P i) ⊎ ((i : ℕ) × Q i × ((j : ℕ) → j < i → P j))
    go (inr q) p = inr q
    go (inl a) (inr q) = inr (n, q, a)
    go (inl a) (inl p) = inl (λ i l. at i l (dec_lt i n))
      where
        at : (i : ℕ) → i < suc n → Dec (i < n) → P i
        at i l (yes m) = a i m
        at i l (no m) = let e : n ≡ i = omega arith in subst P e p

pub dec_le : (t : ℕ) (z : ℤ) → Dec (pos t ≤ℤ z)
dec_le t z = go (le_z (pos t) z) refl
  where
    go : (b : Bool) → le_z (pos t) z ≡ b → Dec (pos t ≤ℤ z)
    go true e = yes (record { le = subst T (sym e) tt })
    go false e = no (λ h. absurd (subst T e h.le))

pub exactly : (w : ℕ) (z : ℤ) → pos w ≤ℤ z → (pos (suc w) ≤ℤ z → ⊥) → z ≡ pos w
exactly w (pos n) h g = ap pos (go (dec_lt w n))
  where
    go : Dec (w < n) → n ≡ w
    go (yes l) = absurd (g (record { le = le→leb (suc w) n l }))
    go (no l) = omega (arith, leb→le w n h.le)
exactly w (negsuc n) h g = absurd h.le

-- an asked four of the split under t
abbrev Under : Rule → ℕ → ℕ → ℕ → ℕ → ℕ → ℕ → ℕ → Type 0
Under r t k c u u' v v' = Out c u × Out c u' × In c v × In c v' × r.asked k c u u' v v' × (pos t ≤ℤ r.score u u' v v' → ⊥)

abbrev Over : Rule → ℕ → ℕ → ℕ → ℕ → ℕ → ℕ → ℕ → Type 0
Over r t k c u u' v v' = Out c u → Out c u' → In c v → In c v' → Ok r t k c u u' v v'

module _ (r : Rule) (dec : (k c u u' v v' : ℕ) → Dec (r.asked k c u u' v v')) where
  one_four : (t k c u u' v v' : ℕ) → Over r t k c u u' v v' ⊎ Under r t k c u u' v v'
  one_four t k c u u' v v' = go (ℕ_discrete (bit c u) 0) (ℕ_discrete (bit c u') 0) (ℕ_discrete (bit c v) 1) (ℕ_discrete (bit c v') 1) (dec k c u u' v v') (dec_le t (r.score u u' v v'))
    where
      go : Dec (Out c u) → Dec (Out c u') → Dec (In c v) → Dec (In c v') → Dec (r.asked k c u u' v v') → Dec (pos t ≤ℤ r.score u u' v v')
          → Over r t k c u u' v v' ⊎ Under r t k c u u' v v'
      go (no a) b d e f g = inl (λ x y z s q. absurd (a x))
      go (yes a) (no b) d e f g = inl (λ x y z s q. absurd (b y))
      go (yes a) (yes b) (no d) e f g = inl (λ x y z s q. absurd (d z))
      go (yes a) (yes b) (yes d) (no e) f g = inl (λ x y z s q. absurd (e s))
      go (yes a) (yes b) (yes d) (yes e) (no f) g = inl (λ x y z s q. absurd (f q))
      go (yes a) (yes b) (yes d) (yes e) (yes f) (yes g) = inl (λ x y z s q. g)
      go (yes a) (yes b) (yes d) (yes e) (yes f) (no g) = inr (a, b, d, e, f, g)

  pub fours_search : (t k c : ℕ) → Fours r t k c ⊎ ((u u' v v' : ℕ) × (u < k) × (u' < k) × (v < k) × (v' < k) × Under r t k c u u' v v')
  fours_search t k c =
      elim (search_below (λ u. search_below (λ u'. search_below (λ v. search_below (λ v'. one_four t k c u u' v v') k) k) k) k) [
        | inl f ↦ inl (λ u u' v v' lu lu' lv lv'. f u lu u' lu' v lv v' lv')
        | inr (u, lu, (u', lu', (v, lv, (v', lv', x)))) ↦ inr (u, u', v, v', lu, lu', lv, lv', x)
      ]

  -- the threshold gives the documents' words
  pub weight_of_law : (k c w : ℕ) → Caps r k c → 0 < w → Weight r k c w → WeightOf r k c w
  weight_of_law k c w caps pw x =
      let p = (x.least w pw).0 (le_refl w) in
      record { over = p.1; reached = go p.0 p.1 (fours_search (suc w) k c) }
    where
      go : w ≤ r.cap k c → Fours r w k c → Fours r (suc w) k c ⊎ ((u u' v v' : ℕ) × (u < k) × (u' < k) × (v < k) × (v' < k) × Under r (suc w) k c u u' v v')
          → (Bare r k c × (w ≡ 1)) ⊎ Reached r k c w
      go l f (inr (u, u', v, v', lu, lu', lv, lv', (ou, ou', iv, iv', a, n))) =
          inr (u, u', v, v', lu, lu', lv, lv', ou, ou', iv, iv', a, exactly w (r.score u u' v v') (f u u' v v' lu lu' lv lv' ou ou' iv iv' a) n)
      go l f (inl g) = at (dec_lt w (r.cap k c))
        where
          at : Dec (w < r.cap k c) → (Bare r k c × (w ≡ 1)) ⊎ Reached r k c w
          at (yes m) = absurd (let z : suc w ≤ w = (x.least (suc w) (omega arith)).1 (m, g) in omega arith)
          at (no m) = inl (none, omega (arith, caps.bare none))
            where
              none : Bare r k c
              none u u' v v' lu lu' lv lv' ou ou' iv iv' a =
                  let e : r.cap k c ≡ w = omega arith in
                  caps.high u u' v v' lu lu' lv lv' ou ou' iv iv' a
                  (subst (λ (t : ℕ). pos (suc t) ≤ℤ r.score u u' v v') (sym e) (g u u' v v' lu lu' lv lv' ou ou' iv iv' a))

-- the same of the fours ax|yz that include the taxon a
module _ (r : Rule) (dec : (k c u u' v v' : ℕ) → Dec (r.asked k c u u' v v')) where
  abbrev Short : ℕ → ℕ → ℕ → ℕ → ℕ → ℕ → ℕ → Type 0
  Short t n a c x y z = Parted c a x y z × r.asked n c a x y z × (pos t ≤ℤ r.score a x y z → ⊥)

  parted : (c a x y z : ℕ) → Dec (Parted c a x y z)
  parted c a x y z = go (ℕ_discrete (bit c x) (bit c a)) (ℕ_discrete (bit c y) (bit c a)) (ℕ_discrete (bit c z) (bit c a))
    where
      go : Dec (bit c x ≡ bit c a) → Dec (bit c y ≡ bit c a) → Dec (bit c z ≡ bit c a) → Dec (Parted c a x y z)
      go (no p) q s = no (λ h. p h.x_side)
      go (yes p) (yes q) s = no (λ h. h.y_side q)
      go (yes p) (no q) (yes s) = no (λ h. h.z_side s)
      go (yes p) (no q) (no s) = yes (record { x_side = p; y_side = q; z_side = s })

  one_anchored : (t n a c x y z : ℕ) → (Parted c a x y z → Ok r t n c a x y z) ⊎ Short t n a c x y z
  one_anchored t n a c x y z = go (parted c a x y z) (dec n c a x y z) (dec_le t (r.score a x y z))
    where
      go : Dec (Parted c a x y z) → Dec (r.asked n c a x y z) → Dec (pos t ≤ℤ r.score a x y z) → (Parted c a x y z → Ok r t n c a x y z) ⊎ Short t n a c x y z
      go (no p) q s = inl (λ h. absurd (p h))
      go (yes p) (no q) s = inl (λ h asked. absurd (q asked))
      go (yes p) (yes q) (yes s) = inl (λ h asked. s)
      go (yes p) (yes q) (no s) = inr (p, q, s)

  anchored_search : (t n a c : ℕ) → Anchored r t n a c ⊎ ((x y z : ℕ) × (x < n) × (y < n) × (z < n) × Short t n a c x y z)
  anchored_search t n a c =
      elim (search_below (λ x. search_below (λ y. search_below (λ z. one_anchored t n a c x y z) n) n) n) [
        | inl f ↦ inl (λ x y z lx ly lz. f x lx y ly z lz)
        | inr (x, lx, (y, ly, (z, lz, s))) ↦ inr (x, y, z, lx, ly, lz, s)
      ]

  -- a trial's answer above zero is what it started from, or the score of an asked four
  pub trial_reached : (k c cap v : ℕ) → Trial r k c cap v → 0 < v
      → (v ≡ cap) ⊎ ((x y z : ℕ) × (x < suc k) × (y < suc k) × (z < suc k) × Parted c k x y z × r.asked (suc k) c k x y z × (r.score k x y z ≡ pos v))
  trial_reached k c cap v trial pv = go (ℕ_discrete v cap) (anchored_search (suc v) (suc k) k c)
    where
      here : (v ≤ cap) × New r v k c
      here = (trial.least v pv).0 (le_refl v)

      go : Dec (v ≡ cap) → Anchored r (suc v) (suc k) k c ⊎ ((x y z : ℕ) × (x < suc k) × (y < suc k) × (z < suc k) × Short (suc v) (suc k) k c x y z)
          → (v ≡ cap) ⊎ ((x y z : ℕ) × (x < suc k) × (y < suc k) × (z < suc k) × Parted c k x y z × r.asked (suc k) c k x y z × (r.score k x y z ≡ pos v))
      go (yes e) s = inl e
      go (no e) (inl f) =
          absurd (let z : suc v ≤ v = (trial.least (suc v) (omega arith)).1 (omega (arith, here.0), (anchored_new r (suc v) k c).0 f) in omega arith)
      go (no e) (inr (x, y, z, lx, ly, lz, (p, asked, s))) =
          inr (x, y, z, lx, ly, lz, p, asked, exactly v (r.score k x y z) ((anchored_new r v k c).1 here.1 x y z lx ly lz p asked) s)
