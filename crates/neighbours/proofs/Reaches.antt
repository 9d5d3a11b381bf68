-- Laws of pulls and reaches: a turn of each loop, and what a bound on a reach says of scores. Assumes nothing.
use Prim.Native.Nat.{ℕ, ◌+◌, ◌-◌, ◌≤◌, ◌<◌, min}
use native.Mathlib.Nat.{le_refl}
use native.Mathlib.Omega.{arith}
use native.Mathlib.Decide.{dec_lt, ℕ_discrete}
use mathlib.Core.Path.{◌≡◌, sym, ◌∙◌, ap, subst}
use mathlib.Core.Logic.{◌↔◌}
use mathlib.Core.Bool.{Bool, true, false, not, ◌||◌, true≢false}
use mathlib.Core.List.{List}
use lib.Dec.{eqb}
use lib.ListN.{length, set}
use Rattle.statement.specs.Cluster.{bit, Pair}
use Rattle.statement.specs.Growing.{alone, pairs}
use Rattle.statement.proofs.Pairs.{pairs_pair, pair_pairs}
use Rattle.statement.proofs.Single.{some_pair, dec_pair}
use Rattle.bits.proofs.Stored.{stored}
use Rattle.neighbours.specs.Reach.{Own, Pull, Pulls, Reach}

dec_own : (k a c x : ℕ) → Dec (Own k a c x)
dec_own k a c x = go (ℕ_discrete (bit c x) (bit c a)) (dec_pair k c a x)
  where
    go : Dec (bit c x ≡ bit c a) → Dec (Pair k c a x) → Dec (Own k a c x)
    go (yes e) (yes p) = yes (e, p)
    go (yes e) (no p) = no (λ o. p o.1)
    go (no e) p = no (λ o. e o.0)

-- as the tests say it
pub own_tested : (k a c x : ℕ) {r s : Bool} → bit c x ≡ bit c a → r ≡ (not (eqb a x) || s) → s ≡ alone k c a → (r ≡ true → Own k a c x) × (r ≡ false → Own k a c x → ⊥)
own_tested k a c x {r} {s} e er es = ((λ h. (e, pairs_pair k c a x (sym p ∙ h))), (λ h o. true≢false (sym (pair_pairs k c a x o.1) ∙ sym p ∙ h)))
  where
    p : r ≡ pairs k c a x
    p = er ∙ ap (λ (b : Bool). not (eqb a x) || b) es

-- THE PULLS
module _ (d : ℕ → ℕ → ℕ) (k a c : ℕ) where
  pub pulls_turn : (m p : ℕ) (all : List ℕ) → Pulls d k m a c all → m < length all → Pull d k a c m p → Pulls d k (m + 1) a c (set all m p)
  pulls_turn m p all h room new = stored (Pull d k a c) all m p room new h

-- THE REACH of z
pub reach_turn : (d : ℕ → ℕ → ℕ) (k a c z x : ℕ) {low p v next : ℕ} → Reach d k x a c z low → Pull d k a c x p → v ≡ d x z → next ≡ min low (v + p)
    → Reach d k (x + 1) a c z next
reach_turn d k a c z x {low} {p} {v} {next} r pull ev en = record { least = λ s. (there s, back s) }
  where
    there : (s : ℕ) → s ≤ next → (s ≤ 2000000) × ((i : ℕ) → i < x + 1 → Own k a c i → s + d a i ≤ d i z + 1000000)
    there s h =
        let q = (r.least s).0 (omega arith) in
        (q.0, λ i l e. at i l e (dec_lt i x) q.1)
      where
        at : (i : ℕ) → i < x + 1 → Own k a c i → Dec (i < x) → ((i : ℕ) → i < x → Own k a c i → s + d a i ≤ d i z + 1000000) → s + d a i ≤ d i z + 1000000
        at i l e (yes m) f = f i m e
        at i l e (no m) f =
            let same : x ≡ i = omega arith in
            subst (λ (j : ℕ). s + d a j ≤ d j z + 1000000) same (omega (arith, ev, en, h, pull.on (subst (λ (j : ℕ). Own k a c j) (sym same) e)))

    back : (s : ℕ) → (s ≤ 2000000) × ((i : ℕ) → i < x + 1 → Own k a c i → s + d a i ≤ d i z + 1000000) → s ≤ next
    back s h = go (dec_own k a c x)
      where
        old : s ≤ low
        old = (r.least s).1 (h.0, λ i l e. h.1 i (omega arith) e)

        go : Dec (Own k a c x) → s ≤ next
        go (yes e) = omega (arith, old, ev, en, pull.on e, h.1 x (omega arith) e)
        go (no e) = omega (arith, old, ev, en, pull.off e, h.0)

pub reach_cap : {d : ℕ → ℕ → ℕ} {k m a c z r : ℕ} → Reach d k m a c z r → r ≤ 2000000
reach_cap {r = r} h = ((h.least r).0 (le_refl r)).0

-- a bound on what z reaches is one on half a score, for every x; some x is a pair with a, so the cap of a reach does no harm
pub half : (d : ℕ → ℕ → ℕ) (k a c z rz t q b : ℕ) → a < k → b ≤ 1000000 → ((x : ℕ) → x < k → d x z ≤ 1000000) → Reach d k k a c z rz
    → (t + 2000000 + q ≤ b + rz + 1000000) ↔ ((x : ℕ) → x < k → Own k a c x → t + d a x + q ≤ b + d x z)
half d k a c z rz t q b la lb lz h = (
  (λ u x lx e. omega (arith, ((h.least (t + 1000000 + q - b)).0 (omega arith)).1 x lx e)),
  (λ f.
      let (u, lu, eu, pu) = some_pair k c a la in
      omega (arith, (h.least (t + 1000000 + q - b)).1 (omega (arith, f u lu (eu, pu), lz u lu), λ x lx e. omega (arith, f x lx e)))),
)
