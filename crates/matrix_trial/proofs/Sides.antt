-- Who is alone among the listed taxa of the other side, and whose fours are looked at. Assumes nothing.
use Prim.Native.Nat.{ℕ, ◌+◌, ◌≤◌, ◌<◌, min}
use native.Mathlib.Omega.{arith}
use native.Mathlib.Decide.{dec_lt, ℕ_discrete}
use mathlib.Core.Path.{◌≡◌, sym, ◌∙◌, ap, subst}
use mathlib.Core.Logic.{◌≢◌, ◌⊎◌, inl, inr, ◌↔◌}
use mathlib.Core.List.{List}
use lib.ListN.{get_or}
use Rattle.statement.specs.Cluster.{bit, Single, Pair}
use Rattle.statement.specs.Matrix.{distance, AcceptedMatrix}
use Rattle.statement.specs.Growing.{pair_trial, looked, matrix_trial}
use Rattle.statement.proofs.Bits.{bit_lt}
use Rattle.statement.proofs.Pairs.{looked_at}
use Rattle.bits.specs.Members.{Members}
use Rattle.lone_weights.specs.Lone.{Kept}
use Rattle.lone_weights.proofs.Trials.{trial_alone, lone_trial}
use Rattle.matrix_trial.specs.Separated.{Paired_up, Partners}

module _ (k a c : ℕ) (taxa : List ℕ) (count : ℕ) (members : Members k a c taxa count) where
  pub one_single : (i : ℕ) → i < count → count ≡ 1 → Single k c (get_or taxa i 0)
  one_single i li one = record { only = λ y ly e. at y ly (λ q. (members.each i li).1 (sym e ∙ q)) }
    where
      at : (y : ℕ) → y < k → bit c y ≢ bit c a → y ≡ get_or taxa i 0
      at y ly ny =
          let (j, lj, ej) = members.all y ly ny in
          let same : j ≡ i = omega arith in
          sym ej ∙ ap (λ (v : ℕ). get_or taxa v 0) same

  single_one : (i : ℕ) → i < count → Single k c (get_or taxa i 0) → count ≡ 1
  single_one i li s = go (dec_lt 1 count)
    where
      same : (j : ℕ) → j < count → get_or taxa j 0 ≡ get_or taxa i 0
      same j lj =
          let m = members.each j lj in
          s.only (get_or taxa j 0) m.0
          (omega (arith, m.1, (members.each i li).1, bit_lt c (get_or taxa j 0), bit_lt c (get_or taxa i 0), bit_lt c a))

      go : Dec (1 < count) → count ≡ 1
      go (yes l) = absurd (omega (arith, members.up 1 0 l (omega arith), same 0 (omega arith), same 1 l))
      go (no l) = omega arith

  -- of two taxa on different sides each is alone
  pub two_alone : a < k → k < 3 → count ≡ 1 → Single k c a
  two_alone la lk one = record { only = λ i li e. at i li e }
    where
      at : (i : ℕ) → i < k → bit c i ≡ bit c a → i ≡ a
      at i li e =
          let m = members.each 0 (omega arith) in
          let p : i ≢ get_or taxa 0 0 = λ q. m.1 (sym (ap (bit c) q) ∙ e) in
          let q : a ≢ get_or taxa 0 0 = λ q. m.1 (ap (bit c) (sym q)) in
          omega (arith, m.0)

  -- where more than one is listed, or none, the fours of a are looked at
  pub looked_self : a < k → count ≢ 1 → looked k a c ≡ a
  looked_self la ne = go (looked_at k a c)
    where
      at : looked k a c < k → Single k c (looked k a c) → Dec (bit c (looked k a c) ≡ bit c a) → looked k a c ≡ a
      at l s (yes e) = sym (s.only a la (sym e))
      at l s (no e) =
          let (j, lj, ej) = members.all (looked k a c) l e in
          absurd (ne (single_one j lj (subst (λ (v : ℕ). Single k c v) (sym ej) s)))

      go : ((looked k a c < k) × Single k c (looked k a c)) ⊎ ((looked k a c ≡ a) × ((u : ℕ) → u < k → Single k c u → ⊥)) → looked k a c ≡ a
      go (inl (l, s)) = at l s (ℕ_discrete (bit c (looked k a c)) (bit c a))
      go (inr (e, f)) = e

  -- the pairs of the other side
  pub pair_up : (i j : ℕ) → i < count → Paired_up count i j → Pair k c (get_or taxa i 0) (get_or taxa j 0)
  pair_up i j li p e = go (dec_lt j i)
    where
      go : Dec (j < i) → Single k c (get_or taxa i 0)
      go (yes l) = absurd (omega (arith, e, members.up i j li l))
      go (no l) = one_single i li (p.1 (omega (arith, p.0)))

  pub up_pair : (i j : ℕ) → i < count → j ≤ i → Pair k c (get_or taxa i 0) (get_or taxa j 0) → Paired_up count i j
  up_pair i j li l p = (l, λ e. single_one i li (p (ap (λ (v : ℕ). get_or taxa v 0) (sym e))))

pub partners_up : (count i m : ℕ) → Partners count i m → (j : ℕ) → (j < m) ↔ Paired_up count i j
partners_up count i m p j = go (ℕ_discrete count 1)
  where
    go : Dec (count ≡ 1) → (j < m) ↔ Paired_up count i j
    go (yes e) = ((λ l. (omega (arith, p.one e), λ _. e)), (λ u. omega (arith, p.one e, u.0)))
    go (no e) = (
      (λ l. (omega (arith, p.more e), λ q. absurd (omega (arith, p.more e)))),
      (λ u. at u (dec_lt j i)),
    )
      where
        at : Paired_up count i j → Dec (j < i) → j < m
        at u (yes l) = omega (arith, p.more e)
        at u (no l) = absurd (e (u.1 (omega (arith, u.0))))

pub partners_most : (count i m : ℕ) → Partners count i m → m ≤ i + 1
partners_most count i m p = go (ℕ_discrete count 1)
  where
    go : Dec (count ≡ 1) → m ≤ i + 1
    go (yes e) = omega (arith, p.one e)
    go (no e) = omega (arith, p.more e)

pub partners_room : {k n a c count : ℕ} {taxa : List ℕ} (i m : ℕ) → Members k a c taxa count → k ≤ n → n ≤ 64 → i < count → Partners count i m → (m ≤ count) × (m ≤ 64)
partners_room {count = count} i m members lk ln li p = let l = partners_most count i m p in (omega arith, omega (arith, members.few))

-- THE WAYS OUT of a trial, by the number of taxa that are listed
module _ (n : ℕ) (entries : List ℕ) (accepted : AcceptedMatrix n entries) (k a c w : ℕ) (lk : k ≤ n) (la : a < k) (taxa : List ℕ) (count : ℕ)
    (members : Members k a c taxa count) where
  trial_more : {r : ℕ} → count ≢ 1 → r ≡ pair_trial (distance n entries) k a c w → r ≡ matrix_trial (distance n entries) k a c w
  unfolding matrix_trial
  trial_more ne e = e ∙ ap (λ (v : ℕ). pair_trial (distance n entries) k v c w) (sym (looked_self k a c taxa count members la ne))

  pub trial_pairs : {r : ℕ} → (2 < k → count ≢ 1) → r ≡ pair_trial (distance n entries) k a c w → r ≡ matrix_trial (distance n entries) k a c w
  trial_pairs {r} asked e = go (ℕ_discrete count 1) (dec_lt 2 k)
    where
      go : Dec (count ≡ 1) → Dec (2 < k) → r ≡ matrix_trial (distance n entries) k a c w
      go (yes one) (yes l) = absurd (asked l one)
      go (yes one) (no l) = e ∙ trial_alone n entries accepted k a c w a lk la (two_alone k a c taxa count members la (omega arith) one)
      go (no ne) _ = trial_more ne e

  pub trial_one : {r : ℕ} (lone : List ℕ) → 3 ≤ k → count ≡ 1 → Kept (distance n entries) k k lone → r ≡ min (get_or lone (get_or taxa 0 0) 0) w
      → r ≡ matrix_trial (distance n entries) k a c w
  trial_one lone three one kept e =
      let v = get_or taxa 0 0 in
      let lv = (members.each 0 (omega arith)).0 in
      e ∙ lone_trial n entries accepted k a c w v (get_or lone v 0) lk three lv (one_single k a c taxa count members 0 (omega arith) one) (kept v lv)
