-- THE TRIAL OF A SPLIT with a taxon v alone in its group: the lesser of its weight and the kept one. Assumes nothing.
use Prim.Native.Nat.{ℕ, ◌≤◌, ◌<◌, min}
use native.Mathlib.Omega.{arith}
use native.Mathlib.Decide.{ℕ_discrete}
use mathlib.Core.Path.{◌≡◌, refl, sym, ◌∙◌, ap, subst}
use mathlib.Core.Logic.{◌≢◌, ◌⊎◌, inl, inr, ◌↔◌}
use mathlib.Core.List.{List}
use lib.IntN.{pos}
use lib.Signed.{◌≤ℤ◌}
use Rattle.statement.specs.Cluster.{bit, Single}
use Rattle.statement.specs.Matrix.{distance, AcceptedMatrix, score, weight_limit}
use Rattle.statement.specs.Growing.{pair_trial, looked, matrix_trial}
use Rattle.statement.proofs.Instances.{matrix_rule}
use Rattle.statement.proofs.Bits.{bit_lt}
use Rattle.statement.proofs.Lesser.{same_below}
use Rattle.statement.proofs.Matrix.{of_score}
use Rattle.statement.proofs.PairRule.{matrix_laws}
use Rattle.statement.proofs.Pairs.{trial_means, alone_fours, looked_at}
use Rattle.statement.proofs.Trial.{Anchored}
use Rattle.lone_weights.specs.Lone.{Scores, Lone}

module _ (n : ℕ) (entries : List ℕ) (accepted : AcceptedMatrix n entries) (k a c w v : ℕ) (lk : k ≤ n) (lv : v < k) (s : Single k c v) where
  -- whoever is looked at, it is the fours of v
  alone_trial : (t : ℕ) → 1 ≤ t → (t ≤ matrix_trial (distance n entries) k a c w) ↔ ((t ≤ w) × Anchored (matrix_rule n (distance n entries)) t k v c)
  unfolding matrix_trial
  alone_trial t pt = go (looked_at k a c)
    where
      go : ((looked k a c < k) × Single k c (looked k a c)) ⊎ ((looked k a c ≡ a) × ((u : ℕ) → u < k → Single k c u → ⊥))
          → (t ≤ pair_trial (distance n entries) k (looked k a c) c w) ↔ ((t ≤ w) × Anchored (matrix_rule n (distance n entries)) t k v c)
      go (inl (l, u)) =
          let laws = matrix_laws n (distance n entries) accepted.same in
          let means = trial_means n (distance n entries) k (looked k a c) c w t pt in
          let f = alone_fours (matrix_rule n (distance n entries)) laws t k c (looked k a c) lk l u in
          let g = alone_fours (matrix_rule n (distance n entries)) laws t k c v lk lv s in (
            (λ h. let p = means.0 h in (p.0, g.0 (f.1 p.1))),
            (λ h. means.1 (h.0, f.0 (g.1 h.1))),
          )
      go (inr (e, none)) = absurd (none v lv s)

  pub trial_alone : pair_trial (distance n entries) k v c w ≡ matrix_trial (distance n entries) k a c w
  trial_alone =
      same_below (pair_trial (distance n entries) k v c w) (matrix_trial (distance n entries) k a c w)
      (λ t pt.
      let p = trial_means n (distance n entries) k v c w t pt in
      let q = alone_trial t pt in
      ((λ h. q.1 (p.0 h)), (λ h. p.1 (q.0 h))))

-- of three taxa one is neither of two
third : (v y : ℕ) → (i : ℕ) × (i < 3) × (i ≢ v) × (i ≢ y)
third v y = go (ℕ_discrete 0 v) (ℕ_discrete 0 y)
  where
    one : (u : ℕ) → Dec (1 ≡ u) → (i : ℕ) × (i < 3) × (i ≢ 0) × (i ≢ u)
    one u (yes e) = (2, omega arith, λ q. absurd (omega arith), λ q. absurd (omega arith))
    one u (no e) = (1, omega arith, λ q. absurd (omega arith), e)

    go : Dec (0 ≡ v) → Dec (0 ≡ y) → (i : ℕ) × (i < 3) × (i ≢ v) × (i ≢ y)
    go (no p) (no q) = (0, omega arith, p, q)
    go (yes p) q = let (i, l, a, b) = one y (ℕ_discrete 1 y) in (i, l, (λ e. a (e ∙ sym p)), b)
    go (no p) (yes q) = let (i, l, a, b) = one v (ℕ_discrete 1 v) in (i, l, b, (λ e. a (e ∙ sym q)))

module _ (n : ℕ) (entries : List ℕ) (accepted : AcceptedMatrix n entries) (k a c w v r : ℕ) (lk : k ≤ n) (three : 3 ≤ k) (lv : v < k) (s : Single k c v)
    (lone : Lone (distance n entries) k v r) where
  -- the other group has two taxa or more
  two : (y : ℕ) → bit c y ≢ bit c v → Single k c y → ⊥
  two y ny h =
      let (i, li, iv, iy) = third v y in
      let p : bit c i ≢ bit c v = λ e. iv (s.only i (omega arith) e) in
      let q : bit c i ≢ bit c y = λ e. iy (h.only i (omega arith) e) in
      omega (arith, bit_lt c i, bit_lt c y, bit_lt c v)

  scores_anchored : (t : ℕ) → Scores (distance n entries) k v t → Anchored (matrix_rule n (distance n entries)) t k v c
  scores_anchored t f x y z lx ly lz p asked =
      let e : v ≡ x = sym (s.only x lx p.x_side) in
      subst (λ (u : ℕ). pos t ≤ℤ score (distance n entries) v u y z) e
      (f y z ly lz (λ q. p.y_side (ap (bit c) q)) (λ q. p.z_side (ap (bit c) q)) (λ q. two y p.y_side (asked.1 q)))

  anchored_scores : (t : ℕ) → Anchored (matrix_rule n (distance n entries)) t k v c → Scores (distance n entries) k v t
  anchored_scores t g y z ly lz ny nz ne =
      g v y z lv ly lz (record { x_side = refl; y_side = λ e. ny (s.only y ly e); z_side = λ e. nz (s.only z lz e) }) ((λ _. s), (λ q. absurd (ne q)))

  -- there is such a score, so none of them is above the most
  most : (t : ℕ) → Scores (distance n entries) k v t → t ≤ weight_limit
  most t f =
      let (y, ly, yv, _) = third v v in
      let (z, lz, zv, zy) = third v y in
      omega (
        arith,
        of_score (distance n entries) t v v y z (f y z (omega arith) (omega arith) yv zv (λ e. zy (sym e))),
        accepted.limit v y (omega arith) (omega arith),
        accepted.limit v z (omega arith) (omega arith),
      )

  pub lone_trial : min r w ≡ matrix_trial (distance n entries) k a c w
  lone_trial =
      same_below (min r w) (matrix_trial (distance n entries) k a c w)
      (λ t pt.
      let m = alone_trial n entries accepted k a c w v lk lv s t pt in (
        (λ h. m.1 (omega arith, scores_anchored t ((lone.least t pt).0 (omega arith)).1)),
        (λ h. let p = m.0 h in let f = anchored_scores t p.1 in omega (arith, p.0, (lone.least t pt).1 (most t f, f))),
      ))
