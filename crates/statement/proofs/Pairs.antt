-- GROWTH ON A MATRIX answers by its rule: what a trial says, whose fours it looks at, and what is extended. Assumes nothing.
use Prim.Native.Nat.{ℕ, suc, ◌%◌, ◌^◌, ◌≤◌, ◌<◌}
use native.Mathlib.Omega.{arith}
use native.Mathlib.Nat.{mod-lt}
use native.Mathlib.Decide.{dec_lt, ℕ_discrete}
use mathlib.Core.Path.{◌≡◌, refl, sym, ◌∙◌, ap, subst}
use mathlib.Core.Logic.{◌⊎◌, inl, inr, ◌↔◌}
use mathlib.Core.Bool.{Bool, true, false, cond, not, ◌&&◌, ◌||◌, true≢false}
use mathlib.Core.List.{List}
use lib.Dec.{T, ltb, eqb}
use lib.Pow.{pow_pos}
use borrow.Author.Tests.{eqb-true, eq-eqb, ltb-true}
use Rattle.statement.specs.Cluster.{bit, In, Out, Split, Single, Pair}
use Rattle.statement.specs.Lowest.{lowest, somewhere}
use Rattle.statement.specs.Matrix.{score, weight_limit}
use Rattle.statement.specs.Rows.{Row, clusters, Mem}
use Rattle.statement.specs.Growing.{above, alone, pairs, pair_trial, looked, matrix_trial, with_trivial, by_matrix}
use Rattle.statement.proofs.Rule.{Rule, Laws, Ok, Fours, Old, New, Trial, Weight}
use Rattle.statement.proofs.Instances.{trivial, matrix_rule}
use Rattle.statement.proofs.Answer.{Clean}
use Rattle.statement.proofs.Bits.{zero_or_one, bit_lt, bit_mod, bit_none, bit_ext}
use Rattle.statement.proofs.Lowest.{lowest_is, none_of, none_at}
use Rattle.statement.proofs.Listed.{clean_split}
use Rattle.statement.proofs.Parts.{pair_says, Parted}
use Rattle.statement.proofs.Trial.{Anchored, over_fours_law, anchored_new, above_is}
use Rattle.statement.proofs.Grow.{ok_flip, fours_grow, old_alone}
use Rattle.statement.proofs.Single.{trivial_single, single_trivial}
use Rattle.statement.proofs.PairRule.{matrix_laws, joined_old, single_up, single_down}
use Rattle.statement.proofs.Filled.{fill_well, fill_mem, clusters_trivial, trivial_weight, other_weight}
use Rattle.statement.proofs.Enlarged.{Extended, Sound}

-- THE TEST says that a taxon is alone on its side
pub alone_single : (n c u : ℕ) → alone n c u ≡ true → Single n c u
unfolding alone
alone_single n c u e = record { only = λ i l s. at i l s (eqb i u) refl }
  where
    other : ℕ → Bool
    other i = eqb (bit c i) (bit c u) && not (eqb i u)

    flip : (b : Bool) → not b ≡ true → b ≡ false
    flip true h = absurd (true≢false (sym h))
    flip false h = refl

    at : (i : ℕ) → i < n → bit c i ≡ bit c u → (b : Bool) → eqb i u ≡ b → i ≡ u
    at i l s true q = eqb-true i u q
    at i l s false q = absurd (true≢false (sym (rw (eq-eqb (bit c i) (bit c u) s, q)) ∙ none_of other n (flip (somewhere other n) e) i l))

pub single_alone : (n c u : ℕ) → Single n c u → alone n c u ≡ true
unfolding alone
single_alone n c u h = ap not (none_at (λ i. eqb (bit c i) (bit c u) && not (eqb i u)) n (λ i l. at i l (eqb (bit c i) (bit c u)) refl))
  where
    at : (i : ℕ) → i < n → (b : Bool) → eqb (bit c i) (bit c u) ≡ b → (b && not (eqb i u)) ≡ false
    at i l true q = rw (eq-eqb i u (h.only i l (eqb-true (bit c i) (bit c u) q)))
    at i l false q = refl

pub pairs_pair : (n c u u' : ℕ) → pairs n c u u' ≡ true → Pair n c u u'
pairs_pair n c u u' h e = alone_single n c u (rw (eq-eqb u u' e) at h)

pub pair_pairs : (n c u u' : ℕ) → Pair n c u u' → pairs n c u u' ≡ true
pair_pairs n c u u' p = at (eqb u u') refl
  where
    at : (b : Bool) → eqb u u' ≡ b → (not b || alone n c u) ≡ true
    at true q = single_alone n c u (p (eqb-true u u' q))
    at false q = refl

-- WHAT A TRIAL'S ANSWER MEANS
module _ (N : ℕ) (d : ℕ → ℕ → ℕ) (n a c w : ℕ) where
  agree : (t x y z : ℕ) → 1 ≤ t → t ≤ w → Parted c a x y z → (t ≤ pair_says d n c a w x y z) ↔ Ok (matrix_rule N d) t n c a x y z
  unfolding pair_says
  agree t x y z pt l p = go (pairs n c a x) refl (pairs n c y z) refl
    where
      go : (i : Bool) → pairs n c a x ≡ i → (j : Bool) → pairs n c y z ≡ j → (t ≤ cond (i && j) (above (score d a x y z)) w) ↔ Ok (matrix_rule N d) t n c a x y z
      go false ei j ej = ((λ h asked. absurd (true≢false (sym (pair_pairs n c a x asked.0) ∙ ei))), (λ ok. l))
      go true ei false ej = ((λ h asked. absurd (true≢false (sym (pair_pairs n c y z asked.1) ∙ ej))), (λ ok. l))
      go true ei true ej = (
        (λ h asked. (above_is t (score d a x y z) pt).0 h),
        (λ ok. (above_is t (score d a x y z) pt).1 (ok (pairs_pair n c a x ei, pairs_pair n c y z ej))),
      )

  pub trial_means : (t : ℕ) → 1 ≤ t → (t ≤ pair_trial d n a c w) ↔ ((t ≤ w) × Anchored (matrix_rule N d) t n a c)
  unfolding pair_trial pair_says
  trial_means t pt = over_fours_law (matrix_rule N d) (pair_says d n c a) n a c w (λ s x y z ps l lx ly lz p. agree s x y z ps l p) t pt

-- THE FOURS OF A TAXON THAT IS ALONE are all that the split has, by any rule
pub alone_fours : (r : Rule) → Laws r → (t n c u : ℕ) → n ≤ r.taxa → u < n → Single n c u → Fours r t n c ↔ Anchored r t n u c
alone_fours r laws t n c u fits lu h = (there, back)
  where
    there : Fours r t n c → Anchored r t n u c
    there f x y z lx ly lz p = go (zero_or_one c u)
      where
        go : Out c u ⊎ In c u → Ok r t n c u x y z
        go (inl o) = f u x y z lu lx ly lz o (p.x_side ∙ o) (omega (arith, bit_lt c y, p.y_side)) (omega (arith, bit_lt c z, p.z_side))
        go (inr i) =
            ok_flip r laws t n c y z u x (omega arith) (omega arith) (omega arith) (omega arith)
            (f y z u x ly lz lu lx (omega (arith, bit_lt c y, p.y_side)) (omega (arith, bit_lt c z, p.z_side)) i (p.x_side ∙ i))

    back : Anchored r t n u c → Fours r t n c
    back g s s' v v' ls ls' lv lv' os os' iv iv' = go (zero_or_one c u)
      where
        go : Out c u ⊎ In c u → Ok r t n c s s' v v'
        go (inl o) =
            let e : u ≡ s = sym (h.only s ls (os ∙ sym o)) in
            subst (λ (a : ℕ). Ok r t n c a s' v v') e
            (g s' v v' ls' lv lv' (record { x_side = os' ∙ sym o; y_side = λ q. omega (arith, q, o, iv); z_side = λ q. omega (arith, q, o, iv') }))
        go (inr i) =
            let e : u ≡ v = sym (h.only v lv (iv ∙ sym i)) in
            ok_flip r laws t n c v v' s s' (omega arith) (omega arith) (omega arith) (omega arith)
            (subst (λ (a : ℕ). Ok r t n c a v' s s') e
            (g v' s s' lv' ls ls' (record { x_side = iv' ∙ sym i; y_side = λ q. omega (arith, q, i, os); z_side = λ q. omega (arith, q, i, os') })))

-- WHOSE FOURS ARE LOOKED AT: a taxon that is alone, or the newcomer where none is
pub looked_at : (n a c : ℕ) → ((looked n a c < n) × Single n c (looked n a c)) ⊎ ((looked n a c ≡ a) × ((u : ℕ) → u < n → Single n c u → ⊥))
unfolding looked
looked_at n a c = go (ltb (lowest (alone n c) n) n) refl
  where
    go : (b : Bool) → somewhere (alone n c) n ≡ b
        → ((cond b (lowest (alone n c) n) a < n) × Single n c (cond b (lowest (alone n c) n) a)) ⊎ ((cond b (lowest (alone n c) n) a ≡ a) × ((u : ℕ) → u < n → Single n c u → ⊥))
    go true e = let l = ltb-true (lowest (alone n c) n) n e in inl (l, alone_single n c (lowest (alone n c) n) ((lowest_is (alone n c) 0 n).hit (omega arith)))
    go false e = inr (refl, λ u l h. true≢false (sym (single_alone n c u h) ∙ none_of (alone n c) n e u l))

module _ (N : ℕ) (d : ℕ → ℕ → ℕ) (sy : (i j : ℕ) → i < N → j < N → d i j ≡ d j i) (k : ℕ) (fits : suc k ≤ N) (pk : 0 < k) where
  abbrev rule : Rule
  rule = matrix_rule N d

  laws : Laws (matrix_rule N d)
  laws = matrix_laws N d sy

  tried : (c w t : ℕ) → 1 ≤ t → (t ≤ matrix_trial d (suc k) k c w) ↔ ((t ≤ w) × Anchored rule t (suc k) (looked (suc k) k c) c)
  unfolding matrix_trial
  tried c w t pt = trial_means N d (suc k) (looked (suc k) k c) c w t pt

  -- a split with a taxon alone is weighed over all its fours
  weighs_alone : (c w : ℕ) → (looked (suc k) k c < suc k) × Single (suc k) c (looked (suc k) k c) → (t : ℕ) → 1 ≤ t → (t ≤ matrix_trial d (suc k) k c w) ↔ ((t ≤ w) × Fours rule t (suc k) c)
  weighs_alone c w s t pt =
      let f = alone_fours rule laws t (suc k) c (looked (suc k) k c) fits s.0 s.1 in (
        (λ h. let p = (tried c w t pt).0 h in (p.0, f.1 p.1)),
        (λ h. (tried c w t pt).1 (h.0, f.0 h.1)),
      )

  -- any other over those of the newcomer
  weighs_new : (c w : ℕ) → looked (suc k) k c ≡ k → (t : ℕ) → 1 ≤ t → (t ≤ matrix_trial d (suc k) k c w) ↔ ((t ≤ w) × New rule t k c)
  weighs_new c w e t pt = (
    (λ h. let p = (tried c w t pt).0 h in (p.0, (anchored_new rule t k c).0 (subst (λ (a : ℕ). Anchored rule t (suc k) a c) e p.1))),
    (λ h. (tried c w t pt).1 (h.0, subst (λ (a : ℕ). Anchored rule t (suc k) a c) (sym e) ((anchored_new rule t k c).1 h.1))),
  )

  -- THE VALUE of a candidate: its trial, from the old weight where its parent is not trivial, else from the most
  module _ (c v w : ℕ) (is : v ≡ matrix_trial d (suc k) k c w) where
    value_alone : c ≡ 2 ^ k → w ≡ weight_limit → Trial rule k c weight_limit v
    value_alone e top = rw is (go (looked_at (suc k) k c))
      where
        none : (t : ℕ) → Old rule t k c
        none t = subst (Old rule t k) (sym e) (old_alone rule t k)

        go : ((looked (suc k) k c < suc k) × Single (suc k) c (looked (suc k) k c)) ⊎ ((looked (suc k) k c ≡ k) × ((u : ℕ) → u < suc k → Single (suc k) c u → ⊥))
            → Trial rule k c weight_limit (matrix_trial d (suc k) k c w)
        go (inl s) =
            record {
              least = λ t pt. (
                (λ h. let p = (weighs_alone c w s t pt).0 h in (omega (arith, p.0), ((fours_grow rule laws t k c fits).0 p.1).1)),
                (λ h. (weighs_alone c w s t pt).1 (omega (arith, h.0), (fours_grow rule laws t k c fits).1 (none t, h.1))),
              );
            }
        go (inr (q, no_one)) =
            record {
              least = λ t pt. (
                (λ h. let p = (weighs_new c w q t pt).0 h in (omega (arith, p.0), p.1)),
                (λ h. (weighs_new c w q t pt).1 (omega (arith, h.0), h.1)),
              );
            }

    module _ (p : Split k (c % 2 ^ k)) where
      -- the newcomer is not alone, and who is alone was so before
      down : (u : ℕ) → u < suc k → Single (suc k) c u → (u < k) × Single k (c % 2 ^ k) u
      down u l h = go (dec_lt u k)
        where
          go : Dec (u < k) → (u < k) × Single k (c % 2 ^ k) u
          go (yes m) = (m, single_down k c u m h)
          go (no m) = let e : u ≡ k = omega arith in absurd (newcomer (subst (Single (suc k) c) e h) (zero_or_one c k))
            where
              low : Out c 0
              low = sym (bit_mod c k 0 pk) ∙ p.free

              newcomer : Single (suc k) c k → Out c k ⊎ In c k → ⊥
              newcomer s (inl o) = omega (arith, s.only 0 (omega arith) (low ∙ sym o))
              newcomer s (inr i) = omega (arith, p.some, none (c % 2 ^ k) (mod-lt c (pow_pos k)) (λ j lj. bit_mod c k j lj ∙ at j lj (zero_or_one c j)))
                where
                  at : (j : ℕ) → j < k → Out c j ⊎ In c j → Out c j
                  at j lj (inl o) = o
                  at j lj (inr q) = absurd (omega (arith, s.only j (omega arith) (q ∙ sym i)))

                  none : (b : ℕ) → b < 2 ^ k → ((j : ℕ) → j < k → Out b j) → b ≡ 0
                  none b l all = bit_ext k b 0 l (pow_pos k) (λ j lj. all j lj ∙ sym (bit_none j))

      value_old : trivial k (c % 2 ^ k) ≡ false → (old : ℕ) → w ≡ old → Trial rule k c old v
      value_old e old q = rw is (go (looked_at (suc k) k c))
        where
          go : ((looked (suc k) k c < suc k) × Single (suc k) c (looked (suc k) k c)) ⊎ ((looked (suc k) k c ≡ k) × ((u : ℕ) → u < suc k → Single (suc k) c u → ⊥))
              → Trial rule k c old (matrix_trial d (suc k) k c w)
          go (inl s) = let h = down (looked (suc k) k c) s.0 s.1 in absurd (subst T e (single_trivial k (c % 2 ^ k) (looked (suc k) k c) p h.0 h.1))
          go (inr (s, no_one)) =
              record {
                least = λ t pt. (
                  (λ h. let r = (weighs_new c w s t pt).0 h in (omega (arith, r.0), r.1)),
                  (λ h. (weighs_new c w s t pt).1 (omega (arith, h.0), h.1)),
                );
              }

      value_anew : T (trivial k (c % 2 ^ k)) → w ≡ weight_limit → Weight rule (suc k) c v
      value_anew e top = rw is (go (looked_at (suc k) k c))
        where
          go : ((looked (suc k) k c < suc k) × Single (suc k) c (looked (suc k) k c)) ⊎ ((looked (suc k) k c ≡ k) × ((u : ℕ) → u < suc k → Single (suc k) c u → ⊥))
              → Weight rule (suc k) c (matrix_trial d (suc k) k c w)
          go (inl s) =
              record {
                least = λ t pt. (
                  (λ h. let r = (weighs_alone c w s t pt).0 h in (omega (arith, r.0), r.1)),
                  (λ h. (weighs_alone c w s t pt).1 (omega (arith, h.0), h.1)),
                );
              }
          go (inr (s, no_one)) =
              let (u, lu, h) = trivial_single k (c % 2 ^ k) p e in
              let old : (t : ℕ) → Old rule t k c = λ t. joined_old N d t k c u lu h (joined u lu h (ℕ_discrete (bit c u) (bit c k))) in
              record {
                least = λ t pt. (
                  (λ g. let r = (weighs_new c w s t pt).0 g in (omega (arith, r.0), (fours_grow rule laws t k c fits).1 (old t, r.1))),
                  (λ g. (weighs_new c w s t pt).1 (omega (arith, g.0), ((fours_grow rule laws t k c fits).0 g.1).1)),
                );
              }
            where
              joined : (u : ℕ) → u < k → Single k (c % 2 ^ k) u → Dec (bit c u ≡ bit c k) → bit c u ≡ bit c k
              joined u lu h (yes q) = q
              joined u lu h (no q) = absurd (no_one u (omega arith) (single_up k c u lu q h))

-- GROWTH ON A MATRIX
pub matrix_sound : (n : ℕ) (d : ℕ → ℕ → ℕ) → ((i j : ℕ) → i < n → j < n → d i j ≡ d j i) → Sound (matrix_rule n d) (by_matrix d)
matrix_sound n d sy =
    record {
      laws = matrix_laws n d sy;
      caps = λ k c. refl;
      extends = λ k rows w. extends k rows w;
      tries = λ k c w fits pk.
          record {
            alone = λ e q. value_alone n d sy k fits pk c (matrix_trial d (suc k) k c w) w refl e q;
            old = λ s e. value_old n d sy k fits pk c (matrix_trial d (suc k) k c w) w refl s e w refl;
            anew = λ s t q. value_anew n d sy k fits pk c (matrix_trial d (suc k) k c w) w refl s t q;
          };
    }
  where
    extends : (k : ℕ) (rows : List Row) → Clean k (clusters rows) → Extended (matrix_rule n d) weight_limit k rows (with_trivial weight_limit k rows)
    extends k rows w =
        record {
          clean = subst (Clean k) (sym (clusters_trivial weight_limit k rows)) (fill_well k (clusters rows) w);
          exact = λ p. (
            (λ m. (fill_mem k p (clusters rows)).0 (subst (Mem p) (clusters_trivial weight_limit k rows) m)),
            (λ h. subst (Mem p) (sym (clusters_trivial weight_limit k rows)) ((fill_mem k p (clusters rows)).1 h)),
          );
          anew = λ p m t. trivial_weight weight_limit rows k p (split p ((fill_mem k p (clusters rows)).0 (subst (Mem p) (clusters_trivial weight_limit k rows) m))) t;
          old = λ p m e. other_weight weight_limit rows k p e;
        }
      where
        split : (p : ℕ) → (Split k p × T (trivial k p)) ⊎ Mem p (clusters rows) → Split k p
        split p (inl s) = s.0
        split p (inr m) = clean_split k (clusters rows) w p m
