-- Ways to part the trees, and the splits that a rule supports: the same thing said twice. Assumes nothing.
use Prim.Native.Nat.{ℕ, zero, suc, ◌≤◌, ◌<◌}
use native.Mathlib.Omega.{arith}
use mathlib.Core.Path.{◌≡◌, refl, sym, ◌∙◌, ap}
use mathlib.Core.Logic.{◌≢◌, ◌↔◌, ◌⊎◌, inl, inr}
use mathlib.Core.Bool.{Bool, true, false, cond, not, beq, true≢false}
use lib.Dec.{eqb}
use borrow.Author.Tests.{eq-eqb, ne_eqb}
use Rattle.statement.specs.Cluster.{bit, In, Out, Split, Pair}
use Rattle.statement.proofs.Rule.{Rule, Laws, Ok, Supported}
use Rattle.statement.proofs.Bits.{lt_bit, bit_ext, bit_none, zero_or_one}
use Rattle.statement.proofs.Grow.{ok_flip}
use Rattle.statement.proofs.Groups.{group_below, group_bit}
use Rattle.claims.specs.Demands.{Way, group_number, EveryFour, DifferentUnlessAlone}

-- two sides that differ from a third are one
third : (a b c : Bool) → a ≢ c → b ≢ c → a ≡ b
third true true c h k = refl
third false false c h k = refl
third true false true h k = absurd (h refl)
third true false false h k = absurd (k refl)
third false true true h k = absurd (k refl)
third false true false h k = absurd (h refl)

-- two sides
differ : (a b : Bool) → (a ≢ b) → not (beq a b) ≡ true
differ true true h = absurd (h refl)
differ true false h = refl
differ false true h = refl
differ false false h = absurd (h refl)

agree : (a b : Bool) → a ≡ b → not (beq a b) ≡ false
agree true true e = refl
agree true false e = absurd (true≢false e)
agree false true e = absurd (true≢false (sym e))
agree false false e = refl

module _ (n : ℕ) (pn : 0 < n) (way : Way n) where
  apart_in : (i : ℕ) → i < n → way.side i ≢ way.side 0 → In (group_number n way) i
  apart_in i l h = group_bit _ n i l ∙ ap (λ (b : Bool). cond {A = ℕ} b 1 0) (differ (way.side i) (way.side 0) h)

  same_out : (i : ℕ) → i < n → way.side i ≡ way.side 0 → Out (group_number n way) i
  same_out i l e = group_bit _ n i l ∙ ap (λ (b : Bool). cond {A = ℕ} b 1 0) (agree (way.side i) (way.side 0) e)

  same_or_apart : (i : ℕ) → (way.side i ≡ way.side 0) ⊎ (way.side i ≢ way.side 0)
  same_or_apart i = go (way.side i) (way.side 0)
    where
      go : (a b : Bool) → (a ≡ b) ⊎ (a ≢ b)
      go true true = inl refl
      go true false = inr true≢false
      go false true = inr (λ e. true≢false (sym e))
      go false false = inl refl

  out_same : (i : ℕ) → i < n → Out (group_number n way) i → way.side i ≡ way.side 0
  out_same i l o = go (same_or_apart i)
    where
      go : (way.side i ≡ way.side 0) ⊎ (way.side i ≢ way.side 0) → way.side i ≡ way.side 0
      go (inl e) = e
      go (inr h) = absurd (omega (arith, apart_in i l h))

  in_apart : (i : ℕ) → i < n → In (group_number n way) i → way.side i ≢ way.side 0
  in_apart i l h e = omega (arith, same_out i l e)

  -- a way's group number is a split
  way_split : Split n (group_number n way)
  way_split =
      record {
        some = go (group_number n way) refl;
        below = group_below _ n;
        free = same_out 0 pn refl;
      }
    where
      go : (c : ℕ) → group_number n way ≡ c → 0 < group_number n way
      go zero e = let (i, l, h) = way.other in absurd (omega (arith, apart_in i l h, ap (λ (c : ℕ). bit c i) e, bit_none i))
      go (suc c) e = omega arith

  -- two trees are on one side exactly where their digits agree
  pub same_side : (i j : ℕ) → i < n → j < n → (way.side i ≡ way.side j) ↔ (bit (group_number n way) i ≡ bit (group_number n way) j)
  same_side i j li lj = ((λ e. there e (same_or_apart i)), (λ e. back e (zero_or_one (group_number n way) i)))
    where
      there : way.side i ≡ way.side j → (way.side i ≡ way.side 0) ⊎ (way.side i ≢ way.side 0) → bit (group_number n way) i ≡ bit (group_number n way) j
      there e (inl a) = same_out i li a ∙ sym (same_out j lj (sym e ∙ a))
      there e (inr a) = apart_in i li a ∙ sym (apart_in j lj (λ q. a (e ∙ q)))

      back : bit (group_number n way) i ≡ bit (group_number n way) j → Out (group_number n way) i ⊎ In (group_number n way) i → way.side i ≡ way.side j
      back e (inl o) = out_same i li o ∙ sym (out_same j lj (sym e ∙ o))
      back e (inr h) = third (way.side i) (way.side j) (way.side 0) (in_apart i li h) (in_apart j lj (sym e ∙ h))

  -- so a pair of a group is a pair of the split
  pub pair_is : (u u' : ℕ) → u < n → DifferentUnlessAlone n way u u' ↔ Pair n (group_number n way) u u'
  pair_is u u' l = (
    (λ p e. record { only = λ i li b. p e i li ((same_side i u li l).1 b) }),
    (λ p e i li q. (p e).only i li ((same_side i u li l).0 q)),
  )

-- and every split is that of a way
pub number_way : (n c : ℕ) → 0 < n → Split n c → (way : Way n) × (group_number n way ≡ c) × ((i : ℕ) → way.side i ≡ eqb (bit c i) 1)
number_way n c pn s =
    let (i, l, z, o) = lt_bit n 0 c s.some s.below in
    let way : Way n = record { side = λ j. eqb (bit c j) 1; other = (i, l, λ e. true≢false (sym (eq-eqb (bit c i) 1 o) ∙ e ∙ ne_eqb (bit c 0) 1 (λ q. omega (arith, s.free)))) } in
    (way, bit_ext n (group_number n way) c (group_below _ n) s.below (λ j lj. same way (λ t. refl) j lj (zero_or_one c j)), λ j. refl)
  where
    home : eqb (bit c 0) 1 ≡ false
    home = ne_eqb (bit c 0) 1 (λ q. omega (arith, s.free))

    same : (way : Way n) → ((i : ℕ) → way.side i ≡ eqb (bit c i) 1) → (j : ℕ) → j < n → Out c j ⊎ In c j → bit (group_number n way) j ≡ bit c j
    same way sides j l (inl o) = same_out n pn way j l (sides j ∙ ne_eqb (bit c j) 1 (λ q. omega arith) ∙ sym (sides 0 ∙ home)) ∙ sym o
    same way sides j l (inr i) = apart_in n pn way j l (λ e. true≢false (sym (eq-eqb (bit c j) 1 i) ∙ sym (sides j) ∙ e ∙ sides 0 ∙ home)) ∙ sym i

-- EVERY FOUR of a way is above zero exactly when its split is supported; Above says so of a four, as the rule does
module _ (r : Rule) (laws : Laws r) (n : ℕ) (pn : 0 < n) (fits : n ≤ r.taxa) (Above : Way n → ℕ → ℕ → ℕ → ℕ → Type 0) (way : Way n)
    (means : (u u' v v' : ℕ) → u < n → u' < n → v < n → v' < n → way.side u ≡ way.side u' → way.side v ≡ way.side v' → way.side u ≢ way.side v
    → Above way u u' v v' ↔ Ok r 1 n (group_number n way) u u' v v') where
  pub way_supported : EveryFour n way Above ↔ Supported r n (group_number n way)
  way_supported = (
    (λ f. record {
      split = way_split n pn way;
      fours = λ u u' v v' lu lu' lv lv' ou ou' iv iv'.
          let su = out_same n pn way u lu ou in
          let su' = out_same n pn way u' lu' ou' in
          let sv = in_apart n pn way v lv iv in
          let sv' = in_apart n pn way v' lv' iv' in
          (means u u' v v' lu lu' lv lv' (su ∙ sym su') (third (way.side v) (way.side v') (way.side 0) sv sv') (λ e. sv (sym e ∙ su))).0
          (f u u' v v' lu lu' lv lv' (su ∙ sym su') (third (way.side v) (way.side v') (way.side 0) sv sv') (λ e. sv (sym e ∙ su)));
    }),
    (λ s u u' v v' lu lu' lv lv' uu vv uv. (means u u' v v' lu lu' lv lv' uu vv uv).1 (turn s u u' v v' lu lu' lv lv' uu vv uv (same_or_apart n pn way u) (same_or_apart n pn way v))),
  )
    where
      turn : Supported r n (group_number n way) → (u u' v v' : ℕ) → u < n → u' < n → v < n → v' < n → way.side u ≡ way.side u' → way.side v ≡ way.side v' → way.side u ≢ way.side v
          → (way.side u ≡ way.side 0) ⊎ (way.side u ≢ way.side 0) → (way.side v ≡ way.side 0) ⊎ (way.side v ≢ way.side 0) → Ok r 1 n (group_number n way) u u' v v'
      turn s u u' v v' lu lu' lv lv' uu vv uv (inl a) (inl b) = absurd (uv (a ∙ sym b))
      turn s u u' v v' lu lu' lv lv' uu vv uv (inl a) (inr b) =
          s.fours u u' v v' lu lu' lv lv' (same_out n pn way u lu a) (same_out n pn way u' lu' (sym uu ∙ a)) (apart_in n pn way v lv b) (apart_in n pn way v' lv' (λ e. b (vv ∙ e)))
      turn s u u' v v' lu lu' lv lv' uu vv uv (inr a) (inl b) =
          ok_flip r laws 1 n (group_number n way) v v' u u' (omega arith) (omega arith) (omega arith) (omega arith)
          (s.fours v v' u u' lv lv' lu lu' (same_out n pn way v lv b) (same_out n pn way v' lv' (sym vv ∙ b)) (apart_in n pn way u lu a) (apart_in n pn way u' lu' (λ e. a (uu ∙ e))))
      turn s u u' v v' lu lu' lv lv' uu vv uv (inr a) (inr b) = absurd (uv (third (way.side u) (way.side v) (way.side 0) a b))
