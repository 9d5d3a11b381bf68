-- The number of a group has the bits that its test says; groups that are part of others. Assumes nothing.
use Prim.Native.Nat.{ℕ, zero, suc, ◌+◌, ◌^◌, ◌≤◌, ◌<◌}
use native.Mathlib.Omega.{arith}
use native.Mathlib.Decide.{dec_lt}
use mathlib.Core.Path.{◌≡◌, refl, sym, ◌∙◌, ap}
use mathlib.Core.Logic.Iff
use mathlib.Core.Logic.{◌≢◌, ◌↔◌}
use mathlib.Core.Bool.{Bool, true, false, cond, not, ◌&&◌}
use lib.Dec.{eqb}
use lib.Pow.{pow_pos}
use borrow.Author.Tests.{eqb-true, eqb-false, eq-eqb, ne_eqb, not-true}
use Rattle.statement.specs.Cluster.{bit, In, group_of}
use Rattle.statement.specs.Lowest.{somewhere}
use Rattle.statement.specs.Tree.{strictly_in}
use Rattle.statement.proofs.Bits.{lt_bit, bit_plus, bit_past, bit_top}
use Rattle.statement.proofs.Tests.{both_is, none_is, unless_is}

pub group_below : (test : ℕ → Bool) (n : ℕ) → group_of test n < 2 ^ n
unfolding group_of
group_below test zero = omega arith
group_below test (suc n) = go (test n) (group_below test n)
  where
    go : (b : Bool) → group_of test n < 2 ^ n → group_of test n + cond b (2 ^ n) 0 < 2 ^ suc n
    go true h = omega arith
    go false h = omega (arith, pow_pos n)

pub group_bit : (test : ℕ → Bool) (n i : ℕ) → i < n → bit (group_of test n) i ≡ cond (test i) 1 0
unfolding group_of
group_bit test zero i l = absurd (omega arith)
group_bit test (suc n) i l = go (test n) refl (dec_lt i n) (λ h. group_bit test n i h)
  where
    swap : group_of test n + 2 ^ n ≡ 2 ^ n + group_of test n
    swap = omega arith

    none : group_of test n + 0 ≡ group_of test n
    none = omega arith

    last : (b : Bool) → test n ≡ b → i ≡ n → ◌≡◌ {A = ℕ} (cond b 1 0) (cond (test i) 1 0)
    last b e q = ap (λ (t : Bool). cond {A = ℕ} t 1 0) (sym (ap test q ∙ e))

    go : (b : Bool) → test n ≡ b → Dec (i < n) → (i < n → bit (group_of test n) i ≡ cond (test i) 1 0) → bit (group_of test n + cond b (2 ^ n) 0) i ≡ cond (test i) 1 0
    go true e (yes h) ih = ap (λ (c : ℕ). bit c i) swap ∙ bit_plus (group_of test n) n i h ∙ ih h
    go false e (yes h) ih = ap (λ (c : ℕ). bit c i) none ∙ ih h
    go true e (no h) ih =
        let q : i ≡ n = omega arith in
        ap (λ (c : ℕ). bit c i) swap ∙ ap (bit (2 ^ n + group_of test n)) q ∙ bit_top (group_of test n) n (group_below test n) ∙ last true e q
    go false e (no h) ih =
        let q : i ≡ n = omega arith in
        ap (λ (c : ℕ). bit c i) none ∙ ap (bit (group_of test n)) q ∙ bit_past (group_of test n) n (group_below test n) ∙ last false e q

-- every taxon below n of the group a is in the group b; strictly, where the two differ
abbrev pub Part : ℕ → ℕ → ℕ → Type 0
Part n a b = (i : ℕ) → i < n → In a i → In b i

pub record Strictly (n a b : ℕ) : Type 0 where
  pub part : Part n a b
  pub other : a ≢ b

-- a group that is part of another has no greater number
pub part_le : (n a b : ℕ) → a < 2 ^ n → Part n a b → a ≤ b
part_le n a b la part = go (dec_lt b a)
  where
    go : Dec (b < a) → a ≤ b
    go (yes h) = let (i, l, ob, ia) = lt_bit n b a h la in absurd (omega (arith, part i l ia))
    go (no h) = omega arith

-- and the tree's test says whether it is strictly part of it
pub strictly_is : (n a b : ℕ) → (strictly_in n a b ≡ true) ↔ Strictly n a b
strictly_is n a b =
    let lacked : ℕ → Bool = λ i. eqb (bit a i) 1 && eqb (bit b i) 0 in
    let all = both_is (Iff.trans (not-true (somewhere lacked n), ap not) (none_is lacked n here)) ((λ e. eqb-false a b (not-true _ e)), (λ o. ap not (ne_eqb a b o))) in
    ((λ e. record { part = (all.0 e).0; other = (all.0 e).1 }), (λ s. all.1 (s.part, s.other)))
  where
    inside : (i : ℕ) → (eqb (bit b i) 0 ≡ false) ↔ In b i
    inside i = ((λ e. omega (arith, eqb-false (bit b i) 0 e)), (λ h. ne_eqb (bit b i) 0 (λ o. omega arith)))

    here : (i : ℕ) → (eqb (bit a i) 1 && eqb (bit b i) 0 ≡ false) ↔ (In a i → In b i)
    here i =
        let u = unless_is (eqb (bit a i) 1) (inside i) in
        ((λ e h. u.0 e (eq-eqb (bit a i) 1 h)), (λ f. u.1 (λ q. f (eqb-true (bit a i) 1 q))))
