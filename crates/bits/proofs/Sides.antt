-- Laws of the two sides: one taxon more in the list, and the bits of the own side. Assumes nothing.
use Prim.Native.Nat.{ℕ, zero, suc, ◌+◌, ◌-◌, ◌/◌, ◌%◌, ◌^◌, ◌<◌}
use native.Mathlib.Omega.{arith}
use native.Mathlib.Decide.{dec_lt}
use native.Mathlib.Nat.{mod-lt}
use mathlib.Core.Path.{◌≡◌, refl, sym, ◌∙◌, ap, subst}
use mathlib.Core.Logic.{◌≢◌}
use mathlib.Core.Bool.{Bool, true, false, cond, not}
use mathlib.Core.List.{List}
use lib.Bits.{bit_and, and_mask}
use lib.Pow.{pow_pos}
use lib.Dec.{eqb}
use mir.Val.{bool_byte}
use lib.ListN.{length, get_or, set}
use lib.Seq.{get_or-set_same, get_or-set_other}
use borrow.Author.Tests.{eq-eqb, ne_eqb}
use Rattle.statement.specs.Cluster.{bit}
use Rattle.statement.proofs.Bits.{bit_zero, bit_suc, bit_lt, bit_mod}
use Rattle.statement.proofs.Parts.{on_side, off_side}
use Rattle.bits.specs.Members.{Members, Side}

-- THE MEMBERS of the other side
module _ (a c m : ℕ) (taxa : List ℕ) (count : ℕ) (h : Members m a c taxa count) (room : count < length taxa) where
  kept : (j : ℕ) → j < count → get_or (set taxa count m) j 0 ≡ get_or taxa j 0
  kept j l = get_or-set_other taxa count j m 0 (λ e. absurd (omega arith))

  old : (j : ℕ) → j < count → (get_or (set taxa count m) j 0 < m + 1) × (bit c (get_or (set taxa count m) j 0) ≢ bit c a)
  old j l = rw (kept j l) (omega (arith, (h.each j l).0), (h.each j l).1)

  found : (y : ℕ) → y < m → bit c y ≢ bit c a → (j : ℕ) × (j < count) × (get_or (set taxa count m) j 0 ≡ y)
  found y l e = let (j, lj, ej) = h.all y l e in (j, lj, kept j lj ∙ ej)

  rising : (i j : ℕ) → i < count → j < i → get_or (set taxa count m) j 0 < get_or (set taxa count m) i 0
  rising i j li lj = omega (arith, kept i li, kept j (omega arith), h.up i j li lj)

  members_on : bit c m ≡ bit c a → Members (m + 1) a c (set taxa count m) count
  members_on e = record { few = omega (arith, h.few); each = old; all = all; up = rising }
    where
      all : (y : ℕ) → y < m + 1 → bit c y ≢ bit c a → (j : ℕ) × (j < count) × (get_or (set taxa count m) j 0 ≡ y)
      all y l n = go (dec_lt y m)
        where
          go : Dec (y < m) → (j : ℕ) × (j < count) × (get_or (set taxa count m) j 0 ≡ y)
          go (yes q) = found y q n
          go (no q) = let same : m ≡ y = omega arith in absurd (n (subst (λ (i : ℕ). bit c i ≡ bit c a) same e))

  members_off : bit c m ≢ bit c a → Members (m + 1) a c (set taxa count m) (count + 1)
  members_off e = record { few = omega (arith, h.few); each = each; all = all; up = up }
    where
      last : get_or (set taxa count m) count 0 ≡ m
      last = get_or-set_same taxa count m 0 room

      each : (j : ℕ) → j < count + 1 → (get_or (set taxa count m) j 0 < m + 1) × (bit c (get_or (set taxa count m) j 0) ≢ bit c a)
      each j l = go (dec_lt j count)
        where
          go : Dec (j < count) → (get_or (set taxa count m) j 0 < m + 1) × (bit c (get_or (set taxa count m) j 0) ≢ bit c a)
          go (yes q) = old j q
          go (no q) =
              let same : count ≡ j = omega arith in
              subst (λ (i : ℕ). (get_or (set taxa count m) i 0 < m + 1) × (bit c (get_or (set taxa count m) i 0) ≢ bit c a)) same (rw last (omega arith, e))

      up : (i j : ℕ) → i < count + 1 → j < i → get_or (set taxa count m) j 0 < get_or (set taxa count m) i 0
      up i j li lj = go (dec_lt i count)
        where
          go : Dec (i < count) → get_or (set taxa count m) j 0 < get_or (set taxa count m) i 0
          go (yes q) = rising i j q lj
          go (no q) =
              let same : count ≡ i = omega arith in
              subst (λ (g : ℕ). get_or (set taxa count m) j 0 < get_or (set taxa count m) g 0) same (rw last (omega (arith, kept j (omega arith), (h.each j (omega arith)).0)))

      all : (y : ℕ) → y < m + 1 → bit c y ≢ bit c a → (j : ℕ) × (j < count + 1) × (get_or (set taxa count m) j 0 ≡ y)
      all y l n = go (dec_lt y m)
        where
          go : Dec (y < m) → (j : ℕ) × (j < count + 1) × (get_or (set taxa count m) j 0 ≡ y)
          go (yes q) = let (j, lj, ej) = found y q n in (j, omega arith, ej)
          go (no q) = let same : m ≡ y = omega arith in (count, omega arith, last ∙ same)

  pub members_turn : (s : Bool) {more : ℕ} → s ≡ eqb (bit c m) (bit c a) → more ≡ bool_byte (not s) → Members (m + 1) a c (set taxa count m) (count + more)
  members_turn true {more} e f = let r : count + more ≡ count = omega (arith, f) in rw r (members_on (on_side c a m e refl))
  members_turn false {more} e f = let r : count + more ≡ count + 1 = omega (arith, f) in rw r (members_off (off_side c a m e refl))

-- THE OWN SIDE: the bits of what is left of 2 ^ k - 1
pub bit_flip : (k m i : ℕ) → m < 2 ^ k → i < k → bit (2 ^ k - 1 - m) i ≡ 1 - bit m i
bit_flip zero m i l h = absurd (omega arith)
bit_flip (suc k) m zero l h = bit_zero (2 ^ suc k - 1 - m) ∙ omega (arith, bit_zero m, pow_pos k)
bit_flip (suc k) m (suc i) l h =
    bit_suc (2 ^ suc k - 1 - m) i
    ∙ ap (λ (n : ℕ). bit n i) (let e : (2 ^ suc k - 1 - m) / 2 ≡ 2 ^ k - 1 - m / 2 = omega arith in e)
    ∙ bit_flip k (m / 2) i (omega arith) (omega arith)
    ∙ ap (λ (b : ℕ). 1 - b) (sym (bit_suc m i))

module _ (a c one : ℕ) (e : one ≡ 2 ^ a) where
  masked : bit_and c (one - 1) ≡ c % 2 ^ a
  masked = ap (λ (n : ℕ). bit_and c (n - 1)) e ∙ and_mask c a

  pub low_below : bit_and c (one - 1) < 2 ^ a
  low_below = rw masked (mod-lt c (pow_pos a))

  low_bit : (u : ℕ) → u < a → bit (bit_and c (one - 1)) u ≡ bit c u
  low_bit u l = ap (λ (n : ℕ). bit n u) masked ∙ bit_mod c a u l

  same_bit : (u : ℕ) → bit c a ≡ 1 → bit c u ≡ cond (eqb (bit c u) (bit c a)) 1 0
  same_bit u h = go (dec_lt (bit c u) 1)
    where
      go : Dec (bit c u < 1) → bit c u ≡ cond (eqb (bit c u) (bit c a)) 1 0
      go (yes q) = rw (ne_eqb (bit c u) (bit c a) (λ f. absurd (omega arith))) (omega arith)
      go (no q) = rw (eq-eqb (bit c u) (bit c a) (omega (arith, bit_lt c u))) (omega (arith, bit_lt c u))

  other_bit : (u : ℕ) → bit c a ≡ 0 → 1 - bit c u ≡ cond (eqb (bit c u) (bit c a)) 1 0
  other_bit u h = go (dec_lt (bit c u) 1)
    where
      go : Dec (bit c u < 1) → 1 - bit c u ≡ cond (eqb (bit c u) (bit c a)) 1 0
      go (yes q) = rw (eq-eqb (bit c u) (bit c a) (omega arith)) (omega arith)
      go (no q) = rw (ne_eqb (bit c u) (bit c a) (λ f. absurd (omega arith))) (omega (arith, bit_lt c u))

  pub side_in : bit c a ≡ 1 → Side a c (bit_and c (one - 1))
  side_in h = record { below = low_below; has = λ u l. low_bit u l ∙ same_bit u h }

  pub side_out : bit c a ≢ 1 → Side a c (one - 1 - bit_and c (one - 1))
  side_out h =
      let m = bit_and c (one - 1) in
      let whole : one - 1 - m ≡ 2 ^ a - 1 - m = omega arith in
      rw whole
      (record {
        below = omega (arith, low_below, pow_pos a);
        has = λ u l. bit_flip a m u low_below l ∙ ap (λ (b : ℕ). 1 - b) (low_bit u l) ∙ other_bit u (omega (arith, bit_lt c a));
      })
