-- A look ahead: the taxa of the other side, and what ends a trial. Assumes nothing.
use Prim.Native.Nat.{ℕ, ◌+◌, ◌≤◌, ◌<◌, min}
use native.Mathlib.Omega.{arith}
use native.Mathlib.Decide.{dec_lt, ℕ_discrete}
use mathlib.Core.Path.{◌≡◌, sym, ◌∙◌, ap, subst}
use mathlib.Core.Logic.{◌≢◌, ◌⊎◌, inl, inr}
use mathlib.Core.Bool.{Bool, false}
use mathlib.Core.List.{List}
use lib.Dec.{T}
use lib.ListN.{length, get_or, take}
use Rattle.std.proofs.Math.Logic.{∥∥₁_elim}
use Rattle.std.proofs.Props.{props}
use Rattle.std.proofs.lemmas.List.{get_or_default, length-take, get_or-take}
use lib.IntN.{ℤ, pos, sub_ℕ}
use lib.Signed.{◌≤ℤ◌, lt_z}
use Rattle.statement.specs.Cluster.{bit}
use Rattle.statement.specs.Matrix.{distance, AcceptedMatrix, score}
use Rattle.statement.specs.Growing.{pair_trial}
use Rattle.statement.proofs.Matrix.{le_sub, of_score, above_zero}
use Rattle.statement.proofs.Pairs.{trial_means}
use Rattle.statement.proofs.Reached.{search_below}
use Rattle.bits.specs.Members.{Members}
use Rattle.neighbours.specs.Reach.{Own, Reach}
use Rattle.neighbours.specs.Near.{Others, Fails}
use Rattle.neighbours.proofs.Reaches.{half}

-- that they are all of it, a ghost field keeps without the place of each, which a search finds again
pub all_members : (k a c : ℕ) (taxa : List ℕ) (count : ℕ) → ∥ Members k a c taxa count ∥₁ → Members k a c taxa count
all_members k a c taxa count h =
    record {
      few = ∥∥₁_elim h (hlevel props) (λ m. m.few);
      each = λ j l. ∥∥₁_elim h (hlevel props) (λ m. m.each j l);
      all = λ y l e. at y l e (search_below (λ j. test (ℕ_discrete (get_or taxa j 0) y)) count);
      up = λ i j li lj. ∥∥₁_elim h (hlevel props) (λ m. m.up i j li lj);
    }
  where
    test : {i y : ℕ} → Dec (i ≡ y) → (i ≢ y) ⊎ (i ≡ y)
    test (yes e) = inr e
    test (no n) = inl n

    at : (y : ℕ) → y < k → bit c y ≢ bit c a → ((j : ℕ) → j < count → get_or taxa j 0 ≢ y) ⊎ ((j : ℕ) × (j < count) × (get_or taxa j 0 ≡ y))
        → (j : ℕ) × (j < count) × (get_or taxa j 0 ≡ y)
    at y l e (inr found) = found
    at y l e (inl none) = absurd (∥∥₁_elim h (hlevel props) (λ m. let (j, lj, same) = m.all y l e in none j lj same))

-- an item of a list of taxa of the other side is one
pub other_at : (k a c : ℕ) (taxa : List ℕ) → Others k a c taxa (length taxa) → (i x : ℕ) → i < length taxa → x ≡ get_or taxa i x → (x < k) × (bit c x ≢ bit c a)
other_at k a c taxa h i x l e =
    subst (λ (v : ℕ). (v < k) × (bit c v ≢ bit c a)) (sym (e ∙ get_or_default taxa i x 0 l)) (h i l)

-- and so is each of its first taxa
pub others_before : (k a c : ℕ) (taxa : List ℕ) → Others k a c taxa (length taxa) → (i : ℕ) → Others k a c (take i taxa) (length (take i taxa))
others_before k a c taxa h i j l =
    let few : j < min i (length taxa) = omega (arith, length-take i taxa) in
    subst (λ (v : ℕ). (v < k) × (bit c v ≢ bit c a)) (sym (get_or-take i taxa j 0 (omega arith))) (h j (omega arith))

-- WHERE some score is not above zero the trial says 0
unsupported : (z : ℤ) → lt_z (pos 0) z ≡ false → pos 1 ≤ℤ z → ⊥
unsupported z e h = subst T e ((above_zero z).0 h).lt

pub four_fails : (d : ℕ → ℕ → ℕ) (k a c x y z : ℕ) {s : ℤ} {b : Bool} → x < k → y < k → z < k → Own k a c x → bit c y ≢ bit c a → bit c z ≢ bit c a → y ≢ z
    → s ≡ score d a x y z → b ≡ lt_z (pos 0) s → b ≡ false → Fails d k a c
four_fails d k a c x y z lx ly lz ex ey ez dis es eb e all =
    unsupported (score d a x y z) (ap (lt_z (pos 0)) (sym es) ∙ sym eb ∙ e)
    (all x y z lx ly lz (record { x_side = ex.0; y_side = ey; z_side = ez }) ex.1 (λ q. absurd (dis q)))

pub half_fails : (n : ℕ) (entries : List ℕ) → AcceptedMatrix n entries → (k a c y z rz : ℕ) {p q : ℕ} {s : ℤ} {b : Bool} → k ≤ n → a < k → y < k → z < k
    → bit c y ≢ bit c a → bit c z ≢ bit c a → y ≢ z → Reach (distance n entries) k k a c z rz → p ≡ distance n entries a y → q ≡ distance n entries z y
    → s ≡ sub_ℕ (p + rz) (1000000 + q) → b ≡ lt_z (pos 0) s → b ≡ false → Fails (distance n entries) k a c
half_fails n entries accepted k a c y z rz {p} {q} lk la ly lz ey ez dis reach ep eq es eb e all =
    let d = distance n entries in
    let over = (half d k a c z rz 1 (d y z) (d a y) la (accepted.limit a y (omega arith) (omega arith)) (λ x lx. accepted.limit x z (omega arith) (omega arith)) reach).1
    (λ x lx ex. omega (arith, of_score d 1 a x y z (all x y z lx ly lz (record { x_side = ex.0; y_side = ey; z_side = ez }) ex.1 (λ w. absurd (dis w))))) in
    unsupported (sub_ℕ (p + rz) (1000000 + q)) (ap (lt_z (pos 0)) (sym es) ∙ sym eb ∙ e)
    (le_sub 1 (p + rz) (1000000 + q) (omega (arith, over, ep, eq, accepted.same y z (omega arith) (omega arith))))

pub fails_zero : (n : ℕ) (d : ℕ → ℕ → ℕ) (k a c w : ℕ) → Fails d k a c → 0 ≡ pair_trial d k a c w
fails_zero n d k a c w fails = go (dec_lt 0 (pair_trial d k a c w))
  where
    go : Dec (0 < pair_trial d k a c w) → 0 ≡ pair_trial d k a c w
    go (no l) = omega arith
    go (yes l) =
        let p = (trial_means n d k a c w 1 (omega arith)).0 (omega arith) in
        absurd (fails (λ x y z lx ly lz parted ax yz. p.1 x y z lx ly lz parted (ax, yz)))
