-- Tests, and what they say. Assumes nothing.
use Prim.Native.Nat.{ℕ, ◌≤◌, ◌<◌}
use mathlib.Core.Path.{◌≡◌, refl, ap}
use mathlib.Core.Logic.{◌↔◌}
use mathlib.Core.Bool.{Bool, true, false, not, ◌&&◌, ◌||◌, and-eq-true_iff, true≢false, false≢true}
use lib.Dec.{ltb, leb, eqb}
use borrow.Author.Tests.{ltb-true, ltb-false, lt-ltb, le-ltb, leb-true, le-leb, eqb-true, eq-eqb, not-false}
use Rattle.statement.specs.Lowest.{somewhere}
use Rattle.statement.proofs.Lowest.{none_of, none_at}

pub less_is : (a b : ℕ) → (ltb a b ≡ true) ↔ (a < b)
less_is a b = (ltb-true a b, lt-ltb a b)

pub most_is : (a b : ℕ) → (leb a b ≡ true) ↔ (a ≤ b)
most_is a b = (leb-true a b, le-leb a b)

pub same_is : (a b : ℕ) → (eqb a b ≡ true) ↔ (a ≡ b)
same_is a b = (eqb-true a b, eq-eqb a b)

pub both_is : {A B : Type 0} {a b : Bool} → (a ≡ true) ↔ A → (b ≡ true) ↔ B → (a && b ≡ true) ↔ (A × B)
both_is {A} {B} {a} {b} f g = (λ e. let (x, y) = (and-eq-true_iff a b).0 e in (f.0 x, g.0 y), λ h. (and-eq-true_iff a b).1 (f.1 h.0, g.1 h.1))

pub neither_is : {A B : Type 0} {a b : Bool} → (a ≡ false) ↔ A → (b ≡ false) ↔ B → (a || b ≡ false) ↔ (A × B)
neither_is {a = true} f g = (λ e. absurd (true≢false e), λ h. absurd (true≢false (f.1 h.0)))
neither_is {a = false} f g = (λ e. (f.0 refl, g.0 e), λ h. g.1 h.1)

pub not_is : {A : Type 0} {a : Bool} → (a ≡ true) ↔ A → (not a ≡ false) ↔ A
not_is {A} {a} f = (λ e. f.0 (not-false a e), λ h. ap not (f.1 h))

pub fails_is : {A : Type 0} {a : Bool} → (a ≡ true) ↔ A → (a ≡ false) ↔ (A → ⊥)
fails_is {a = true} f = (λ e. absurd (true≢false e), λ h. absurd (h (f.0 refl)))
fails_is {a = false} f = (λ e h. false≢true (f.1 h), λ h. refl)

pub none_is : {P : ℕ → Type 0} (p : ℕ → Bool) (m : ℕ) → ((i : ℕ) → (p i ≡ false) ↔ P i) → (somewhere p m ≡ false) ↔ ((i : ℕ) → i < m → P i)
none_is p m f = (λ e i l. (f i).0 (none_of p m e i l), λ h. none_at p m (λ i l. (f i).1 (h i l)))

pub not_less_is : (a b : ℕ) → (ltb a b ≡ false) ↔ (b ≤ a)
not_less_is a b = (ltb-false a b, le-ltb a b)

-- the second test fails where the first passes
pub unless_is : {B : Type 0} (a : Bool) {b : Bool} → (b ≡ false) ↔ B → (a && b ≡ false) ↔ (a ≡ true → B)
unless_is true g = ((λ e q. g.0 e), (λ f. g.1 (f refl)))
unless_is false g = ((λ e q. absurd (false≢true q)), (λ f. refl))
