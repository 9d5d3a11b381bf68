-- The entries of a typed matrix, one by one, and the sizes of what is reckoned with. Assumes nothing.
use Prim.Native.Nat.{ℕ, ◌+◌, ◌*◌, ◌/◌, ◌%◌, ◌≤◌, ◌<◌}
use native.Mathlib.Omega.{arith}
use native.Mathlib.Nat.{mul-le-mul}
use mathlib.Core.Path.{◌≡◌, refl, ◌∙◌, ap}
use mathlib.Core.Logic.{◌⊎◌, inl, inr}
use mathlib.Core.Bool.{Bool, true, false, cond}
use mathlib.Core.List.{List, map}
use lib.Dec.{eqb}
use lib.ListN.{length, get_or, length-map}
use lib.Seq.{get_or-drop}
use borrow.Author.Tests.{eqb-true}
use Rattle.statement.specs.Tree.{numbers}
use Rattle.statement.proofs.Walks.{numbers_length, map_at}
use Rattle.numerals.specs.Numerals.{numbers_in}
use Rattle.typed.specs.Typed.{values_in, is_full, value_for, mirrored, entries_of}

-- for at most 64 taxa there are few entries
pub square_small : (n : ℕ) → n ≤ 64 → n * n ≤ 4096
square_small n l = mul-le-mul l l

-- value k is the number behind n and k others
pub value_is : (text : List ℕ) (k : ℕ) → get_or (values_in text) k 0 ≡ get_or (numbers_in text) (1 + k) 0
value_is text k = get_or-drop 1 (numbers_in text) k 0

module _ (n : ℕ) (values : List ℕ) where
  pub full_is : is_full n values ≡ true → entries_of n values ≡ values
  unfolding entries_of
  full_is f = ap (λ (t : Bool). cond t values (map (mirrored n values) (numbers 0 (n * n)))) f

  pub half_is : is_full n values ≡ false → entries_of n values ≡ map (mirrored n values) (numbers 0 (n * n))
  unfolding entries_of
  half_is f = ap (λ (t : Bool). cond t values (map (mirrored n values) (numbers 0 (n * n)))) f

  pub entries_length : length (entries_of n values) ≡ n * n
  entries_length = go (is_full n values) refl
    where
      go : (t : Bool) → is_full n values ≡ t → length (entries_of n values) ≡ n * n
      go true f = ap length (full_is f) ∙ eqb-true (length values) (n * n) f
      go false f = ap length (half_is f) ∙ length-map (numbers 0 (n * n)) (mirrored n values) ∙ numbers_length 0 (n * n)

  module _ (e : ℕ) (l : e < n * n) where
    pub mirrored_at : is_full n values ≡ false → get_or (entries_of n values) e 0 ≡ mirrored n values e
    mirrored_at f =
        ap (λ (es : List ℕ). get_or es e 0) (half_is f) ∙ map_at (mirrored n values) 0 (n * n) e 0 l
        ∙ ap (mirrored n values) (let same : 0 + e ≡ e = omega arith in same)

    pub diagonal_zero : is_full n values ≡ false → eqb (e / n) (e % n) ≡ true → get_or (entries_of n values) e 0 ≡ 0
    diagonal_zero f d = mirrored_at f ∙ ap (λ (t : Bool). cond t 0 (get_or values (value_for n false e) 0)) d

    pub entry_typed : (t : Bool) → is_full n values ≡ t → (t ≡ true) ⊎ (eqb (e / n) (e % n) ≡ false)
        → get_or (entries_of n values) e 0 ≡ get_or values (value_for n t e) 0
    entry_typed true f d = ap (λ (es : List ℕ). get_or es e 0) (full_is f)
    entry_typed false f (inl d) = absurd (let z : ◌≡◌ {A = ℕ} 0 1 = cc in omega arith)
    entry_typed false f (inr d) = mirrored_at f ∙ ap (λ (t : Bool). cond t 0 (get_or values (value_for n false e) 0)) d
