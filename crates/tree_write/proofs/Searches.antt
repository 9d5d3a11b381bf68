-- What the searches of the writer find, in the words of the tree's definitions. Assumes nothing.
use Prim.Native.Nat.{ℕ, ◌^◌, ◌≤◌, ◌<◌, min}
use native.Mathlib.Omega.{arith}
use native.Mathlib.Decide.{ℕ_discrete}
use mathlib.Core.Path.{◌≡◌, refl, sym, ◌∙◌, ap}
use mathlib.Core.Logic.{◌⊎◌, inl, inr, ◌≢◌}
use mathlib.Core.Bool.{Bool, true, false, not, ◌&&◌}
use mathlib.Core.List.{List}
use lib.Bits.{bit_and, and_le_l}
use lib.Dec.{eqb}
use lib.ListN.{length, get_or}
use borrow.Author.Tests.{eqb-true, eqb-false, eq-eqb, ne_eqb}
use Rattle.statement.specs.Cluster.{bit, In, Out}
use Rattle.statement.specs.Lowest.{lowest}
use Rattle.statement.specs.Rows.{Row}
use Rattle.statement.specs.Tree.{cluster_at, strictly_in, link_of, home_of}
use Rattle.statement.proofs.Bits.{zero_or_one, bit_ext}
use Rattle.statement.proofs.Groups.{Part, strictly_is}
use Rattle.statement.proofs.Mask.{bit_and_law}
use Rattle.statement.proofs.Lowest.{lowest_is, lowest_same}
use Rattle.statement.proofs.Tests.{fails_is}
use Rattle.tree_write.specs.Vertices.{ClustersOf}

-- a is part of b exactly where the taxa in both are those of a
mask_part : (n a b : ℕ) → bit_and a b ≡ a → Part n a b
mask_part n a b e t l h = omega (arith, bit_and_law a b t, ap (λ (c : ℕ). bit c t) e)

part_mask : (n a b : ℕ) → a < 2 ^ n → Part n a b → bit_and a b ≡ a
part_mask n a b l part = bit_ext n (bit_and a b) a (omega (arith, and_le_l a b)) l (λ t lt. bit_and_law a b t ∙ at t lt (zero_or_one a t))
  where
    at : (t : ℕ) → t < n → Out a t ⊎ In a t → ◌≡◌ {A = ℕ} (min (bit a t) (bit b t)) (bit a t)
    at t lt (inl o) = omega arith
    at t lt (inr h) = omega (arith, part t lt h)

-- so the code's test is "strictly in"
same_not_in : (n a b : ℕ) → a ≡ b → false ≡ strictly_in n a b
same_not_in n a b e = sym ((fails_is (strictly_is n a b)).1 (λ s. s.other e))

masked_in : (n a b : ℕ) → a < 2 ^ n → a ≢ b → eqb (bit_and a b) a ≡ strictly_in n a b
masked_in n a b l other = go (eqb (bit_and a b) a) (λ e. eqb-true (bit_and a b) a e) (λ e. eqb-false (bit_and a b) a e)
  where
    go : (r : Bool) → (r ≡ true → bit_and a b ≡ a) → (r ≡ false → bit_and a b ≢ a) → r ≡ strictly_in n a b
    go true y f = sym ((strictly_is n a b).1 (record { part = mask_part n a b (y refl); other = other }))
    go false y f = sym ((fails_is (strictly_is n a b)).1 (λ s. f refl (part_mask n a b l s.part)))

pub strictly_law : (n a b : ℕ) → a < 2 ^ n → strictly_in n a b ≡ (not (eqb a b) && eqb (bit_and a b) a)
strictly_law n a b l = go (ℕ_discrete a b)
  where
    go : Dec (a ≡ b) → strictly_in n a b ≡ (not (eqb a b) && eqb (bit_and a b) a)
    go (yes e) = sym (same_not_in n a b e) ∙ sym (rw (eq-eqb a b e))
    go (no o) = sym (masked_in n a b l o) ∙ sym (rw (ne_eqb a b o))

-- A SEARCH through the first m numbers of an array is one through the rows
module _ (rows : List Row) (cs : List ℕ) (m : ℕ) (these : ClustersOf rows cs m) where
  lowest_row : (test : ℕ → Bool) → lowest (λ j. test (get_or cs j 0)) m ≡ lowest (λ j. test (cluster_at rows j)) (length rows)
  lowest_row test =
      lowest_same (λ j. test (get_or cs j 0)) (λ j. test (cluster_at rows j)) 0 m (λ j a l. ap test (sym (these.at j (omega arith))))
      ∙ ap (lowest (λ j. test (cluster_at rows j))) (sym these.count)

  pub link_found : (n i : ℕ) → i < m → lowest (λ j. strictly_in n (get_or cs i 0) (get_or cs j 0)) m ≡ link_of n rows i
  unfolding link_of
  link_found n i l =
      lowest_row (strictly_in n (get_or cs i 0))
      ∙ ap (λ (own : ℕ). lowest (λ j. strictly_in n own (cluster_at rows j)) (length rows)) (sym (these.at i l))

  pub home_found : (taxon : ℕ) → lowest (λ j. eqb (bit (get_or cs j 0) taxon) 1) m ≡ home_of rows taxon
  unfolding home_of
  home_found taxon = lowest_row (λ c. eqb (bit c taxon) 1)

pub lowest_most : (p : ℕ → Bool) (m : ℕ) → lowest p m ≤ m
lowest_most p m = omega (arith, (lowest_is p 0 m).to)
