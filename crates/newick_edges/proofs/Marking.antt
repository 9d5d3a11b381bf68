-- Laws of the taxa met, for the proofs of the code. Assumes nothing.
use Prim.Native.Nat.{ℕ, zero, suc, ◌+◌, ◌-◌, ◌/◌, ◌%◌, ◌^◌, ◌≤◌, ◌<◌}
use native.Mathlib.Omega.{arith}
use mathlib.Core.Path.{◌≡◌, refl, sym, ◌∙◌}
use mathlib.Core.Bool.{Bool, true, false, ◌&&◌, false≢true}
use lib.Dec.{ltb, eqb}
use borrow.Author.Tests.{lt-ltb, le-ltb, ltb-true, eqb-true, eq-eqb, ne_eqb}
use Rattle.statement.specs.Cluster.{bit}
use Rattle.statement.proofs.Bits.{bit_zero, bit_suc}
use Rattle.newick_edges.specs.declared.Met.{Met}
use Rattle.newick_edges.specs.Marks.{first_of, fresh, meet, mask_of, side}

-- a taxon that is not in yet can be added
pub room : (k x a : ℕ) → x < k → a < 2 ^ k → bit a x ≡ 0 → a + 2 ^ x < 2 ^ k
room zero x a l h e = absurd (omega arith)
room (suc k) zero a l h e = let z : a % 2 ≡ 0 = sym (bit_zero a) ∙ e in omega arith
room (suc k) (suc x) a l h e = let r = room k x (a / 2) (omega arith) (omega arith) (sym (bit_suc a x) ∙ e) in omega arith

pub fresh_parts : (n seen x : ℕ) → fresh n seen x ≡ true → (x < n) × (bit seen x ≡ 0)
fresh_parts n seen x e = go (ltb x n) (eqb (bit seen x) 0) refl refl e
  where
    go : (a b : Bool) → ltb x n ≡ a → eqb (bit seen x) 0 ≡ b → a && b ≡ true → (x < n) × (bit seen x ≡ 0)
    go true true p q e = (ltb-true x n p, eqb-true (bit seen x) 0 q)
    go true false p q e = absurd (false≢true e)
    go false b p q e = absurd (false≢true e)

pub not_below : (n seen x : ℕ) → n ≤ x → false ≡ fresh n seen x
not_below n seen x h = rw (le-ltb x n h)

pub is_below : (n seen x : ℕ) → x < n → eqb (bit seen x) 0 ≡ fresh n seen x
is_below n seen x h = rw (lt-ltb x n h)

pub meets : (n : ℕ) (m : Met) (place x : ℕ) → fresh n m.seen x ≡ true → record { seen = m.seen + 2 ^ x; stray = m.stray } ≡ meet n m place x
unfolding meet
meets n m place x e = rw e

pub strays : (n : ℕ) (m : Met) (place x : ℕ) → fresh n m.seen x ≡ false → record { seen = m.seen; stray = first_of m.stray place } ≡ meet n m place x
unfolding meet
strays n m place x e = rw e

pub mask_is : (n seen x : ℕ) → fresh n seen x ≡ true → 2 ^ x ≡ mask_of n seen x
unfolding mask_of
mask_is n seen x e = rw e

pub mask_none : (n seen x : ℕ) → fresh n seen x ≡ false → 0 ≡ mask_of n seen x
unfolding mask_of
mask_none n seen x e = rw e

pub side_same : (n below : ℕ) → below % 2 ≡ 0 → below ≡ side n below
unfolding side
side_same n below e = rw (eq-eqb (bit below 0) 0 (bit_zero below ∙ e))

pub side_other : (n below : ℕ) → (below % 2 ≡ 0 → ⊥) → 2 ^ n - 1 - below ≡ side n below
unfolding side
side_other n below f = rw (ne_eqb (bit below 0) 0 (λ e. f (sym (bit_zero below) ∙ e)))
