-- The matrix rule keeps the laws of a rule: what is carried to an extension, and what is not. Assumes nothing.
use Prim.Native.Nat.{ℕ, suc, ◌%◌, ◌^◌, ◌<◌}
use native.Mathlib.Omega.{arith}
use native.Mathlib.Decide.{dec_lt}
use mathlib.Core.Path.{◌≡◌, refl, sym, ◌∙◌, ap, subst}
use mathlib.Core.Logic.{◌≢◌, ◌⊎◌, inl, inr}
use mathlib.Core.Bool.{false}
use lib.Dec.{T}
use Rattle.statement.specs.Cluster.{bit, In, Out, Split, Single, Pair}
use Rattle.statement.proofs.Rule.{Laws, Old, Carried}
use Rattle.statement.proofs.Instances.{matrix_rule, trivial}
use Rattle.statement.proofs.Bits.{bit_mod, zero_or_one}
use Rattle.statement.proofs.Matrix.{score_swap, score_flip, score_one}
use Rattle.statement.proofs.Single.{single_trivial}

pair_swap : (k c u u' : ℕ) → Pair k c u u' → Pair k c u' u
pair_swap k c u u' p e = subst (λ (n : ℕ). Single k c n) (sym e) (p (sym e))

-- a group of one that the newcomer does not join stays so
pub single_up : (k c u : ℕ) → u < k → bit c u ≢ bit c k → Single k (c % 2 ^ k) u → Single (suc k) c u
single_up k c u l d h = record { only = λ i li e. go i li e (dec_lt i k) }
  where
    go : (i : ℕ) → i < suc k → bit c i ≡ bit c u → Dec (i < k) → i ≡ u
    go i li e (yes m) = h.only i m (bit_mod c k i m ∙ e ∙ sym (bit_mod c k u l))
    go i li e (no m) = let n : i ≡ k = omega arith in absurd (d (sym e ∙ ap (bit c) n))

pub single_down : (k c u : ℕ) → u < k → Single (suc k) c u → Single k (c % 2 ^ k) u
single_down k c u l h = record { only = λ i li e. h.only i (omega arith) (sym (bit_mod c k i li) ∙ e ∙ bit_mod c k u l) }

module _ (n : ℕ) (d : ℕ → ℕ → ℕ) where
  -- CARRIED exactly where the newcomer joins no group of one
  carried_where : (k c : ℕ) → ((u : ℕ) → u < k → Single k (c % 2 ^ k) u → bit c u ≢ bit c k) → Carried (matrix_rule n d) k c
  carried_where k c h =
      record {
        same = λ w x y z lw lx ly lz. (
          (λ a. ((λ e. single_up k c w lw (h w lw (a.0 e)) (a.0 e)), (λ e. single_up k c y ly (h y ly (a.1 e)) (a.1 e)))),
          (λ a. ((λ e. single_down k c w lw (a.0 e)), (λ e. single_down k c y ly (a.1 e)))),
        );
        cap = refl;
      }

  -- where the newcomer joins a group of one, each four has it
  pub joined_old : (t k c u : ℕ) → u < k → Single k (c % 2 ^ k) u → bit c u ≡ bit c k → Old (matrix_rule n d) t k c
  joined_old t k c u l h e x x' y y' lx lx' ly ly' ox ox' iy iy' a = absurd (go (zero_or_one c u))
    where
      two : (w w' : ℕ) → w < k → w' < k → bit c w ≡ bit c u → bit c w' ≡ bit c u → Pair (suc k) c w w' → ⊥
      two w w' lw lw' p p' f =
          let q = h.only w lw (bit_mod c k w lw ∙ p ∙ sym (bit_mod c k u l)) in
          let q' = h.only w' lw' (bit_mod c k w' lw' ∙ p' ∙ sym (bit_mod c k u l)) in
          omega (arith, (f (q ∙ sym q')).only k (omega arith) (sym e ∙ sym p))

      go : Out c u ⊎ In c u → ⊥
      go (inl o) = two x x' lx lx' (ox ∙ sym o) (ox' ∙ sym o) a.0
      go (inr i) = two y y' ly ly' (iy ∙ sym i) (iy' ∙ sym i) a.1

  -- so always where the parent is not trivial
  steady : (k c : ℕ) → 0 < k → Split k (c % 2 ^ k) → trivial k (c % 2 ^ k) ≡ false → Carried (matrix_rule n d) k c
  steady k c pk s e = carried_where k c (λ u l h. absurd (subst T e (single_trivial k (c % 2 ^ k) u s l h)))

pub matrix_laws : (n : ℕ) (d : ℕ → ℕ → ℕ) → ((i j : ℕ) → i < n → j < n → d i j ≡ d j i) → Laws (matrix_rule n d)
matrix_laws n d s =
    record {
      swap = λ k c w x y z lw lx ly lz a. ((pair_swap k c w x a.0, a.1), score_swap n d s w x y z lw lx ly lz);
      flip = λ k c w x y z lw lx ly lz a. ((a.1, a.0), score_flip n d s w x y z lw lx ly lz);
      all = λ k c w x y z dis. ((λ e. absurd (dis.wx e)), (λ e. absurd (dis.yz e)));
      one = λ w x y z lw lx ly lz dis. score_one d w x y z (s x y lx ly);
      cap = λ k c. omega arith;
      carried = steady n d;
    }
