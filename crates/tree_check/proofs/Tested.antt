-- What the test of the code says of a tree's length. Assumes nothing.
use Prim.Native.Nat.{ℕ, ◌+◌, ◌*◌, ◌-◌, ◌/◌, ◌%◌, ◌≤◌, ◌<◌}
use native.Mathlib.Omega.{arith}
use native.Mathlib.Decide.{dec_lt, ℕ_discrete}
use mathlib.Core.Path.{◌≡◌, sym, ◌∙◌}
use mathlib.Core.Logic.{◌≢◌}
use mathlib.Core.Bool.{true, false, ◌&&◌}
use lib.Dec.{ltb, leb, eqb}
use borrow.Author.Tests.{eqb-true, eq-eqb, ne_eqb, lt-ltb, le-ltb, lt-leb, le-leb}
use Rattle.statement.specs.Bytes.{tree_length}
use Rattle.statement.specs.Refusals.{tree_fits}
use Rattle.statement.proofs.Lowest.{some_at, some_of, none_at}

module _ (n len : ℕ) where
  none_fits : ((m : ℕ) → len ≡ tree_length n m → ⊥) → false ≡ tree_fits n len
  none_fits f = sym (none_at (λ m. eqb len (tree_length n m)) (2 * n - 2) (λ m l. ne_eqb len (tree_length n m) (f m)))

  too_short : len < 1 + n → false ≡ tree_fits n len
  too_short l = none_fits (λ m e. omega arith)

  uneven : (len - (1 + n)) % 5 ≢ 0 → false ≡ tree_fits n len
  uneven d = none_fits (λ m e. d (omega arith))

  of_length : (m : ℕ) → len ≡ tree_length n m → ltb m (2 * n - 2) ≡ tree_fits n len
  of_length m e = go (dec_lt m (2 * n - 2))
    where
      go : Dec (m < 2 * n - 2) → ltb m (2 * n - 2) ≡ tree_fits n len
      go (yes h) = lt-ltb m (2 * n - 2) h ∙ sym (some_at (λ m. eqb len (tree_length n m)) (2 * n - 2) m h (eq-eqb len (tree_length n m) e))
      go (no h) =
          le-ltb m (2 * n - 2) (omega arith)
          ∙ sym (none_at (λ m. eqb len (tree_length n m)) (2 * n - 2) (λ k l. ne_eqb len (tree_length n k) (λ q. omega arith)))

  counted : 1 + n ≤ len → (len - (1 + n)) % 5 ≡ 0 → ltb ((len - (1 + n)) / 5) (2 * n - 2) ≡ tree_fits n len
  counted l e = of_length ((len - (1 + n)) / 5) (omega arith)

  -- the three demands of the code
  pub fits_law : tree_fits n len ≡ (leb (1 + n) len && (eqb ((len - (1 + n)) % 5) 0 && ltb ((len - (1 + n)) / 5) (2 * n - 2)))
  fits_law = go (dec_lt len (1 + n)) (ℕ_discrete ((len - (1 + n)) % 5) 0)
    where
      go : Dec (len < 1 + n) → Dec ((len - (1 + n)) % 5 ≡ 0) → tree_fits n len ≡ (leb (1 + n) len && (eqb ((len - (1 + n)) % 5) 0 && ltb ((len - (1 + n)) / 5) (2 * n - 2)))
      go (yes l) d = sym (too_short l) ∙ sym (rw (lt-leb (1 + n) len l))
      go (no l) (no d) = sym (uneven d) ∙ sym (rw (le-leb (1 + n) len (omega arith), ne_eqb _ 0 d))
      go (no l) (yes d) = sym (counted (omega arith) d) ∙ sym (rw (le-leb (1 + n) len (omega arith), eq-eqb _ 0 d))

  pub fits_long : true ≡ tree_fits n len → 1 + n ≤ len
  fits_long e =
      let (m, l, q) = some_of (λ m. eqb len (tree_length n m)) (2 * n - 2) (sym e) in
      let is = eqb-true len (tree_length n m) q in
      omega arith
