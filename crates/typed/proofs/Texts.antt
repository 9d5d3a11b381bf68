-- What is said of a text, one law for each way out. Assumes nothing.
use Prim.Native.Nat.{ℕ, ◌+◌, ◌*◌, ◌≤◌, ◌<◌, min}
use native.Mathlib.Omega.{arith}
use mathlib.Core.Path.{◌≡◌, refl, sym, ap}
use mathlib.Core.Logic.{◌≢◌}
use mathlib.Core.Bool.{Bool, true, false, cond, ◌||◌}
use mathlib.Core.List.{List}
use Rattle.std.specs.Prelude.{Option, Some, None, Result, Ok, Err}
use lib.Dec.{ltb, eqb}
use lib.ListN.{length, get_or}
use borrow.Author.Tests.{ltb-false, lt-ltb, le-ltb, eq-eqb, ne_eqb}
use Rattle.statement.specs.Lowest.{lowest}
use Rattle.statement.proofs.Lowest.{none_of}
use Rattle.numerals.specs.Numerals.{starts_in, wrong_at}
use Rattle.numerals.specs.declared.Fault.TheVariants as wrong
use Rattle.typed.specs.declared.Mistake.{Mistake}
use Rattle.typed.specs.declared.Mistake.TheVariants.{Strange, TooLarge, Taxa, Count, Room}
use Rattle.typed.specs.Typed.{taxa_typed, values_in, half, said_of, Taken}

-- the n of a text whose numbers were counted
abbrev told : Result ℕ Mistake → Option ℕ
told (Ok n) = Some n
told (Err (Strange p)) = None
told (Err (TooLarge p)) = None
told (Err (Taxa p)) = None
told (Err (Count n v p)) = Some n
told (Err Room) = None

module _ (text : List ℕ) where
  pub said_strange : (p : ℕ) → p ≡ lowest (wrong_at wrong.Strange text) (length text) → p < length text → Err (Strange p) ≡ said_of text
  unfolding said_of
  said_strange p e l = rw (← e, lt-ltb p (length text) l)

  module _ (p : ℕ) (e : p ≡ lowest (wrong_at wrong.Strange text) (length text)) (l : length text ≤ p) where
    pub said_large : (q : ℕ) → q ≡ lowest (wrong_at wrong.TooLarge text) (length text) → q < length text → Err (TooLarge q) ≡ said_of text
    unfolding said_of
    said_large q f m = rw (← e, le-ltb p (length text) l, ← f, lt-ltb q (length text) m)

    module _ (q : ℕ) (f : q ≡ lowest (wrong_at wrong.TooLarge text) (length text)) (m : length text ≤ q) (n : ℕ) (g : n ≡ min (taxa_typed text) 4294967296) where
      pub said_few : (at : ℕ) → at ≡ get_or (starts_in text) 0 (length text) → n < 2 → Err (Taxa at) ≡ said_of text
      unfolding said_of
      said_few at h k =
          rw (← e, le-ltb p (length text) l, ← f, le-ltb q (length text) m, lt-ltb (taxa_typed text) 2 (omega arith), ← h)

      pub said_many : (at : ℕ) → at ≡ get_or (starts_in text) 0 (length text) → 64 < n → Err (Taxa at) ≡ said_of text
      unfolding said_of
      said_many at h k =
          rw (
            ← e,
            le-ltb p (length text) l,
            ← f,
            le-ltb q (length text) m,
            le-ltb (taxa_typed text) 2 (omega arith),
            lt-ltb 64 (taxa_typed text) (omega arith),
            ← h,
          )

      module _ (two : 2 ≤ n) (few : n ≤ 64) (v : ℕ) (h : v ≡ length (values_in text)) where
        past : said_of text ≡ cond (eqb v (n * n) || eqb v (half n)) (Ok n) (Err (Count n v (get_or (starts_in text) (1 + n * n) (length text))))
        unfolding said_of
        past =
            let same : taxa_typed text ≡ n = omega arith in
            rw (← e, le-ltb p (length text) l, ← f, le-ltb q (length text) m, same, le-ltb n 2 two, le-ltb 64 n few, ← h)

        pub said_full : v ≡ n * n → Ok n ≡ said_of text
        said_full k = rw (past, eq-eqb v (n * n) k)

        pub said_half : v ≢ n * n → v ≡ half n → Ok n ≡ said_of text
        said_half k i = rw (past, ne_eqb v (n * n) k, eq-eqb v (half n) i)

        pub said_count : v ≢ n * n → v ≢ half n → (at : ℕ) → at ≡ get_or (starts_in text) (1 + n * n) (length text) → Err (Count n v at) ≡ said_of text
        said_count k i at j = rw (past, ne_eqb v (n * n) k, ne_eqb v (half n) i, j)

  -- a text whose numbers were counted has passed the tests before
  told_taken : (n : ℕ) → told (said_of text) ≡ Some n → Taken n text
  unfolding said_of
  told_taken n e =
      go (ltb (lowest (wrong_at wrong.Strange text) (length text)) (length text)) (ltb (lowest (wrong_at wrong.TooLarge text) (length text)) (length text)) refl (ltb (taxa_typed text) 2) refl (ltb 64 (taxa_typed text)) refl
      (eqb (length (values_in text)) (taxa_typed text * taxa_typed text) || eqb (length (values_in text)) (half (taxa_typed text))) e
    where
      go : (a b : Bool) → ltb (lowest (wrong_at wrong.TooLarge text) (length text)) (length text) ≡ b → (c : Bool) → ltb (taxa_typed text) 2 ≡ c → (d : Bool) → ltb 64 (taxa_typed text) ≡ d → (f : Bool)
          → told (cond a (Err (Strange (lowest (wrong_at wrong.Strange text) (length text)))) (cond b (Err (TooLarge (lowest (wrong_at wrong.TooLarge text) (length text))))
          (cond (c || d) (Err (Taxa (get_or (starts_in text) 0 (length text)))) (cond f (Ok (taxa_typed text)) (Err (Count (taxa_typed text) (length (values_in text)) (get_or (starts_in text) (1 + taxa_typed text * taxa_typed text) (length text)))))))) ≡ Some n
          → Taken n text
      go true b x c y d z f e = absurd (cc)
      go false true x c y d z f e = absurd (cc)
      go false false x true y d z f e = absurd (cc)
      go false false x false y true z f e = absurd (cc)
      go false false x false y false z f e =
          let same : taxa_typed text ≡ n = typed f e in
          record { two = omega (arith, ltb-false (taxa_typed text) 2 y); few = omega (arith, ltb-false 64 (taxa_typed text) z); small = none_of (wrong_at wrong.TooLarge text) (length text) x }
        where
          typed : (f : Bool) → told (cond f (Ok (taxa_typed text)) (Err (Count (taxa_typed text) (length (values_in text)) (get_or (starts_in text) (1 + taxa_typed text * taxa_typed text) (length text))))) ≡ Some n → taxa_typed text ≡ n
          typed true e = cc
          typed false e = cc

  -- so has an accepted one, and one with too few or too many
  pub matrix_taken : (n : ℕ) → Ok n ≡ said_of text → Taken n text
  matrix_taken n e = told_taken n (sym (ap told e))

  pub count_taken : (n v p : ℕ) → Err (Count n v p) ≡ said_of text → Taken n text
  count_taken n v p e = told_taken n (sym (ap told e))
