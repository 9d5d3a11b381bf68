-- The body written, and the place of an entry, by what the check says of the text. Assumes nothing.
use Prim.Native.Nat.{ℕ, ◌+◌, ◌*◌, ◌≤◌, ◌<◌}
use native.Mathlib.Omega.{arith}
use mathlib.Core.Path.{◌≡◌, sym, ◌∙◌}
use mathlib.Core.Logic.{◌≢◌}
use mathlib.Core.List.{List}
use Rattle.std.specs.Prelude.{Ok, Err}
use lib.ListN.{length, get_or}
use lib.Seq.{paste, take-paste, length-paste, take_all}
use borrow.Author.Tests.{lt-ltb, le-ltb, eq-eqb, ne_eqb}
use Rattle.statement.specs.Bytes.{to_bytes}
use Rattle.numerals.specs.Numerals.{starts_in}
use Rattle.typed.specs.declared.Mistake.{Mistake}
use Rattle.typed.specs.declared.Mistake.TheVariants.{Room}
use Rattle.typed.specs.Typed.{values_in, is_full, value_for, entries_of, said_of, body_said, body_written, entry_place}

-- what fills the whole slice is all that it holds
pub paste_whole : (d s : List ℕ) (k : ℕ) → length d ≡ k → length s ≡ k → paste d 0 s k ≡ s
paste_whole d s k ld ls =
    sym (take_all (0 + k) (paste d 0 s k) (omega (arith, length-paste d 0 s k (omega arith) (omega arith))))
    ∙ take-paste d 0 s k (omega arith) (omega arith) ∙ take_all k s (omega arith)

-- what is written, by what the check says
module _ (text out : List ℕ) where
  pub refused : (mistake : Mistake) → Err mistake ≡ said_of text → (Err mistake ≡ body_said text out) × (out ≡ body_written text out)
  unfolding body_said body_written
  refused mistake s = (rw (← s), rw (← s))

  module _ (n : ℕ) (s : Ok n ≡ said_of text) where
    pub no_room : length out ≢ 4 * (n * n) → (Err Room ≡ body_said text out) × (out ≡ body_written text out)
    unfolding body_said body_written
    no_room l = let o = ne_eqb (length out) (4 * (n * n)) l in (rw (← s, o), rw (← s, o))

    pub written : length out ≡ 4 * (n * n) → (Ok n ≡ body_said text out) × (to_bytes (entries_of n (values_in text)) ≡ body_written text out)
    unfolding body_said body_written
    written l = let o = eq-eqb (length out) (4 * (n * n)) l in (rw (← s, o), rw (← s, o))

-- the place of an entry, by the same
module _ (text : List ℕ) (e : ℕ) where
  pub place_refused : (mistake : Mistake) → Err mistake ≡ said_of text → length text ≡ entry_place text e
  unfolding entry_place
  place_refused mistake s = rw (← s)

  module _ (n : ℕ) (s : Ok n ≡ said_of text) where
    pub place_none : n * n ≤ e → length text ≡ entry_place text e
    unfolding entry_place
    place_none l = rw (← s, le-ltb e (n * n) l)

    pub place_found : e < n * n → get_or (starts_in text) (1 + value_for n (is_full n (values_in text)) e) (length text) ≡ entry_place text e
    unfolding entry_place
    place_found l = rw (← s, lt-ltb e (n * n) l)
