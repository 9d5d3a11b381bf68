-- Words of four bytes, one after the other. Assumes nothing.
use Prim.Native.Nat.{ℕ, zero, suc, ◌+◌, ◌*◌, ◌<◌}
use native.Mathlib.Numerals.{add-one}
use native.Mathlib.Omega.{arith}
use mathlib.Core.Path.{◌≡◌, sym, ◌∙◌, ap}
use mathlib.Core.List.{List, [], ◌∷◌}
use lib.ListN.{length, take, get_or, set}
use lib.Seq.{take-suc, take-suc-set, take_all}
use Rattle.statement.specs.Bytes.{from_bytes}
use Rattle.tree_body.specs.Words.{word_at}
use Rattle.tree_body.proofs.Body.{word_at_law}

pub word_count : (body : List ℕ) (count : ℕ) → length body ≡ 4 * count → length (from_bytes body) ≡ count
unfolding from_bytes
word_count [] count h = omega arith
word_count (a ∷ []) count h = absurd (omega arith)
word_count (a ∷ b ∷ []) count h = absurd (omega arith)
word_count (a ∷ b ∷ c ∷ []) count h = absurd (omega arith)
word_count (a ∷ b ∷ c ∷ d ∷ rest) zero h = absurd (omega arith)
word_count (a ∷ b ∷ c ∷ d ∷ rest) (suc count) h = ap suc (word_count rest count (omega arith))

module _ (body : List ℕ) (count : ℕ) (size : length body ≡ 4 * count) where
  -- one word more
  pub word_more : (words : List ℕ) (e word : ℕ) → e < length words → e < count → word ≡ word_at body (4 * e) → take e words ≡ take e (from_bytes body)
      → take (e + 1) (set words e word) ≡ take (e + 1) (from_bytes body)
  word_more words e word room l is so_far =
      let within : e < length (from_bytes body) = omega (arith, word_count body count size) in
      let same : word ≡ get_or (from_bytes body) e 0 = is ∙ sym (word_at_law body e (omega arith)) in
      rw (add-one e, take-suc-set words e word, take-suc (from_bytes body) e 0) (rw (so_far, same))

  pub words_all : (words : List ℕ) (e : ℕ) → e ≡ count → take e words ≡ take e (from_bytes body) → take count words ≡ from_bytes body
  words_all words e at so_far =
      ap (λ (k : ℕ). take k words) (sym at) ∙ so_far ∙ take_all e (from_bytes body) (omega (arith, word_count body count size))
