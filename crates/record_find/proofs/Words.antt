-- The 16-bit words of a list, one after the other. Assumes nothing.
use Rattle.std.proofs.Common.{◌≡◌, ℕ, ◌+◌, ◌*◌, ◌<◌, List, [], ◌∷◌, ◌++◌, length, get_or, refl, arith}
use Rattle.statement.specs.Bytes.{word_total}

pub total_more : (word rest : List ℕ) → length word ≡ 2 → word_total (word ++ rest) ≡ get_or word 0 0 + 256 * get_or word 1 0 + word_total rest
unfolding word_total
total_more [] rest h = absurd (omega arith)
total_more (a ∷ []) rest h = absurd (omega arith)
total_more (a ∷ b ∷ []) rest h = refl
total_more (a ∷ b ∷ d ∷ more) rest h = absurd (omega arith)

-- a last odd byte is no word
pub total_end : (rest : List ℕ) → length rest < 2 → word_total rest ≡ 0
unfolding word_total
total_end [] h = refl
total_end (a ∷ []) h = refl
total_end (a ∷ b ∷ rest) h = absurd (omega arith)
