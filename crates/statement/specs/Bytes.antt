-- Numbers as bytes, little-endian, and the body of a tree. Document 01, "Records in a file".
use Rattle.std.specs.Prelude.{ℕ, ◌+◌, ◌*◌, ◌/◌, ◌%◌, List, [], ◌∷◌, ◌++◌, length, take, drop, get_or}
use Rattle.statement.specs.Tree.{Tree}

-- a number in four bytes
abbrev pub four_bytes : ℕ → List ℕ
four_bytes w = w % 256 ∷ w / 256 % 256 ∷ w / 65536 % 256 ∷ w / 16777216 % 256 ∷ []

abbrev pub from_four : ℕ → ℕ → ℕ → ℕ → ℕ
from_four a b c d = a + 256 * b + 65536 * c + 16777216 * d

-- words of four bytes: a list of them as bytes, and back; a rest of fewer than four bytes is no word
unfoldable pub to_bytes : List ℕ → List ℕ
to_bytes [] = []
to_bytes (w ∷ ws) = four_bytes w ++ to_bytes ws

unfoldable pub from_bytes : List ℕ → List ℕ
from_bytes [] = []
from_bytes (a ∷ []) = []
from_bytes (a ∷ b ∷ []) = []
from_bytes (a ∷ b ∷ c ∷ []) = []
from_bytes (a ∷ b ∷ c ∷ d ∷ rest) = from_four a b c d ∷ from_bytes rest

-- the 16-bit words of a list of bytes added up, with wrapping; a last odd byte is no word
unfoldable pub word_total : List ℕ → ℕ
word_total [] = 0
word_total (a ∷ []) = 0
word_total (a ∷ b ∷ rest) = a + 256 * b + word_total rest

abbrev pub word_sum : List ℕ → ℕ
word_sum bytes = word_total bytes % 65536

-- the body of a tree: m, m links, n homes (a byte each), then m weights of four bytes
unfoldable pub tree_body : Tree → List ℕ
tree_body t = length t.links ∷ (t.links ++ t.homes ++ to_bytes t.weights)

-- and the tree of a body
unfoldable pub tree_in : ℕ → List ℕ → Tree
tree_in n body =
    let m = get_or body 0 0 in
    record { links = take m (drop 1 body); homes = take n (drop (1 + m) body); weights = from_bytes (drop (1 + m + n) body) }

abbrev pub tree_length : ℕ → ℕ → ℕ
tree_length n m = 1 + n + 5 * m
