-- A word of four bytes within a list of bytes.
use Rattle.std.specs.Prelude.{ℕ, ◌+◌, List, get_or}
use Rattle.statement.specs.Bytes.{from_four}

-- the word at the place p
abbrev pub word_at : List ℕ → ℕ → ℕ
word_at bytes p = from_four (get_or bytes p 0) (get_or bytes (p + 1) 0) (get_or bytes (p + 2) 0) (get_or bytes (p + 3) 0)
