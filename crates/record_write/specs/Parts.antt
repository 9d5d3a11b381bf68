-- The parts of a record that is written, and the checks of what is written. Document 01, "Records in a file" and "Refusal numbers".
use Rattle.std.specs.Prelude.{ℕ, ◌%◌, cond, List, [], ◌∷◌, length, ◌==◌}
use Rattle.statement.specs.Bytes.{four_bytes}
use Rattle.statement.specs.Refusals.{Check, taxa_off, length_off}
use Rattle.statement.specs.Record.{kinds, fits_kind, body_checks}

-- the mark, the kind, n and the body length
abbrev pub header : ℕ → ℕ → ℕ → List ℕ
header kind n len = 0x53 ∷ 0x70 ∷ kind ∷ n ∷ four_bytes len

-- one zero byte if the body is odd
abbrev pub pad : ℕ → List ℕ
pad len = cond (len % 2 == 1) (0 ∷ []) []

-- 1, 2 and the body's own checks
abbrev pub input_checks : ℕ → ℕ → List ℕ → List Check
input_checks kind n body = taxa_off n ∷ length_off (fits_kind kinds kind n (length body)) ∷ body_checks kinds kind n body
