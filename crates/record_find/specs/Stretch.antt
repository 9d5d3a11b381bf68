-- Where the body lies in the caller's own bytes. Document 01, "Records in a file".
use Rattle.std.specs.Prelude.{ℕ, cond, List, ◌==◌}
use Rattle.statement.specs.Refusals.{number_of}
use Rattle.statement.specs.Record.{length_in}
use Rattle.statement.specs.Calls.{find_record}

-- the body begins after the header; the empty stretch of a refused finding, at the start
abbrev pub body_start : List ℕ → ℕ
body_start bytes = cond (number_of (find_record bytes) == 0) 8 0

-- and is as long as the header says; none where the finding is refused
abbrev pub body_length : List ℕ → ℕ
body_length bytes = cond (number_of (find_record bytes) == 0) (length_in bytes) 0
