-- What a walker's step is, by what is found at its place. Assumes nothing.
use Rattle.std.proofs.Common.{◌≡◌, ℕ, ◌+◌, ◌-◌, ◌<◌, List, length, take, drop, ◌∙◌, arith, length-drop}
use lib.Seq.{take_all}
use borrow.Author.Tests.{lt-ltb}
use Rattle.statement.specs.Steps.{Found}
use Rattle.statement.specs.Record.{length_in, record_length}
use Rattle.statement.specs.Calls.{find_record, step_by, step_at}

-- within the file it is by the record that the stretch from the place on, a part of the file that is lent, begins with
pub step_within : (file : List ℕ) (place : ℕ) (rest : List ℕ) → place < length file → rest ≡ take (length file - place) (drop place file)
    → step_at file place ≡ step_by (find_record rest) (Found (place + 8) (length_in rest) (place + record_length (length_in rest)))
unfolding step_at
step_within file place rest within is =
    let whole : rest ≡ drop place file = is ∙ take_all (length file - place) (drop place file) (simp length-drop (omega arith)) in
    rw (lt-ltb place (length file) within, whole)
