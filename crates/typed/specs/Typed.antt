-- A MATRIX TYPED AS NUMBERS. The first number of the text is n; then come either n*n numbers, the matrix row by row, or n(n-1)/2 numbers, its lower
-- half without the diagonal: d(1,0), d(2,0), d(2,1), and so on. How many there are decides which.
use Rattle.std.specs.Prelude.{ℕ, ◌+◌, ◌*◌, ◌-◌, ◌/◌, ◌%◌, ◌≤◌, ◌<◌, ◌≡◌, Bool, false, cond, ◌||◌, List, map, Result, Ok, Err, ltb, eqb, length, get_or, drop}
use Rattle.statement.specs.Lowest.{lowest}
use Rattle.statement.specs.Tree.{numbers}
use Rattle.statement.specs.Bytes.{to_bytes}
use Rattle.numerals.specs.Numerals.{starts_in, numbers_in, wrong_at}
use Rattle.numerals.specs.declared.Fault.TheVariants as wrong
use Rattle.typed.specs.declared.Mistake.{Mistake}
use Rattle.typed.specs.declared.Mistake.TheVariants.{Strange, TooLarge, Taxa, Count, Room}

-- n, 0 where there is no number; and the numbers behind it
abbrev pub taxa_typed : List ℕ → ℕ
taxa_typed text = get_or (numbers_in text) 0 0

abbrev pub values_in : List ℕ → List ℕ
values_in text = drop 1 (numbers_in text)

-- how many entries the rows 0 to i - 1 of a lower half have
abbrev pub half : ℕ → ℕ
half i = i * (i - 1) / 2

-- whether the values are a full matrix, row by row
abbrev pub is_full : ℕ → List ℕ → Bool
is_full n values = eqb (length values) (n * n)

-- which of the values entry e is: row i of a lower half stands behind the rows before it, and above the diagonal it is mirrored
abbrev pub value_for : ℕ → Bool → ℕ → ℕ
value_for n full e = cond full e (cond (ltb (e / n) (e % n)) (half (e % n) + e / n) (half (e / n) + e % n))

-- THE ENTRIES: those typed, or the lower half mirrored, with zeros on the diagonal
abbrev pub mirrored : ℕ → List ℕ → ℕ → ℕ
mirrored n values e = cond (eqb (e / n) (e % n)) 0 (get_or values (value_for n false e) 0)

unfoldable pub entries_of : ℕ → List ℕ → List ℕ
entries_of n values = cond (is_full n values) values (map (mirrored n values) (numbers 0 (n * n)))

-- WHAT IS SAID OF A TEXT: what is wrong first, with its place in bytes from 0, else n. A text without a number lacks n at its end. Where the numbers
-- are too few or too many the place is that of the first one too many for a full matrix, else the end
unfoldable pub said_of : List ℕ → Result ℕ Mistake
said_of text =
    let end = length text in
    let n = taxa_typed text in
    let found = length (values_in text) in
    cond (ltb (lowest (wrong_at wrong.Strange text) end) end) (Err (Strange (lowest (wrong_at wrong.Strange text) end)))
    (cond (ltb (lowest (wrong_at wrong.TooLarge text) end) end) (Err (TooLarge (lowest (wrong_at wrong.TooLarge text) end)))
    (cond (ltb n 2 || ltb 64 n) (Err (Taxa (get_or (starts_in text) 0 end)))
    (cond (eqb found (n * n) || eqb found (half n)) (Ok n)
    (Err (Count n found (get_or (starts_in text) (1 + n * n) end))))))

-- THE BODY of the matrix's record, written into a lent slice of its exact length: what is said, and what the slice then holds
abbrev pub with_room : ℕ → Result ℕ Mistake → Result ℕ Mistake
with_room room (Ok n) = cond (eqb room (4 * (n * n))) (Ok n) (Err Room)
with_room room (Err mistake) = Err mistake

unfoldable pub body_said : List ℕ → List ℕ → Result ℕ Mistake
body_said text out = with_room (length out) (said_of text)

abbrev pub written_as : List ℕ → List ℕ → Result ℕ Mistake → List ℕ
written_as text out (Ok n) = to_bytes (entries_of n (values_in text))
written_as text out (Err mistake) = out

unfoldable pub body_written : List ℕ → List ℕ → List ℕ
body_written text out = written_as text out (body_said text out)

-- THE PLACE of entry e in the text of an accepted matrix; the end where there is no such entry
abbrev pub place_in : List ℕ → ℕ → Result ℕ Mistake → ℕ
place_in text e (Ok n) = cond (ltb e (n * n)) (get_or (starts_in text) (1 + value_for n (is_full n (values_in text)) e) (length text)) (length text)
place_in text e (Err mistake) = length text

unfoldable pub entry_place : List ℕ → ℕ → ℕ
entry_place text e = place_in text e (said_of text)

-- no number of the text is too large
abbrev pub Small : List ℕ → Type 0
Small text = (p : ℕ) → p < length text → wrong_at wrong.TooLarge text p ≡ false

-- what an accepted text has
pub record Taken (n : ℕ) (text : List ℕ) : Type 0 where
  pub two : 2 ≤ n
  pub few : n ≤ 64
  pub small : Small text
