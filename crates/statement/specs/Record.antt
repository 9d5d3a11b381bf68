-- Document 01, "Records in a file": the record with its mark, kinds, body lengths, pad and sum word; finding and writing; the walker's step.
use Rattle.std.specs.Prelude.{ℕ, ◌+◌, ◌*◌, ◌-◌, ◌/◌, ◌%◌, Bool, true, false, cond, List, [], ◌∷◌, ◌++◌, eqb, length, take, drop, get_or}
use Rattle.statement.specs.Table.{choose}
use Rattle.statement.specs.Bytes.{four_bytes, from_four, from_bytes, word_sum}
use Rattle.statement.specs.Refusals.{Check, outcome_of, number_of, taxa_off, length_off, tree_fits, byte_off, output_off, mark_off, cut_off, kind_off, sum_off, entry_checks, vertex_checks}

-- A KIND of record: its number, whether n allows a body length, and the body's own checks. A new kind is one more line of the table below
pub record Kind : Type 0 where
  pub number : ℕ
  pub fits : ℕ → ℕ → Bool
  pub checks : ℕ → List ℕ → List Check

abbrev pub matrix_kind : Kind
matrix_kind = record { number = 1; fits = λ n len. eqb len (4 * (n * n)); checks = λ n body. entry_checks n (from_bytes body) }

abbrev pub table_kind : Kind
table_kind = record { number = 2; fits = λ n len. eqb len (choose n 4); checks = λ n body. byte_off body ∷ [] }

abbrev pub tree_kind : Kind
tree_kind = record { number = 3; fits = tree_fits; checks = vertex_checks }

abbrev pub kinds : List Kind
kinds = matrix_kind ∷ table_kind ∷ tree_kind ∷ []

-- whether a number is that of one of these kinds; what a kind says of n and a length; its body's checks
abbrev pub is_kind : List Kind → ℕ → Bool
is_kind [] number = false
is_kind (k ∷ ks) number = cond (eqb number k.number) true (is_kind ks number)

abbrev pub fits_kind : List Kind → ℕ → ℕ → ℕ → Bool
fits_kind [] number n len = false
fits_kind (k ∷ ks) number n len = cond (eqb number k.number) (k.fits n len) (fits_kind ks number n len)

abbrev pub body_checks : List Kind → ℕ → ℕ → List ℕ → List Check
body_checks [] number n body = []
body_checks (k ∷ ks) number n body = cond (eqb number k.number) (k.checks n body) (body_checks ks number n body)

-- THE LAYOUT: two bytes of mark, kind, n, body length in four bytes; body; one zero byte if the body is odd; a two-byte sum word
abbrev pub kind_in : List ℕ → ℕ
kind_in bytes = get_or bytes 2 0

abbrev pub taxa_in : List ℕ → ℕ
taxa_in bytes = get_or bytes 3 0

abbrev pub length_in : List ℕ → ℕ
length_in bytes = from_four (get_or bytes 4 0) (get_or bytes 5 0) (get_or bytes 6 0) (get_or bytes 7 0)

-- the length of a whole record with a body of len bytes
abbrev pub record_length : ℕ → ℕ
record_length len = 8 + len + len % 2 + 2

-- the pad byte of a record; 0 where there is none
abbrev pub pad_in : List ℕ → ℕ
pad_in bytes = cond (eqb (length_in bytes % 2) 1) (get_or bytes (8 + length_in bytes) 0) 0

-- FINDING. Order for a record: 16 by the 8 bytes, 15, 17, 1, 2, 16 by the whole, 18
abbrev pub record_checks : List ℕ → List Check
record_checks bytes =
    cut_off bytes 8 ∷ mark_off bytes ∷ kind_off (is_kind kinds (kind_in bytes)) ∷ taxa_off (taxa_in bytes)
    ∷ length_off (fits_kind kinds (kind_in bytes) (taxa_in bytes) (length_in bytes)) ∷ cut_off bytes (record_length (length_in bytes))
    ∷ sum_off (pad_in bytes) (word_sum (take (record_length (length_in bytes)) bytes)) ∷ []

-- a call that takes only some kinds gives 17, after 18, for a known kind that it doesn't take
abbrev pub taken_checks : List Kind → List ℕ → List Check
taken_checks taken bytes = record_checks bytes ++ (kind_off (is_kind taken (kind_in bytes)) ∷ [])

-- the body that is found: empty where the finding is refused
unfoldable pub body_in : List ℕ → List ℕ
body_in bytes = cond (eqb (number_of (outcome_of (record_checks bytes))) 0) (take (length_in bytes) (drop 8 bytes)) []

-- WRITING: the sum word makes all 16-bit words add to zero with wrapping
abbrev pub sum_word : List ℕ → ℕ
sum_word bytes = (65536 - word_sum bytes) % 65536

unfoldable pub summed : List ℕ → List ℕ
summed bytes = bytes ++ (sum_word bytes % 256 ∷ sum_word bytes / 256 ∷ [])

unfoldable pub record_of : ℕ → ℕ → List ℕ → List ℕ
record_of kind n body =
    summed (0x53 ∷ 0x70 ∷ kind ∷ n ∷ [] ++ four_bytes (length body) ++ body ++ cond (eqb (length body % 2) 1) (0 ∷ []) [])

-- 17 first, for an unknown kind; then 1, 2, the body's own checks, and 7 last
abbrev pub writing_checks : ℕ → ℕ → List ℕ → ℕ → List Check
writing_checks kind n body room =
    kind_off (is_kind kinds kind) ∷ taxa_off n ∷ length_off (fits_kind kinds kind n (length body)) ∷ body_checks kinds kind n body ++ (output_off room (record_length (length body)) ∷ [])
