-- WHOLE NUMBERS IN A TEXT, written in decimal with spaces between them: where each starts, its value, and which bytes do not belong.
use Rattle.std.specs.Prelude.{ℕ, zero, suc, ◌-◌, Bool, cond, not, ◌&&◌, ◌||◌, List, [], ◌∷◌, map, ltb, eqb, length, get_or, drop}
use Rattle.statement.specs.Decimal.{digit, on_from}
use Rattle.numerals.specs.declared.Fault.{Fault}
use Rattle.numerals.specs.declared.Fault.TheVariants.{Strange, TooLarge}

-- what stands between numbers: space, tab, line end, carriage return
abbrev pub space : ℕ → Bool
space b = eqb b 32 || (eqb b 9 || (eqb b 10 || eqb b 13))

-- behind the end of a text there is no digit
abbrev pub digit_at : List ℕ → ℕ → Bool
digit_at text p = digit (get_or text p 0)

-- a number starts at a digit with no digit right before it
abbrev pub starts_at : List ℕ → ℕ → Bool
starts_at text p = digit_at text p && (eqb p 0 || not (digit_at text (p - 1)))

-- the number at a place
abbrev pub number_at : List ℕ → ℕ → ℕ
number_at text p = on_from 0 (drop p text)

-- the places, among the m from p on, where numbers start; all of them; and the numbers themselves, in the order of the text
unfoldable pub starts_from : List ℕ → ℕ → ℕ → List ℕ
starts_from text p zero = []
starts_from text p (suc m) = cond (starts_at text p) (p ∷ starts_from text (suc p) m) (starts_from text (suc p) m)

abbrev pub starts_in : List ℕ → List ℕ
starts_in text = starts_from text 0 (length text)

abbrev pub numbers_in : List ℕ → List ℕ
numbers_in text = map (number_at text) (starts_in text)

-- the largest number that is read
abbrev pub number_limit : ℕ
number_limit = 4294967295

-- WHAT CAN BE WRONG at a place: a byte that is no digit and no space; a number above the limit starts there
abbrev pub wrong_at : Fault → List ℕ → ℕ → Bool
wrong_at Strange text p = not (digit_at text p) && not (space (get_or text p 0))
wrong_at TooLarge text p = starts_at text p && ltb number_limit (number_at text p)

-- the fault that a number stands for: 1, a strange byte; any other, a number too large
abbrev pub coded : ℕ → Fault
coded code = cond (eqb code 1) Strange TooLarge
