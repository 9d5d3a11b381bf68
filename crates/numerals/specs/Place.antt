-- A PLACE in the words of the person who typed the text: line and column, both from 1.
use Rattle.std.specs.Prelude.{ℕ, zero, suc, ◌+◌, cond, List, eqb, get_or}
use Rattle.numerals.specs.declared.Place.{Place}

-- behind a byte: a line end leads to the next line
abbrev pub behind : Place → ℕ → Place
behind here b = cond (eqb b 10) (record { line = here.line + 1; column = 1 }) (record { line = here.line; column = here.column + 1 })

-- of byte p, from 0
unfoldable pub place_of : List ℕ → ℕ → Place
place_of text zero = record { line = 1; column = 1 }
place_of text (suc p) = behind (place_of text p) (get_or text p 0)
