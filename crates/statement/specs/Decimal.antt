-- WHOLE NUMBERS IN DECIMAL, as bytes: read, and written without leading zeros.
use Rattle.std.specs.Prelude.{ℕ, zero, suc, ◌+◌, ◌*◌, ◌-◌, ◌/◌, ◌%◌, Bool, cond, ◌&&◌, List, [], ◌∷◌, ◌++◌, ltb}

-- '0' to '9'
abbrev pub digit : ℕ → Bool
digit b = ltb 47 b && ltb b 58

-- the number that goes on from v with these bytes, as far as they are digits; and how many digits they begin with
unfoldable pub on_from : ℕ → List ℕ → ℕ
on_from v [] = v
on_from v (b ∷ bs) = cond (digit b) (on_from (10 * v + (b - 48)) bs) v

unfoldable pub span : List ℕ → ℕ
span [] = 0
span (b ∷ bs) = cond (digit b) (suc (span bs)) 0

-- the digits of n, the most significant first: at most k + 1 of them, and n + 1 are enough
abbrev pub decimal_by : ℕ → ℕ → List ℕ
decimal_by zero n = (48 + n % 10) ∷ []
decimal_by (suc k) n = cond (ltb n 10) ((48 + n) ∷ []) (decimal_by k (n / 10) ++ ((48 + n % 10) ∷ []))

unfoldable pub decimal : ℕ → List ℕ
decimal n = decimal_by n n
