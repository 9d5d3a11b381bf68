-- The lowest place where a test holds. "Places are the lowest index, row by row" (document 01, "Refusal numbers").
use Rattle.std.specs.Prelude.{ℕ, zero, suc, Bool, cond, not, ltb}

-- the lowest of the m places from i on; i + m where there is none
unfoldable pub lowest_from : (ℕ → Bool) → ℕ → ℕ → ℕ
lowest_from p i zero = i
lowest_from p i (suc m) = cond (p i) i (lowest_from p (suc i) m)

-- the lowest of the places 0 to m - 1; m where there is none
abbrev pub lowest : (ℕ → Bool) → ℕ → ℕ
lowest p m = lowest_from p 0 m

-- one of the places 0 to m - 1 passes the test
abbrev pub somewhere : (ℕ → Bool) → ℕ → Bool
somewhere p m = ltb (lowest p m) m

-- none does
abbrev pub nowhere : (ℕ → Bool) → ℕ → Bool
nowhere p m = not (somewhere p m)
