-- The checks of a call that takes n and a list with k = n. Document 01, "The tree": any other list gets 8.
use Rattle.std.specs.Prelude.{ℕ, cond, ◌&&◌, ◌||◌, ltb, eqb}
use Rattle.statement.specs.declared.Splits.{Splits}
use Rattle.statement.specs.Matrix.{weight_limit}
use Rattle.statement.specs.Rows.{well_formed}

-- the number that n and the list are refused with; 0 where they are taken
unfoldable pub whole_refusal : ℕ → Splits → ℕ
whole_refusal n s = cond (ltb n 2 || ltb 64 n) 1 (cond (well_formed weight_limit n s && eqb s.taxa n) 0 8)
