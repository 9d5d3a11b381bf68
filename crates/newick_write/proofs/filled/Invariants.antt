-- The places passed hold what the rule gives.
use Rattle.std.proofs.Common.{◌≡◌, ℕ, ◌<◌, get_or, length}
use Rattle.newick_write.proofs.filled.Given as goal

abbrev pub invariant-loop-i : goal.invariant-loop-i
invariant-loop-i g l =
    (length l.numbers ≡ g.row.N)
    × ((f : ℕ → ℕ) → ((i : ℕ) → i < l.m → (r : ℕ) → goal.F-post g l.rule i r → r ≡ f i) → (j : ℕ) → j < l.i → get_or l.numbers j 0 ≡ f j)
