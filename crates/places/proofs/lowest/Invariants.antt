-- No place passed passes the test.
use Rattle.std.proofs.Common.{◌≡◌, ℕ, Bool, false, ◌<◌}
use Rattle.places.proofs.lowest.Given as goal

abbrev pub invariant-loop-i : goal.invariant-loop-i
invariant-loop-i g l = (p : ℕ → Bool) → ((i : ℕ) → i < l.m → (r : Bool) → goal.F-post g l.test i r → r ≡ p i) → (j : ℕ) → j < l.i → p j ≡ false
