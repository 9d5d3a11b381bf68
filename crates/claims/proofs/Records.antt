-- Records, over the two calls: written and found again. Assumes nothing.
use Prim.Native.Nat.{ℕ}
use mathlib.Core.List.{List}
use Rattle.record_write.proofs.RoundTrip.{written_back}
use Rattle.claims.specs.Demands.{FoundAgain}

pub found_again : (kind n : ℕ) (body out : List ℕ) → FoundAgain kind n body out
found_again = written_back
