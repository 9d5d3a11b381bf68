-- The record of an accepted matrix is small.
use Prim.Native.Nat.{ℕ, ◌+◌, ◌*◌, ◌≤◌}
use native.Mathlib.Omega.{arith}
use mathlib.Core.Path.{◌≡◌}
use mathlib.Core.List.{List}
use Rattle.std.specs.Prelude.{Ok}
use Rattle.typed.specs.Typed.{said_of}
use Rattle.typed.proofs.Texts.{matrix_taken}
use Rattle.typed.proofs.Entries.{square_small}

pub fits : (n : ℕ) (text : List ℕ) → Ok n ≡ said_of text → 4 * (n * n) + 10 ≤ 65536
fits n text e = let h = square_small n (matrix_taken text n e).few in omega arith
