-- The places of the walk before this step are not the root.
use Prim.Native.Nat.{ℕ, ◌<◌}
use mathlib.Core.Path.{◌≡◌}
use mathlib.Core.Bool.{false}
use lib.Dec.{eqb}
use Rattle.statement.specs.Tree.{walk}
use Rattle.tree_check.specs.Parts.{linked}
use Rattle.tree_check.proofs.reaches.Given as goal

abbrev pub invariant-loop : goal.invariant-loop
invariant-loop l = (l.at ≡ walk (linked l.links) l.counter l.v) × ((j : ℕ) → j < l.counter → eqb (walk (linked l.links) j l.v) l.m ≡ false)
