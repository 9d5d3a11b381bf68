-- The weights passed are in their places.
use Rattle.std.proofs.Common.{◌≡◌, length}
use Rattle.tree_read.specs.Columns.{Weights}
use Rattle.tree_read.proofs.weights_of.Given as goal

abbrev pub invariant-loop-v : goal.invariant-loop-v
invariant-loop-v l = (length l.weights ≡ 125) × Weights l.bytes l.v l.weights
