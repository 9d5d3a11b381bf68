-- The clusters of the first i taxa.
use Prim.Native.Nat.{ℕ, ◌<◌}
use mathlib.Core.Path.{◌≡◌}
use lib.ListN.{length, get_or}
use Rattle.statement.specs.Tree.{cluster_of}
use Rattle.tree_check.specs.Parts.{placed}
use Rattle.tree_read.proofs.clusters_of.Given as goal

abbrev pub invariant-loop-i : goal.invariant-loop-i
invariant-loop-i l = (length l.clusters ≡ 125) × ((v : ℕ) → v < length l.links → get_or l.clusters v 0 ≡ cluster_of (placed l.links l.homes) v l.i)
