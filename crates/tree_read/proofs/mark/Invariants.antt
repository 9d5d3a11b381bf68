-- The edges among the places of the walk before this step are marked.
use mathlib.Core.Path.{◌≡◌}
use Rattle.statement.specs.Tree.{walk}
use Rattle.tree_check.specs.Parts.{linked}
use Rattle.tree_read.specs.Columns.{Marked}
use Rattle.tree_read.proofs.mark.Given as goal

abbrev pub invariant-loop : goal.invariant-loop
invariant-loop l = (l.at ≡ walk (linked l.links) l.counter l.home) × Marked l.links l.home l.group l.counter l.initial.clusters l.clusters
