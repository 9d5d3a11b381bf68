-- `tree_write::put_vertices` meets its contract: the vertices passed are pasted.
use mathlib.Core.Path.{◌≡◌}
use mathlib.Core.List.{List}
use lib.ListN.{length}
use lib.Seq.{paste}
use Rattle.statement.specs.Rows.{Row}
use Rattle.statement.specs.Tree.{tree_of}
use Rattle.tree_write.specs.Vertices.{ClustersOf, vertices}
use Rattle.tree_write.proofs.put_vertices.Given as goal

abbrev pub invariant-loop-i : goal.invariant-loop-i
invariant-loop-i l = (length l.out ≡ length l.initial.out) × ((rows : List Row) → ClustersOf rows l.s.clusters l.s.rows → l.out ≡ paste l.initial.out 1 (vertices (tree_of l.n rows)) l.i)
