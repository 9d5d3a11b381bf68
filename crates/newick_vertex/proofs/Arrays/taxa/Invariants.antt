-- `newick_vertex::Arrays::taxa` meets its contract: each turn stores one taxon, and what is left of them is kept in view.
use mathlib.Core.List.{map}
use lib.ListN.{length}
use Rattle.statement.specs.NewickText.{led, leaf_text}
use Rattle.newick_vertex.specs.Arrays.{having}
use Rattle.newick_vertex.proofs.Stores.{Left}
use Rattle.newick_vertex.proofs.Whole.{own}
use Rattle.newick_vertex.proofs.Arrays.taxa.Given as goal

abbrev pub invariant-loop-i : goal.invariant-loop-i
invariant-loop-i l = Left l.initial.pen (led 40 (own l.self l.v)) l.pen l.b (map leaf_text (having l.self.homes.now l.v l.i (length l.self.homes.now)))
