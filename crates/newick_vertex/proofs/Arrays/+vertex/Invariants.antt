-- `newick_vertex::Arrays::vertex` ends: its number falls from call to call. Each turn stores one child, and what is left of the children is kept in view.
use Rattle.newick_vertex.proofs.Stores.{Left}
use Rattle.newick_vertex.proofs.Whole.{kids, opened}
use Rattle.newick_vertex.proofs.Arrays.+vertex.Given as goal

abbrev pub decreases-vertex : goal.decreases-vertex
decreases-vertex l = l.v

abbrev pub invariant-loop-c : goal.invariant-loop-c
invariant-loop-c l = Left l.fn.pen (opened l.self l.v) l.pen l.b (kids l.self l.v l.c)
