-- The tree that the arrays hold.
use Rattle.std.specs.Prelude.{length}
use Rattle.statement.specs.NewickText.{Shape}
use Rattle.newick_vertex.specs.declared.Arrays.{Arrays}
use Rattle.newick_vertex.specs.Arrays.{shape_in}

abbrev pub held : Arrays → Shape
held a = shape_in (length a.homes.now) (length a.links.now) a.links.now a.homes.now a.weights.now
