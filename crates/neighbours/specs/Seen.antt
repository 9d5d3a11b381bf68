-- What is said of a split as it is seen from a taxon: of its k, a and c, and of its matrix's distances.
use Rattle.std.specs.Prelude.{ℕ, ◌<◌, ◌≢◌, List, length}
use Rattle.statement.specs.Cluster.{bit}
use Rattle.matrix.specs.Distances.{distances}
use Rattle.neighbours.specs.declared.Seen.{Seen}
use Rattle.neighbours.specs.Near.{Others, Fails}
use Rattle.neighbours.specs.Reach.{Own, Pulls, Reach}

-- x is another taxon of a's group, or a where it is the only one
abbrev pub IsOwn : Seen → ℕ → Type 0
IsOwn s x = Own s.k s.a s.c x

-- y is on the other side than a
abbrev pub IsOther : Seen → ℕ → Type 0
IsOther s y = (y < s.k) × (bit s.c y ≢ bit s.c s.a)

-- the taxa are on the other side
abbrev pub AreOthers : Seen → List ℕ → Type 0
AreOthers s taxa = Others s.k s.a s.c taxa (length taxa)

-- not every score of a four ax|yz is above zero
abbrev pub SomeFails : Seen → Type 0
SomeFails s = Fails (distances s.matrix) s.k s.a s.c

-- the pulls of the taxa of a's side, and the reach of z by them
abbrev pub AllPulls : Seen → List ℕ → Type 0
AllPulls s pull = Pulls (distances s.matrix) s.k s.k s.a s.c pull

abbrev pub Reaches : Seen → ℕ → ℕ → Type 0
Reaches s z r = Reach (distances s.matrix) s.k s.k s.a s.c z r
