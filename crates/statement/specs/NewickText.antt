-- THE NEWICK TEXT OF A LIST. Document 02, §2: a vertex is its children in brackets, then a colon and its weight; the root is always bracketed and has no
-- weight; a childless vertex with one taxon is that taxon's number; any other taxon is a leaf of length 0. A vertex's taxa come first, ascending, then its
-- children by row number.
use Rattle.std.specs.Prelude.{ℕ, zero, suc, Bool, cond, ◌&&◌, List, [], ◌∷◌, ◌++◌, map, ltb, eqb, length, get_or}
use Rattle.statement.specs.Rows.{Row, weights}
use Rattle.statement.specs.Tree.{link_of, home_of}
use Rattle.statement.specs.Decimal.{decimal}

-- A SHAPE: vertices 0 to edges - 1, each with its link and its weight, the root above them, and a home for each taxon
pub record Shape : Type 0 where
  pub taxa : ℕ
  pub edges : ℕ
  pub link : ℕ → ℕ
  pub home : ℕ → ℕ
  pub weight : ℕ → ℕ

-- the shape of the tree of a list, with document 01's links and homes
abbrev pub shape_of : ℕ → List Row → Shape
shape_of n rows = record { taxa = n; edges = length rows; link = link_of n rows; home = home_of rows; weight = λ v. get_or (weights rows) v 0 }

-- those of the m numbers from i on that pass a test, ascending
unfoldable pub those_from : (ℕ → Bool) → ℕ → ℕ → List ℕ
those_from p i zero = []
those_from p i (suc m) = cond (p i) (i ∷ those_from p (suc i) m) (those_from p (suc i) m)

-- the taxa at home at a vertex
abbrev pub homed : Shape → ℕ → List ℕ
homed t v = those_from (λ i. eqb (t.home i) v) 0 t.taxa

-- its children: a link is always a later row or the root, so only lower numbers are looked at
abbrev pub children : Shape → ℕ → List ℕ
children t v = those_from (λ c. eqb (t.link c) v) 0 v

-- below the root, one taxon and no child
abbrev pub unbracketed : Shape → ℕ → Bool
unbracketed t v = ltb v t.edges && eqb (length (homed t v)) 1 && eqb (length (children t v)) 0

-- texts one after the other, the first behind the byte b and each other behind a comma
unfoldable pub led : ℕ → List (List ℕ) → List ℕ
led b [] = []
led b (x ∷ xs) = b ∷ (x ++ led 44 xs)

-- in brackets: ( x , y , z )
abbrev pub bracketed : List (List ℕ) → List ℕ
bracketed xs = led 40 xs ++ (41 ∷ [])

-- a colon and a weight behind a text
abbrev pub weighed : List ℕ → ℕ → List ℕ
weighed x w = x ++ (58 ∷ decimal w)

-- what stands between the brackets of a vertex: its taxa as leaves of length 0, then its children, whose own texts g has
abbrev pub leaf_text : ℕ → List ℕ
leaf_text i = weighed (decimal i) 0

abbrev pub child_text : Shape → (ℕ → List ℕ) → ℕ → List ℕ
child_text t g c = weighed (g c) (t.weight c)

abbrev pub items : Shape → (ℕ → List ℕ) → ℕ → List (List ℕ)
items t g v = map leaf_text (homed t v) ++ map (child_text t g) (children t v)

abbrev pub vertex_by : Shape → (ℕ → List ℕ) → ℕ → List ℕ
vertex_by t g v = cond (unbracketed t v) (decimal (get_or (homed t v) 0 0)) (bracketed (items t g v))

-- the text of a vertex without its weight, its brackets followed so many deep; children have lower numbers, so one more than its own number is enough
unfoldable pub vertex_in : Shape → ℕ → ℕ → List ℕ
vertex_in t zero v = []
vertex_in t (suc deep) v = vertex_by t (vertex_in t deep) v

unfoldable pub vertex_text : Shape → ℕ → List ℕ
vertex_text t v = vertex_in t (suc v) v

-- THE TEXT of a list: its root and a semicolon; and its length
unfoldable pub newick_of : ℕ → List Row → List ℕ
newick_of n rows = vertex_text (shape_of n rows) (length rows) ++ (59 ∷ [])

abbrev pub newick_length : ℕ → List Row → ℕ
newick_length n rows = length (newick_of n rows)
