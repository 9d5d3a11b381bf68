-- WHAT A SENTENCE SAYS. Document 02, §2. A sentence is a root with one or more children; a child is a leaf (a taxon) or again a group of children, and has
-- the edge to it with its weight. Each leaf has a place in the text, the first byte of its taxon's number, and each edge has one, the first byte of its weight.
use Rattle.std.specs.Prelude.{ℕ, zero, suc, ◌+◌, ◌≡◌, Bool, true, false, cond, not, ◌||◌, List, [], ◌∷◌, ◌++◌, map, eqb, length}
use Rattle.statement.specs.Cluster.{group_of}
use Rattle.statement.specs.Rows.{Row, row}
use Rattle.statement.specs.Tree.{sort_rows}
use Rattle.statement.specs.Decimal.{digit, on_from}
use Rattle.statement.specs.Grammar.{FirstBad}

-- THE TREE THAT A TEXT DRAWS, by the productions: a number; one or more children, the last one or one with those after it
pub data Digits : Type 0 where
  none : Digits
  more : (c : ℕ) → digit c ≡ true → Digits → Digits

pub data Numeral : Type 0 where
  nought : Numeral
  lead : (c : ℕ) → digit c ≡ true → (c ≡ 48 → ⊥) → Digits → Numeral

pub data Children : Type 0 where
  leaf : Numeral → Numeral → Children
  group : Children → Numeral → Children
  leaf_then : Numeral → Numeral → Children → Children
  group_then : Children → Numeral → Children → Children

-- THEIR TEXT, before what follows it
abbrev pub digits_text : Digits → List ℕ → List ℕ
digits_text none s = s
digits_text (more c p r) s = c ∷ digits_text r s

abbrev pub numeral_text : Numeral → List ℕ → List ℕ
numeral_text nought s = 48 ∷ s
numeral_text (lead c p q r) s = c ∷ digits_text r s

abbrev pub children_text : Children → List ℕ → List ℕ
children_text (leaf x w) s = numeral_text x (58 ∷ numeral_text w s)
children_text (group f w) s = 40 ∷ children_text f (41 ∷ 58 ∷ numeral_text w s)
children_text (leaf_then x w r) s = numeral_text x (58 ∷ numeral_text w (44 ∷ children_text r s))
children_text (group_then f w r) s = 40 ∷ children_text f (41 ∷ 58 ∷ numeral_text w (44 ∷ children_text r s))

-- brackets among these children are nested at most l deep
abbrev pub Fits : Children → ℕ → Type 0
Fits (leaf x w) l = Unit
Fits (group f w) zero = ⊥
Fits (group f w) (suc l) = Fits f l
Fits (leaf_then x w r) l = Fits r l
Fits (group_then f w r) zero = ⊥
Fits (group_then f w r) (suc l) = Fits f l × Fits r (suc l)

-- WHAT A TEXT IS to a reader: no sentence, with its first bad byte; or a sentence, with anything behind its semicolon
pub data Parsed : Type 0 where
  outside : ℕ → Parsed
  sentence : Children → Parsed

abbrev pub Parses : List ℕ → Parsed → Type 0
Parses text (outside k) = FirstBad text k
Parses text (sentence f) = (rest : List ℕ) × Fits f 129 × (text ≡ 40 ∷ children_text f (41 ∷ 59 ∷ rest))

-- the value of a number, and how many bytes it and a list of children have
abbrev pub value : Numeral → ℕ
value x = on_from 0 (numeral_text x [])

abbrev pub width : Numeral → ℕ
width x = length (numeral_text x [])

unfoldable pub size : Children → ℕ
size f = length (children_text f [])

-- x is one of a list
abbrev pub among : ℕ → List ℕ → Bool
among x [] = false
among x (y ∷ ys) = eqb x y || among x ys

-- LEAVES AND EDGES, an edge with the taxa below it
pub record Leaf : Type 0 where
  pub place : ℕ
  pub taxon : ℕ

pub record Edge : Type 0 where
  pub place : ℕ
  pub below : List ℕ
  pub weight : ℕ

abbrev pub leaf_at : ℕ → Numeral → Leaf
leaf_at p x = record { place = p; taxon = value x }

abbrev pub edge_at : ℕ → List ℕ → Numeral → Edge
edge_at p below w = record { place = p; below = below; weight = value w }

-- the taxa of a list of children
unfoldable pub taxa_of : Children → List ℕ
taxa_of (leaf x w) = value x ∷ []
taxa_of (group f w) = taxa_of f
taxa_of (leaf_then x w r) = value x ∷ taxa_of r
taxa_of (group_then f w r) = taxa_of f ++ taxa_of r

-- where the next child starts, after a leaf and after a group
abbrev pub past_leaf : ℕ → Numeral → Numeral → ℕ
past_leaf p x w = p + width x + 1 + width w + 1

abbrev pub past_group : ℕ → Children → Numeral → ℕ
past_group p f w = p + 1 + size f + 1 + 1 + width w + 1

-- the leaves, and the edges, of a list of children whose text starts at p: in the order of their places
unfoldable pub leaves_at : ℕ → Children → List Leaf
leaves_at p (leaf x w) = leaf_at p x ∷ []
leaves_at p (group f w) = leaves_at (p + 1) f
leaves_at p (leaf_then x w r) = leaf_at p x ∷ leaves_at (past_leaf p x w) r
leaves_at p (group_then f w r) = leaves_at (p + 1) f ++ leaves_at (past_group p f w) r

unfoldable pub edges_at : ℕ → Children → List Edge
edges_at p (leaf x w) = edge_at (p + width x + 1) (value x ∷ []) w ∷ []
edges_at p (group f w) = edges_at (p + 1) f ++ (edge_at (p + 1 + size f + 1 + 1) (taxa_of f) w ∷ [])
edges_at p (leaf_then x w r) = edge_at (p + width x + 1) (value x ∷ []) w ∷ edges_at (past_leaf p x w) r
edges_at p (group_then f w r) = edges_at (p + 1) f ++ (edge_at (p + 1 + size f + 1 + 1) (taxa_of f) w ∷ edges_at (past_group p f w) r)

-- THE SPLIT THAT AN EDGE MAKES, by the side without taxon 0: the taxa below the edge, or those not below it where taxon 0 is. This is the re-rooting at
-- taxon 0's home: what lies beyond an edge, seen from there
abbrev pub beyond : List ℕ → ℕ → Bool
beyond below x = cond (among 0 below) (not (among x below)) (among x below)

unfoldable pub split_made : ℕ → Edge → ℕ
split_made n e = group_of (beyond e.below) n

unfoldable pub clusters_of : ℕ → List Edge → List ℕ
clusters_of n es = map (split_made n) es

-- an edge of length 0 is dropped and its ends joined: the other edges keep the taxa on their sides
unfoldable pub kept_edges : List Edge → List Edge
kept_edges [] = []
kept_edges (e ∷ es) = cond (eqb e.weight 0) (kept_edges es) (e ∷ kept_edges es)

-- OF A WHOLE SENTENCE: the root's bracket is at 0, its children at 1, its closing bracket behind them, and then the semicolon
abbrev pub leaves_of : Children → List Leaf
leaves_of f = leaves_at 1 f

abbrev pub edges_of : Children → List Edge
edges_of f = kept_edges (edges_at 1 f)

abbrev pub semicolon_at : Children → ℕ
semicolon_at f = 1 + size f + 1

-- THE LIST: a row for each edge that is kept, in ascending order
abbrev pub row_of : ℕ → Edge → Row
row_of n e = row (split_made n e) e.weight

abbrev pub rows_read : ℕ → Parsed → List Row
rows_read n (outside k) = []
rows_read n (sentence f) = sort_rows (map (row_of n) (edges_of f))
