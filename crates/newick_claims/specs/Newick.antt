-- THE PROMISES OF DOCUMENT 02, §2, as statements over the definitions of the crate `statement`.
use Rattle.std.specs.Prelude.{ℕ, ◌≤◌, ◌<◌, ◌≡◌, ◌⊎◌, ◌↔◌, List, [], ◌∷◌, ◌++◌, map}
use Rattle.statement.specs.declared.Splits.{Splits}
use Rattle.statement.specs.Outcomes.{Reading, Done}
use Rattle.statement.specs.Matrix.{weight_limit}
use Rattle.statement.specs.Rows.{Row, row, Mem, rows_of, list_of, WellFormed}
use Rattle.statement.specs.Sentence.{Children, Leaf, Edge, taxa_of, edges_at, split_made, clusters_of, semicolon_at}
use Rattle.statement.specs.Calls.{write_newick, newick_written}

-- x is one of a list
abbrev pub OneOf : {A : Type 0} → A → List A → Type 0
OneOf x [] = ⊥
OneOf x (y ∷ ys) = (x ≡ y) ⊎ OneOf x ys

-- the same, with what stands before it and behind it
pub record Stands {A : Type 0} (x : A) (xs : List A) : Type 0 where
  pub before : List A
  pub behind : List A
  pub here : xs ≡ before ++ (x ∷ behind)

abbrev pub taxon_of : Leaf → ℕ
taxon_of l = l.taxon

-- 20: "a taxon repeated or not below n, at the first such": a leaf at this place has a taxon that is not below n, or that a leaf before it has
pub record Astray (n : ℕ) (leaves : List Leaf) (place : ℕ) : Type 0 where
  pub leaf : Leaf
  pub stands : Stands leaf leaves
  pub there : leaf.place ≡ place
  pub why : (n ≤ leaf.taxon) ⊎ Mem leaf.taxon (map taxon_of stands.before)

-- "else one missing, at the semicolon"
abbrev pub Missing : ℕ → Children → ℕ → Type 0
Missing n f place = (place ≡ semicolon_at f) × ((x : ℕ) × (x < n) × (Mem x (taxa_of f) → ⊥))

-- 14, 12: the weight of an edge that is kept stands at this place, and the edge is such
abbrev pub EdgeAt : (Edge → Type 0) → List Edge → ℕ → Type 0
EdgeAt Such edges place = (e : Edge) × OneOf e edges × Such e × (e.place ≡ place)

abbrev pub TooHeavy : Edge → Type 0
TooHeavy e = weight_limit < e.weight

-- no taxon below n on the far side from taxon 0
abbrev pub Bare : ℕ → Edge → Type 0
Bare n e = split_made n e ≡ 0

-- 13: another edge that is kept makes the same split
pub record Twin (n : ℕ) (edges : List Edge) (place : ℕ) : Type 0 where
  pub edge : Edge
  pub stands : Stands edge edges
  pub there : edge.place ≡ place
  pub why : Mem (split_made n edge) (clusters_of n (stands.before ++ stands.behind))

-- a taxon is on the other side of an edge from taxon 0: one of the two is below it and the other is not
abbrev pub OtherSide : List ℕ → ℕ → Type 0
OtherSide below i = (Mem i below × (Mem 0 below → ⊥)) ⊎ ((Mem i below → ⊥) × Mem 0 below)

-- THE LIST OF AN ACCEPTED TEXT: well-formed with k = n, and its rows are exactly the splits of the edges above 0, with their weights
pub record NewickRead (n : ℕ) (f : Children) (list : Splits) : Type 0 where
  pub taxa : list.taxa ≡ n
  pub well : WellFormed weight_limit n list
  pub rows : (r : Row) → OneOf r (rows_of list) ↔ ((e : Edge) × OneOf e (edges_at 1 f) × (1 ≤ e.weight) × (r ≡ row (split_made n e) e.weight))

-- "Text from the writer reads back to the same list", whatever stands behind it
abbrev pub NewickReadsBack : (ℕ → List ℕ → Reading) → ℕ → Splits → List ℕ → Type 0
NewickReadsBack read n s out =
    (rest : List ℕ) → write_newick n s out ≡ Done → read n (newick_written n s out ++ rest) ≡ record { outcome = Done; list = list_of n (rows_of s) }
