-- The tokens of a sentence, and the walk over them.
use Rattle.std.specs.Prelude.{ℕ, ◌+◌, ◌≤◌, ◌<◌, min, ◌≡◌, List, [], ◌∷◌, false, length, drop, get_or}
use Rattle.statement.specs.Sentence.{Numeral, Children, leaf, group, leaf_then, group_then, numeral_text, value, width}
use Rattle.numerals.specs.Numerals.{number_limit}
use Rattle.newick_walk.specs.Machine.{Walk, opening, closing, passing, leafing, weighing, stops_at}

pub data Token : Type 0 where
  opens : Token
  closes : Token
  comma : Token
  taxon : Numeral → Token
  weight : Numeral → Token

unfoldable pub bytes_of : List Token → List ℕ → List ℕ
bytes_of [] s = s
bytes_of (opens ∷ ts) s = 40 ∷ bytes_of ts s
bytes_of (closes ∷ ts) s = 41 ∷ bytes_of ts s
bytes_of (comma ∷ ts) s = 44 ∷ bytes_of ts s
bytes_of (taxon x ∷ ts) s = numeral_text x (bytes_of ts s)
bytes_of (weight x ∷ ts) s = 58 ∷ numeral_text x (bytes_of ts s)

-- no number follows a number
abbrev pub NoTaxon : List Token → Type 0
NoTaxon [] = Unit {0}
NoTaxon (opens ∷ ts) = Unit {0}
NoTaxon (closes ∷ ts) = Unit {0}
NoTaxon (comma ∷ ts) = Unit {0}
NoTaxon (taxon x ∷ ts) = ⊥
NoTaxon (weight x ∷ ts) = Unit {0}

abbrev pub Apart : Token → List Token → Type 0
Apart opens ts = Unit {0}
Apart closes ts = Unit {0}
Apart comma ts = Unit {0}
Apart (taxon x) ts = NoTaxon ts
Apart (weight x) ts = NoTaxon ts

abbrev pub Sep : List Token → Type 0
Sep [] = Unit {0}
Sep (k ∷ ts) = Apart k ts × Sep ts

-- a number too long to tell apart reads as the limit
abbrev pub cut : Numeral → ℕ
cut x = min (value x) number_limit

unfoldable pub step_by : ℕ → Token → Walk → Walk
step_by n opens w = opening w
step_by n closes w = closing w
step_by n comma w = passing w
step_by n (taxon x) w = leafing n w (cut x) (w.at + width x)
step_by n (weight x) w = weighing n w (cut x) (w.at + 1 + width x)

unfoldable pub play : ℕ → List Token → Walk → Walk
play n [] w = w
play n (t ∷ ts) w = play n ts (step_by n t w)

-- the tokens of a list of children, and those that come after
unfoldable pub tokens : Children → List Token → List Token
tokens (leaf x w) s = taxon x ∷ weight w ∷ s
tokens (group f w) s = opens ∷ tokens f (closes ∷ weight w ∷ s)
tokens (leaf_then x w r) s = taxon x ∷ weight w ∷ comma ∷ tokens r s
tokens (group_then f w r) s = opens ∷ tokens f (closes ∷ weight w ∷ comma ∷ tokens r s)

-- a semicolon comes after the tokens ts, which start at i in the text t
abbrev pub Ahead : List ℕ → ℕ → List Token → Type 0
Ahead t i ts = Sep ts × ((s : List ℕ) × (drop i t ≡ bytes_of ts (59 ∷ s)))

-- a token is to be read, and c is its first byte
pub record Ready (n : ℕ) (t : List ℕ) (w : Walk) (c : ℕ) : Type 0 where
  pub taxa : n ≤ 64
  pub inside : w.at < length t
  pub shallow : w.depth ≤ w.at
  pub few : w.table.rows ≤ 125
  pub byte : c ≡ get_or t w.at 256
  pub token : stops_at c ≡ false

-- one turn of the walk: a token is read
abbrev pub Turned : ℕ → List ℕ → Walk → Walk → Type 0
Turned n t w r = (k : Token) (ts : List Token) → Ahead t w.at (k ∷ ts) → (r ≡ step_by n k w) × Ahead t r.at ts

pub record Onward (t : List ℕ) (w r : Walk) : Type 0 where
  pub on : w.at < r.at
  pub within : r.at ≤ length t
  pub shallow : r.depth ≤ r.at
  pub few : r.table.rows ≤ 125

-- the whole walk
abbrev pub Walks : ℕ → List ℕ → Walk → Walk → Type 0
Walks n t w r = (ts : List Token) → Ahead t w.at ts → r ≡ play n ts w
