-- THE GRAMMAR OF NEWICK TEXT, by its productions, apart from any reader. Document 02, §2: "one or more children in any order, no spaces or quotes, brackets
-- nested at most 130 deep".
--
--     text     = group ";"
--     group    = "(" children ")"
--     children = child | child "," children
--     child    = number ":" number | group ":" number
--     number   = "0" | a digit other than 0, then digits
--
-- A text is a list of bytes. A child is a taxon's number or a group, with the weight of the edge to it behind the colon; the root has none.
use Rattle.std.specs.Prelude.{ℕ, suc, ◌≤◌, ◌<◌, ◌≡◌, true, List, [], ◌∷◌, ◌++◌, length, take}
use Rattle.statement.specs.Decimal.{digit}

-- "(", ")", ",", ":", ";" and "0" as bytes
abbrev pub left_bracket : ℕ
left_bracket = 40

abbrev pub right_bracket : ℕ
right_bracket = 41

abbrev pub comma : ℕ
comma = 44

abbrev pub colon : ℕ
colon = 58

abbrev pub semicolon : ℕ
semicolon = 59

abbrev pub digit_zero : ℕ
digit_zero = 48

pub data Symbol : Type 0 where
  TEXT : Symbol
  GROUP : Symbol
  CHILDREN : Symbol
  CHILD : Symbol
  NUMBER : Symbol
  DIGITS : Symbol

-- THE PRODUCTIONS. Derives y l s: the symbol y gives the bytes s, in which no more than l brackets are open at once
pub data Derives : Symbol → ℕ → List ℕ → Type 0 where
  whole : {l : ℕ} {g : List ℕ} → Derives GROUP l g → Derives TEXT l (g ++ (semicolon ∷ []))
  brackets : {l : ℕ} {s : List ℕ} → Derives CHILDREN l s → Derives GROUP (suc l) (left_bracket ∷ (s ++ (right_bracket ∷ [])))
  last_child : {l : ℕ} {s : List ℕ} → Derives CHILD l s → Derives CHILDREN l s
  more_children : {l : ℕ} {s t : List ℕ} → Derives CHILD l s → Derives CHILDREN l t → Derives CHILDREN l (s ++ (comma ∷ t))
  a_leaf : {l : ℕ} {x w : List ℕ} → Derives NUMBER l x → Derives NUMBER l w → Derives CHILD l (x ++ (colon ∷ w))
  a_group : {l : ℕ} {g w : List ℕ} → Derives GROUP l g → Derives NUMBER l w → Derives CHILD l (g ++ (colon ∷ w))
  zero_alone : {l : ℕ} → Derives NUMBER l (digit_zero ∷ [])
  no_zero : {l c : ℕ} {s : List ℕ} → digit c ≡ true → (c ≡ digit_zero → ⊥) → Derives DIGITS l s → Derives NUMBER l (c ∷ s)
  no_digit : {l : ℕ} → Derives DIGITS l []
  a_digit : {l c : ℕ} {s : List ℕ} → digit c ≡ true → Derives DIGITS l s → Derives DIGITS l (c ∷ s)

-- A SENTENCE: the root's bracket is the first, and the 131st open bracket is too deep
abbrev pub deepest : ℕ
deepest = 130

abbrev pub IsSentence : List ℕ → Type 0
IsSentence s = Derives TEXT deepest s

-- the bytes p begin some sentence
abbrev pub Viable : List ℕ → Type 0
Viable p = (s : List ℕ) × IsSentence (p ++ s)

-- THE FIRST BAD BYTE of a text that does not begin with a sentence: what stands before it begins one, what stands up to it and with it begins none.
-- Where the text is cut short, so that the whole of it begins one, it is the end
pub record FirstBad (text : List ℕ) (k : ℕ) : Type 0 where
  pub outside : (s rest : List ℕ) → IsSentence s → text ≡ s ++ rest → ⊥
  pub within : k ≤ length text
  pub before : Viable (take k text)
  pub here : k < length text → Viable (take (suc k) text) → ⊥
