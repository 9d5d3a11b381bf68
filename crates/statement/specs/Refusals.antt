-- THE TABLE OF REFUSALS. Document 01, "Refusal numbers": for each number the condition and the place, then the order for each input.
-- A new number is one more line here, and one more entry in the orders that give it.
use Rattle.std.specs.Prelude.{ℕ, suc, ◌+◌, ◌*◌, ◌-◌, ◌/◌, ◌%◌, ◌<◌, ◌≡◌, ◌⊎◌, Bool, true, false, cond, not, ◌&&◌, ◌||◌, List, [], ◌∷◌, ◌++◌, ltb, eqb, length, get_or}
use Rattle.statement.specs.declared.Splits.{Splits}
use Rattle.statement.specs.Outcomes.{Outcome, Done, Short, Refused}
use Rattle.statement.specs.Lowest.{lowest, somewhere}
use Rattle.statement.specs.Matrix.{distance_limit, weight_limit}
use Rattle.statement.specs.Table.{choose}
use Rattle.statement.specs.Rows.{well_formed}
use Rattle.statement.specs.Tree.{Tree, root, on_walk, cluster_of}
use Rattle.statement.specs.Bytes.{tree_in, tree_length}
use Rattle.statement.specs.Sentence.{Children, Parsed, outside, sentence, Leaf, Edge, among, taxa_of, split_made, clusters_of, leaves_of, edges_of, semicolon_at}

-- what an outcome is in document 01's table: its number, 0 where nothing is refused, and its place
abbrev pub number_of : Outcome → ℕ
number_of Done = 0
number_of Short = 0
number_of (Refused number place) = number

abbrev pub place_of : Outcome → ℕ
place_of Done = 0
place_of Short = 0
place_of (Refused number place) = place

-- A LINE of the table: its number, how many places it looks at, and which of them are bad
pub record Check : Type 0 where
  pub number : ℕ
  pub places : ℕ
  pub bad : ℕ → Bool

-- a line whose place is always 0
abbrev pub single : ℕ → Bool → Check
single number bad = record { number = number; places = 1; bad = λ i. bad }

-- each check runs over the whole input before the next; the place is the lowest bad one
unfoldable pub outcome_of : List Check → Outcome
outcome_of [] = Done
outcome_of (c ∷ cs) =
    cond (somewhere c.bad c.places) (Refused c.number (lowest c.bad c.places)) (outcome_of cs)

-- EXACTLY WHEN: a check is passed where it finds no bad place; a number is given at a place where the checks before it are passed, and this
-- one has its lowest bad place there
abbrev pub Passed : Check → Type 0
Passed c = (i : ℕ) → i < c.places → c.bad i ≡ false

pub record Fails (c : Check) (number place : ℕ) : Type 0 where
  pub named : c.number ≡ number
  pub within : place < c.places
  pub bad : c.bad place ≡ true
  pub lowest : (i : ℕ) → i < place → c.bad i ≡ false

abbrev pub AllPassed : List Check → Type 0
AllPassed [] = Unit {0}
AllPassed (c ∷ cs) = Passed c × AllPassed cs

abbrev pub Given : List Check → ℕ → ℕ → Type 0
Given [] number place = ⊥
Given (c ∷ cs) number place = Fails c number place ⊎ (Passed c × Given cs number place)

-- THE LINES

-- 1: n below 2 or above 64
abbrev pub taxa_off : ℕ → Check
taxa_off n = single 1 (ltb n 2 || ltb 64 n)

-- 2: input length doesn't match n
abbrev pub length_off : Bool → Check
length_off fits = single 2 (not fits)

-- a tree of n taxa has m from 0 to 2n-3 edges: a length that fits none of these gets 2 as well
abbrev pub tree_fits : ℕ → ℕ → Bool
tree_fits n len = somewhere (λ m. eqb len (tree_length n m)) (2 * n - 2)

-- 3: diagonal not 0, at the entry
abbrev pub diagonal_off : ℕ → List ℕ → Check
diagonal_off n entries = record { number = 3; places = n * n; bad = λ e. eqb (e / n) (e % n) && not (eqb (get_or entries e 0) 0) }

-- 4: distance above 1,000,000, at the entry
abbrev pub distance_off : ℕ → List ℕ → Check
distance_off n entries = record { number = 4; places = n * n; bad = λ e. ltb distance_limit (get_or entries e 0) }

-- 5: the two entries of a pair differ, at the one of lower index
abbrev pub pair_off : ℕ → List ℕ → Check
pair_off n entries =
    record { number = 5; places = n * n; bad = λ e. ltb (e / n) (e % n) && not (eqb (get_or entries e 0) (get_or entries (e % n * n + e / n) 0)) }

-- 6: table byte above 3, at the byte
abbrev pub byte_off : List ℕ → Check
byte_off bytes = record { number = 6; places = length bytes; bad = λ e. ltb 3 (get_or bytes e 0) }

-- 7: output slice not of the exact length
abbrev pub output_off : ℕ → ℕ → Check
output_off len wanted = single 7 (not (eqb len wanted))

-- 8: list not well-formed
abbrev pub list_off : ℕ → ℕ → Splits → Check
list_off most n s = single 8 (not (well_formed most n s))

-- 8: or, where the call wants k = n, another k
abbrev pub whole_list_off : ℕ → Splits → Check
whole_list_off n s = single 8 (not (well_formed weight_limit n s && eqb s.taxa n))

-- 9: m byte disagrees with the length, or a link or home above m
abbrev pub tree_off : ℕ → List ℕ → Check
tree_off n body =
    let m = get_or body 0 0 in single 9 (not (eqb (length body) (tree_length n m)) || somewhere (λ i. ltb m (get_or body (1 + i) 0)) (m + n))

-- 10: some vertex's walk never reaches the root, at the lowest such
abbrev pub walk_off : Tree → Check
walk_off t = record { number = 10; places = root t; bad = λ v. not (on_walk t v (root t)) }

-- 11: taxon 0 not at home at the root
abbrev pub home_off : Tree → Check
home_off t = single 11 (not (eqb (get_or t.homes 0 0) (root t)))

-- 12: an edge with no taxon beyond it, the lowest
abbrev pub edge_off : ℕ → Tree → Check
edge_off n t = record { number = 12; places = root t; bad = λ v. eqb (cluster_of t v n) 0 }

-- 13: two edges with equal clusters, the lowest of them
abbrev pub twin_off : ℕ → Tree → Check
twin_off n t =
    record { number = 13; places = root t; bad = λ v. somewhere (λ w. not (eqb v w) && eqb (cluster_of t v n) (cluster_of t w n)) (root t) }

-- 14: tree weight 0 or above 2,000,000, at the lowest vertex
abbrev pub weight_off : Tree → Check
weight_off t = record { number = 14; places = root t; bad = λ v. eqb (get_or t.weights v 0) 0 || ltb weight_limit (get_or t.weights v 0) }

-- 15: mark wrong
abbrev pub mark_off : List ℕ → Check
mark_off bytes = single 15 (not (eqb (get_or bytes 0 0) 0x53 && eqb (get_or bytes 1 0) 0x70))

-- 16: under 8 bytes, or the record is cut
abbrev pub cut_off : List ℕ → ℕ → Check
cut_off bytes wanted = single 16 (ltb (length bytes) wanted)

-- 17: unknown kind, or a known kind the call doesn't take
abbrev pub kind_off : Bool → Check
kind_off taken = single 17 (not taken)

-- 18: pad not zero, or words don't add to zero
abbrev pub sum_off : ℕ → ℕ → Check
sum_off pad sum = single 18 (not (eqb pad 0) || not (eqb sum 0))

-- OF A TEXT (document 02, §2): a line whose bad places are these
abbrev pub bad_at : ℕ → List ℕ → ℕ → Check
bad_at number bad places = record { number = number; places = places; bad = λ i. among i bad }

-- 19: text outside the grammar or too deep, at its first bad byte or, cut short, its end
abbrev pub grammar_off : ℕ → Check
grammar_off k = bad_at 19 (k ∷ []) (suc k)

-- 20: a taxon repeated or not below n, at the first such, else one missing, at the semicolon. The leaves that are so, where these taxa came before
unfoldable pub strays : ℕ → List ℕ → List Leaf → List ℕ
strays n before [] = []
strays n before (l ∷ ls) =
    cond (not (ltb l.taxon n) || among l.taxon before) (l.place ∷ strays n (l.taxon ∷ before) ls) (strays n (l.taxon ∷ before) ls)

unfoldable pub missing : ℕ → Children → List ℕ
missing n f = cond (somewhere (λ x. not (among x (taxa_of f))) n) (semicolon_at f ∷ []) []

abbrev pub taxon_off : ℕ → Children → Check
taxon_off n f = bad_at 20 (strays n [] (leaves_of f) ++ missing n f) (suc (semicolon_at f))

-- 14, 12, 13 of the edges that are kept, each at the first byte of the earliest such edge's weight. The places of those that pass a test
unfoldable pub places_of : (Edge → Bool) → List Edge → List ℕ
places_of test [] = []
places_of test (e ∷ es) = cond (test e) (e.place ∷ places_of test es) (places_of test es)

-- 14: weight above 2,000,000
abbrev pub heavy_off : Children → Check
heavy_off f = bad_at 14 (places_of (λ e. ltb weight_limit e.weight) (edges_of f)) (suc (semicolon_at f))

-- 12: no taxon beyond the edge
abbrev pub bare_off : ℕ → Children → Check
bare_off n f = bad_at 12 (places_of (λ e. eqb (split_made n e) 0) (edges_of f)) (suc (semicolon_at f))

-- 13: another edge makes the same split, before it or after it
unfoldable pub twins : ℕ → List ℕ → List Edge → List ℕ
twins n before [] = []
twins n before (e ∷ es) =
    cond (among (split_made n e) before || among (split_made n e) (clusters_of n es)) (e.place ∷ twins n (split_made n e ∷ before) es)
    (twins n (split_made n e ∷ before) es)

abbrev pub split_off : ℕ → Children → Check
split_off n f = bad_at 13 (twins n [] (edges_of f)) (suc (semicolon_at f))

-- THE ORDERS

-- the matrix's own checks, and those of a matrix with its n
abbrev pub entry_checks : ℕ → List ℕ → List Check
entry_checks n entries = diagonal_off n entries ∷ distance_off n entries ∷ pair_off n entries ∷ []

abbrev pub matrix_checks : ℕ → List ℕ → List Check
matrix_checks n entries = taxa_off n ∷ length_off (eqb (length entries) (n * n)) ∷ entry_checks n entries

abbrev pub table_checks : ℕ → List ℕ → List Check
table_checks n bytes = taxa_off n ∷ length_off (eqb (length bytes) (choose n 4)) ∷ byte_off bytes ∷ []

-- the tree's own checks, and those of a tree body with its n
abbrev pub vertex_checks : ℕ → List ℕ → List Check
vertex_checks n body =
    let t = tree_in n body in tree_off n body ∷ weight_off t ∷ walk_off t ∷ home_off t ∷ edge_off n t ∷ twin_off n t ∷ []

abbrev pub tree_checks : ℕ → List ℕ → List Check
tree_checks n body = taxa_off n ∷ length_off (tree_fits n (length body)) ∷ vertex_checks n body

-- a list with k = n, and a lent output slice: 7 last in all
abbrev pub output_checks : ℕ → Splits → ℕ → ℕ → List Check
output_checks n s len wanted = taxa_off n ∷ whole_list_off n s ∷ output_off len wanted ∷ []

-- a text: 19; or, of a sentence, 20, then 14, 12, 13
abbrev pub sentence_checks : ℕ → Children → List Check
sentence_checks n f = taxon_off n f ∷ heavy_off f ∷ bare_off n f ∷ split_off n f ∷ []

abbrev pub text_checks : ℕ → Parsed → List Check
text_checks n (outside k) = grammar_off k ∷ []
text_checks n (sentence f) = sentence_checks n f

abbrev pub newick_checks : ℕ → Parsed → List Check
newick_checks n p = taxa_off n ∷ text_checks n p

-- a list with k = n alone
abbrev pub list_checks : ℕ → Splits → List Check
list_checks n s = taxa_off n ∷ whole_list_off n s ∷ []
