-- HOW MANY BYTES a list of children has. Assumes nothing.
use Prim.Native.Nat.{ℕ, ◌+◌}
use native.Mathlib.Omega.{arith}
use mathlib.Core.Path.{◌≡◌}
use mathlib.Core.List.{List, [], ◌∷◌}
use lib.ListN.{length}
use Rattle.statement.specs.Sentence.{Digits, none, more, Numeral, nought, lead, Children, leaf, group, leaf_then, group_then, digits_text, numeral_text, children_text, width, size}

digits_length : (r : Digits) (s : List ℕ) → length (digits_text r s) ≡ length (digits_text r []) + length s
digits_length none s = omega arith
digits_length (more c p r) s = omega (arith, digits_length r s)

pub num_length : (x : Numeral) (s : List ℕ) → length (numeral_text x s) ≡ width x + length s
num_length nought s = omega arith
num_length (lead c p q r) s = omega (arith, digits_length r s)

pub kids_length : (f : Children) (s : List ℕ) → length (children_text f s) ≡ size f + length s
unfolding size
kids_length (leaf x w) s = omega (arith, num_length x (58 ∷ numeral_text w s), num_length w s, num_length x (58 ∷ numeral_text w []), num_length w [])
kids_length (group f w) s =
    omega (arith, kids_length f (41 ∷ 58 ∷ numeral_text w s), num_length w s, kids_length f (41 ∷ 58 ∷ numeral_text w []), num_length w [])
kids_length (leaf_then x w r) s =
    omega (
      arith,
      num_length x (58 ∷ numeral_text w (44 ∷ children_text r s)),
      num_length w (44 ∷ children_text r s),
      kids_length r s,
      num_length x (58 ∷ numeral_text w (44 ∷ children_text r [])),
      num_length w (44 ∷ children_text r []),
    )
kids_length (group_then f w r) s =
    omega (
      arith,
      kids_length f (41 ∷ 58 ∷ numeral_text w (44 ∷ children_text r s)),
      num_length w (44 ∷ children_text r s),
      kids_length r s,
      kids_length f (41 ∷ 58 ∷ numeral_text w (44 ∷ children_text r [])),
      num_length w (44 ∷ children_text r []),
    )

-- the size, part by part
pub size_leaf : (x w : Numeral) → size (leaf x w) ≡ width x + 1 + width w
unfolding size
size_leaf x w = omega (arith, num_length x (58 ∷ numeral_text w []), num_length w [])

pub size_node : (f : Children) (w : Numeral) → size (group f w) ≡ 1 + size f + 1 + 1 + width w
unfolding size
size_node f w = omega (arith, kids_length f (41 ∷ 58 ∷ numeral_text w []), num_length w [])

pub size_leaf2 : (x w : Numeral) (r : Children) → size (leaf_then x w r) ≡ width x + 1 + width w + 1 + size r
unfolding size
size_leaf2 x w r = omega (arith, num_length x (58 ∷ numeral_text w (44 ∷ children_text r [])), num_length w (44 ∷ children_text r []))

pub size_node2 : (f : Children) (w : Numeral) (r : Children) → size (group_then f w r) ≡ 1 + size f + 1 + 1 + width w + 1 + size r
unfolding size
size_node2 f w r = omega (arith, kids_length f (41 ∷ 58 ∷ numeral_text w (44 ∷ children_text r [])), num_length w (44 ∷ children_text r []))
