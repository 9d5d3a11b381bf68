-- The parts of a tree's body, each by its place among the bytes. Document 01, "Records in a file". Assumes nothing.
use Prim.Native.Nat.{ℕ, zero, suc, ◌+◌, ◌*◌, ◌≤◌, ◌<◌}
use native.Mathlib.Omega.{arith}
use mathlib.Core.Path.{◌≡◌, refl, sym, ◌∙◌, ap}
use mathlib.Core.List.{List, [], ◌∷◌}
use lib.ListN.{length, get_or, drop, length-drop}
use lib.Seq.{length-take-le, get_or-take, get_or-drop}
use Rattle.statement.specs.Tree.{root, up}
use Rattle.statement.specs.Bytes.{from_bytes, tree_in, tree_length}
use Rattle.tree_body.specs.Words.{word_at}

-- within a list it does not matter what is said beyond its end
pub within_list : (xs : List ℕ) (i d e : ℕ) → i < length xs → get_or xs i d ≡ get_or xs i e
within_list [] i d e l = absurd (omega arith)
within_list (x ∷ xs) zero d e l = refl
within_list (x ∷ xs) (suc i) d e l = within_list xs i d e (omega arith)

-- the words of a list of bytes
past_word : (a b c d : ℕ) (rest : List ℕ) (p q : ℕ) → q ≡ 4 + p → get_or (a ∷ b ∷ c ∷ d ∷ rest) q 0 ≡ get_or rest p 0
past_word a b c d rest p q e = let k : q ≡ suc (suc (suc (suc p))) = omega arith in ap (λ (i : ℕ). get_or (a ∷ b ∷ c ∷ d ∷ rest) i 0) k

same_word : (xs ys : List ℕ) (p q : ℕ) → ((i : ℕ) → get_or xs (p + i) 0 ≡ get_or ys (q + i) 0) → word_at xs p ≡ word_at ys q
same_word xs ys p q e = omega (arith, first, e 1, e 2, e 3)
  where
    first : get_or xs p 0 ≡ get_or ys q 0
    first = ap (λ (i : ℕ). get_or xs i 0) (omega arith) ∙ e 0 ∙ ap (λ (i : ℕ). get_or ys i 0) (omega arith)

pub word_at_law : (xs : List ℕ) (v : ℕ) → 4 * v + 4 ≤ length xs → get_or (from_bytes xs) v 0 ≡ word_at xs (4 * v)
unfolding from_bytes
word_at_law [] v l = absurd (omega arith)
word_at_law (a ∷ []) v l = absurd (omega arith)
word_at_law (a ∷ b ∷ []) v l = absurd (omega arith)
word_at_law (a ∷ b ∷ c ∷ []) v l = absurd (omega arith)
word_at_law (a ∷ b ∷ c ∷ d ∷ rest) zero l = refl
word_at_law (a ∷ b ∷ c ∷ d ∷ rest) (suc v) l =
    word_at_law rest v (omega arith)
    ∙ sym (same_word (a ∷ b ∷ c ∷ d ∷ rest) rest (4 * suc v) (4 * v) (λ i. past_word a b c d rest (4 * v + i) (4 * suc v + i) (omega arith)))

-- a body whose m byte agrees with its length
module _ (n : ℕ) (body : List ℕ) (sized : length body ≡ tree_length n (get_or body 0 0)) where
  pub root_is : root (tree_in n body) ≡ get_or body 0 0
  unfolding tree_in
  root_is = length-take-le (get_or body 0 0) (drop 1 body) (omega (arith, length-drop 1 body))

  pub link_at : (v : ℕ) → v < get_or body 0 0 → up (tree_in n body) v ≡ get_or body (1 + v) 0
  unfolding tree_in
  link_at v l =
      get_or-take (get_or body 0 0) (drop 1 body) v (root (tree_in n body)) l
      ∙ get_or-drop 1 body v (root (tree_in n body)) ∙ within_list body (1 + v) (root (tree_in n body)) 0 (omega arith)

  pub home_at : (i : ℕ) → i < n → get_or (tree_in n body).homes i 0 ≡ get_or body (1 + get_or body 0 0 + i) 0
  unfolding tree_in
  home_at i l = get_or-take n (drop (1 + get_or body 0 0) body) i 0 l ∙ get_or-drop (1 + get_or body 0 0) body i 0

  pub weight_at_law : (v : ℕ) → v < get_or body 0 0 → get_or (tree_in n body).weights v 0 ≡ word_at body (1 + get_or body 0 0 + n + 4 * v)
  unfolding tree_in
  weight_at_law v l =
      let p = 1 + get_or body 0 0 + n in
      word_at_law (drop p body) v (omega (arith, length-drop p body))
      ∙ same_word (drop p body) body (4 * v) (p + 4 * v)
      (λ i. get_or-drop p body (4 * v + i) 0 ∙ ap (λ (k : ℕ). get_or body k 0) (omega arith))
