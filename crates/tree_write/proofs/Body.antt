-- The body of a tree, as bytes, and the tree that it holds. Document 01, "Records in a file". Assumes nothing.
use Prim.Native.Nat.{ℕ, suc, ◌+◌, ◌*◌, ◌-◌, ◌/◌, ◌%◌, ◌^◌, ◌≤◌, ◌<◌}
use native.Mathlib.Omega.{arith}
use native.Mathlib.Nat.{div-div-eq-div-mul}
use native.Mathlib.Decide.{dec_lt}
use mathlib.Core.Path.{◌≡◌, refl, sym, ◌∙◌, ap, ap₂}
use mathlib.Core.Logic.{inl, inr}
use mathlib.Core.List.{List, [], ◌∷◌, ◌++◌, append_assoc}
use lib.ListN.{length, take, drop, get_or, length-append, length-map, get_or-append}
use lib.Seq.{take_at, drop_at, get_or-append-add}
use Rattle.statement.specs.Rows.{Row, Mem}
use Rattle.statement.specs.Tree.{numbers, Tree, root, home_of, tree_of}
use Rattle.statement.specs.Bytes.{from_four, to_bytes, from_bytes, tree_body, tree_in, tree_length}
use Rattle.statement.proofs.Walks.{numbers_length, root_is}

-- words of four bytes: a word holds a number below 2 ^ 32
pub four_back : (w : ℕ) → w < 2 ^ 32 → from_four (w % 256) (w / 256 % 256) (w / 65536 % 256) (w / 16777216 % 256) ≡ w
four_back w l =
    sum (w % 256) (w / 256 % 256) (w / 65536 % 256) (w / 16777216 % 256) (w / 256) (w / 65536) (w / 16777216) (omega arith)
    (omega (arith, div-div-eq-div-mul w 256 256)) (omega (arith, div-div-eq-div-mul w 65536 256)) (omega arith)
  where
    sum : (a b c d p q r : ℕ) → w ≡ a + 256 * p → p ≡ b + 256 * q → q ≡ c + 256 * r → r ≡ d → from_four a b c d ≡ w
    sum a b c d p q r x y z v = omega arith

pub bytes_back : (ws : List ℕ) → ((w : ℕ) → Mem w ws → w < 2 ^ 32) → from_bytes (to_bytes ws) ≡ ws
unfolding to_bytes from_bytes
bytes_back [] small = refl
bytes_back (w ∷ ws) small = ap₂ ◌∷◌ (four_back w (small w (inl refl))) (bytes_back ws (λ x m. small x (inr m)))

pub bytes_length : (ws : List ℕ) → length (to_bytes ws) ≡ 4 * length ws
unfolding to_bytes
bytes_length [] = refl
bytes_length (w ∷ ws) = omega (arith, bytes_length ws)

-- a tree of m edges and n homes
pub record Sized (n : ℕ) (t : Tree) : Type 0 where
  pub homes : length t.homes ≡ n
  pub weights : length t.weights ≡ root t

pub tree_size : (n : ℕ) (rows : List Row) → Sized n (tree_of n rows)
unfolding tree_of
tree_size n rows = record {
  homes = length-map (numbers 0 n) (home_of rows) ∙ numbers_length 0 n;
  weights = length-map rows (λ r. r.weight) ∙ sym (root_is n rows);
}

module _ (n : ℕ) (t : Tree) (size : Sized n t) where
  -- links and homes stand side by side behind the first byte
  pub sides : length (t.links ++ t.homes) ≡ root t + n
  sides = length-append t.links t.homes ∙ ap (λ (k : ℕ). root t + k) size.homes

  pub body_length_law : length (tree_body t) ≡ tree_length n (root t)
  unfolding tree_body
  body_length_law = omega (arith, length-append (t.links ++ t.homes) (to_bytes t.weights), sides, bytes_length t.weights, size.weights)

  -- the vertex that stands at a place of the links, or of the homes
  pub body_vertex : (i : ℕ) → i < root t + n → get_or (tree_body t) (1 + i) 0 ≡ get_or (t.links ++ t.homes) i 0
  unfolding tree_body
  body_vertex i l =
      ap (λ (k : ℕ). get_or (tree_body t) k 0) (let e : 1 + i ≡ suc i = omega arith in e)
      ∙ get_or-append (t.links ++ t.homes) (to_bytes t.weights) 0 i (omega (arith, sides))

  pub vertices_within : (limit : ℕ) → ((i : ℕ) → i < root t → get_or t.links i 0 ≤ limit) → ((i : ℕ) → i < n → get_or t.homes i 0 ≤ limit)
      → (i : ℕ) → i < root t + n → get_or (t.links ++ t.homes) i 0 ≤ limit
  vertices_within limit links homes i l = go (dec_lt i (root t))
    where
      go : Dec (i < root t) → get_or (t.links ++ t.homes) i 0 ≤ limit
      go (yes h) = omega (arith, links i h, get_or-append t.links t.homes 0 i h)
      go (no h) =
          let e : i ≡ root t + (i - root t) = omega arith in
          omega (arith, homes (i - root t) (omega arith), ap (λ (k : ℕ). get_or (t.links ++ t.homes) k 0) e ∙ get_or-append-add t.links t.homes (i - root t) 0)

  -- THE TREE OF THE BODY OF A TREE is that tree
  pub tree_in_body : ((w : ℕ) → Mem w t.weights → w < 2 ^ 32) → tree_in n (tree_body t) ≡ t
  unfolding tree_body tree_in
  tree_in_body small = λ i. record { links = the_links i; homes = the_homes i; weights = the_weights i }
    where
      behind : List ℕ
      behind = t.links ++ t.homes ++ to_bytes t.weights

      dropped : (k : ℕ) → drop (1 + k) (root t ∷ behind) ≡ drop k behind
      dropped k = ap (λ (j : ℕ). drop j (root t ∷ behind)) (let e : 1 + k ≡ suc k = omega arith in e)

      the_links : take (root t) (drop 1 (root t ∷ behind)) ≡ t.links
      the_links = rw append_assoc (take_at t.links (t.homes ++ to_bytes t.weights) (root t) refl)

      the_homes : take n (drop (1 + root t) (root t ∷ behind)) ≡ t.homes
      the_homes =
          ap (take n) (dropped (root t) ∙ rw append_assoc (drop_at t.links (t.homes ++ to_bytes t.weights) (root t) refl))
          ∙ take_at t.homes (to_bytes t.weights) n size.homes

      the_weights : from_bytes (drop (1 + root t + n) (root t ∷ behind)) ≡ t.weights
      the_weights =
          ap from_bytes
          (ap (λ (j : ℕ). drop j (root t ∷ behind)) (let e : 1 + root t + n ≡ 1 + (root t + n) = omega arith in e)
          ∙ dropped (root t + n) ∙ drop_at (t.links ++ t.homes) (to_bytes t.weights) (root t + n) sides)
          ∙ bytes_back t.weights small
