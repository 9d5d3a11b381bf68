-- What the writer's stores leave: bytes pasted one after the other, up to the whole body. Assumes nothing.
use Prim.Native.Nat.{ℕ, zero, suc, ◌+◌, ◌*◌, ◌≤◌, ◌<◌}
use native.Mathlib.Omega.{arith}
use native.Mathlib.Numerals.{add-one}
use mathlib.Core.Path.{◌≡◌, refl, sym, ◌∙◌, ap, ap₂}
use mathlib.Core.List.{List, [], ◌∷◌, ◌++◌, append_assoc}
use lib.ListN.{length, take, drop, get_or, set, length-set, get_or-append}
use lib.Seq.{paste, paste-suc, take-paste, drop-paste, drop-drop, drop-nil, drop-cons, take-add, take_all, take-take, take-suc-set, get_or-append-add}
use Rattle.statement.specs.Rows.{Row}
use Rattle.statement.specs.Tree.{Tree, root, link_of, home_of, tree_of}
use Rattle.statement.specs.Bytes.{four_bytes, to_bytes, tree_body, tree_length}
use Rattle.statement.proofs.Walks.{root_is, link_is, home_is}
use Rattle.tree_write.specs.Vertices.{vertices}
use Rattle.tree_write.proofs.Body.{Sized, tree_size, bytes_length, sides}

-- the vertices of the tree of a list, place by place
pub vertex_link : (n : ℕ) (rows : List Row) (i : ℕ) → i < length rows → link_of n rows i ≡ get_or (vertices (tree_of n rows)) i 0
vertex_link n rows i l =
    sym (get_or-append (tree_of n rows).links (tree_of n rows).homes 0 i (omega (arith, root_is n rows)) ∙ link_is n rows i 0 l)

pub vertex_home : (n : ℕ) (rows : List Row) (i taxon : ℕ) → taxon < n → i ≡ length rows + taxon → home_of rows taxon ≡ get_or (vertices (tree_of n rows)) i 0
vertex_home n rows i taxon l e =
    let at : i ≡ root (tree_of n rows) + taxon = omega (arith, root_is n rows) in
    sym (ap (λ (k : ℕ). get_or (vertices (tree_of n rows)) k 0) at ∙ get_or-append-add (tree_of n rows).links (tree_of n rows).homes taxon 0 ∙ home_is n rows taxon l)

pub vertices_length : (n : ℕ) (rows : List Row) → length (vertices (tree_of n rows)) ≡ length rows + n
vertices_length n rows = sides n (tree_of n rows) (tree_size n rows) ∙ ap (λ (m : ℕ). m + n) (root_is n rows)

-- one more byte of a list that is being pasted
pub one_more : (d s o : List ℕ) (at j x : ℕ) → at + j < length d → j < length s → o ≡ paste d at s j → x ≡ get_or s j 0
    → set o (at + j) x ≡ paste d at s (j + 1)
one_more d s o at j x h k e v =
    ap₂ (λ (l : List ℕ) (y : ℕ). set l (at + j) y) e v ∙ paste-suc d at s j 0 h k ∙ ap (paste d at s) (sym (add-one j))

-- A PASTE GOES ON where it ended
paste_more : (d s : List ℕ) (at k j : ℕ) → at ≤ length d → k ≤ length s → paste (paste d at s k) (at + k) (take j (drop k s)) j ≡ paste d at s (k + j)
paste_more d s at k j ld ls =
    ap₂ (λ (a b : List ℕ). a ++ take j (take j (drop k s)) ++ b) (take-paste d at s k ld ls) rest
    ∙ ap (λ (b : List ℕ). take at d ++ take k s ++ b ++ drop (at + (k + j)) d) (take-take j j (drop k s) (omega arith))
    ∙ ap (λ (a : List ℕ). a ++ drop (at + (k + j)) d)
    (append_assoc (take at d) (take k s) (take j (drop k s)) ∙ ap (λ (b : List ℕ). take at d ++ b) (sym (take-add k j s)))
  where
    rest : drop (at + k + j) (paste d at s k) ≡ drop (at + (k + j)) d
    rest =
        sym (drop-drop j (at + k) (paste d at s k)) ∙ ap (drop j) (drop-paste d at s k ld ls) ∙ drop-drop j (at + k) d
        ∙ ap (λ (i : ℕ). drop i d) (let e : at + k + j ≡ at + (k + j) = omega arith in e)

-- one more word
drop_words : (ws : List ℕ) (i : ℕ) → drop (4 * i) (to_bytes ws) ≡ to_bytes (drop i ws)
unfolding to_bytes
drop_words ws zero = refl
drop_words [] (suc i) = drop-nil (4 * suc i)
drop_words (w ∷ ws) (suc i) =
    ap (λ (k : ℕ). drop k (to_bytes (w ∷ ws))) (let e : 4 * suc i ≡ suc (suc (suc (suc (4 * i)))) = omega arith in e) ∙ drop_words ws i

word_bytes : (ws : List ℕ) (i : ℕ) → i < length ws → take 4 (drop (4 * i) (to_bytes ws)) ≡ four_bytes (get_or ws i 0)
unfolding to_bytes
word_bytes ws i l = ap (take 4) (drop_words ws i ∙ ap to_bytes (drop-cons ws i 0 l))

pub word_more : (d ws o o' : List ℕ) (at i w : ℕ) → at ≤ length d → i < length ws → o ≡ paste d at (to_bytes ws) (4 * i) → w ≡ get_or ws i 0
    → o' ≡ paste o (at + 4 * i) (four_bytes w) 4 → o' ≡ paste d at (to_bytes ws) (4 * (i + 1))
word_more d ws o o' at i w ld l e v f =
    f ∙ ap₂ (λ (a b : List ℕ). paste a (at + 4 * i) b 4) e (ap four_bytes v ∙ sym (word_bytes ws i l))
    ∙ paste_more d (to_bytes ws) at (4 * i) 4 ld (omega (arith, bytes_length ws))
    ∙ ap (paste d at (to_bytes ws)) (let n : 4 * i + 4 ≡ 4 * (i + 1) = omega arith in n)

-- THE WHOLE BODY: the first byte, the vertices, the weights
pasted : (d s : List ℕ) (at k : ℕ) {front : List ℕ} → take at d ≡ front → at ≤ length d → length s ≡ k → take (at + k) (paste d at s k) ≡ front ++ s
pasted d s at k e l h =
    take-paste d at s k l (omega arith) ∙ ap₂ (λ (a b : List ℕ). a ++ b) e (take_all k s (omega arith))

module _ (n : ℕ) (t : Tree) (size : Sized n t) (m : ℕ) (edges : root t ≡ m) (o₀ o₁ o₂ : List ℕ) (long : length o₀ ≡ tree_length n m) where
  pub body_written_law : o₁ ≡ paste (set o₀ 0 m) 1 (vertices t) (m + n) → length o₁ ≡ length (set o₀ 0 m)
      → o₂ ≡ paste o₁ (1 + m + n) (to_bytes t.weights) (4 * m) → length o₂ ≡ length o₁ → o₂ ≡ tree_body t
  unfolding tree_body
  body_written_law e₁ l₁ e₂ l₂ =
      sym (take_all (1 + m + n + 4 * m) o₂ (omega (arith, length-set o₀ 0 m))) ∙ whole
      ∙ ap (λ (k : ℕ). k ∷ (vertices t ++ to_bytes t.weights)) (sym edges)
    where
      front : take (1 + (m + n)) o₁ ≡ m ∷ vertices t
      front =
          ap (take (1 + (m + n))) e₁
          ∙ pasted (set o₀ 0 m) (vertices t) 1 (m + n) (take-suc-set o₀ 0 m (omega arith)) (omega (arith, length-set o₀ 0 m)) (omega (arith, sides n t size))

      whole : take (1 + m + n + 4 * m) o₂ ≡ m ∷ (vertices t ++ to_bytes t.weights)
      whole =
          ap (take (1 + m + n + 4 * m)) e₂
          ∙ pasted o₁ (to_bytes t.weights) (1 + m + n) (4 * m) (ap (λ (k : ℕ). take k o₁) (let e : 1 + m + n ≡ 1 + (m + n) = omega arith in e) ∙ front)
          (omega (arith, length-set o₀ 0 m)) (omega (arith, bytes_length t.weights, size.weights))
