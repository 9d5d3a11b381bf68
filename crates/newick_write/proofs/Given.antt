-- The text of a list is short. Assumes nothing.
use Prim.Native.Nat.{ℕ, ◌+◌, ◌^◌, ◌≤◌, ◌<◌}
use native.Mathlib.Omega.{arith}
use native.Mathlib.Decide.{ℕ_discrete}
use mathlib.Core.Path.{◌≡◌, ◌∙◌, sym, ap, subst}
use mathlib.Core.List.{List, ◌++◌, append-nil}
use lib.ListN.{length, get_or, set, drop_of_length-le, length-map}
use lib.Seq.{sets, sets-eq, get_or-set_same, get_or-set_other}
use Rattle.statement.specs.declared.Splits.{Splits}
use Rattle.statement.specs.Matrix.{weight_limit}
use Rattle.statement.specs.Rows.{clusters, weights, rows_of, WellFormed, Ascending}
use Rattle.statement.proofs.Listed.{mem_get_d}
use Rattle.statement.proofs.WellFormed.{Roomy, rows_length}
use Rattle.tree_write.proofs.GivenRows.{roomy}
use Rattle.statement.specs.NewickText.{shape_of, vertex_text}
use Rattle.newick_list.proofs.Links.{rooted}
use Rattle.newick_list.proofs.Room.{text_short}

-- one more place filled
pub one_filled : (f : ℕ → ℕ) (xs : List ℕ) (i x : ℕ) → i < length xs → ((j : ℕ) → j < i → get_or xs j 0 ≡ f j) → x ≡ f i
    → (j : ℕ) → j < i + 1 → get_or (set xs i x) j 0 ≡ f j
one_filled f xs i x l before e j k = at (ℕ_discrete j i)
  where
    at : Dec (j ≡ i) → get_or (set xs i x) j 0 ≡ f j
    at (yes q) = ap (λ (m : ℕ). get_or (set xs i x) m 0) q ∙ get_or-set_same xs i x 0 l ∙ e ∙ ap f (sym q)
    at (no q) = get_or-set_other xs i j x 0 q ∙ before j (omega (arith, q))

module _ (n : ℕ) (s : Splits) (few : n ≤ 64) (well : WellFormed weight_limit n s) (whole : s.taxa ≡ n) (hc : length s.clusters ≡ 125) (hw : length s.weights ≡ 125) where
  pub room : Roomy s
  room = roomy n s few well hc hw

  up : Ascending 1 (2 ^ n) (clusters (rows_of s))
  up = subst (λ (k : ℕ). Ascending 1 (2 ^ k) (clusters (rows_of s))) whole well.up

  light : (c : ℕ) → c < length (rows_of s) → get_or (weights (rows_of s)) c 0 < 10000000000
  light c l = omega (arith, well.weigh (get_or (weights (rows_of s)) c 0) (mem_get_d (weights (rows_of s)) c (omega (arith, length-map (rows_of s) (λ r. r.weight)))))

  pub given_short : length (vertex_text (shape_of n (rows_of s)) (length (rows_of s))) ≤ 65000
  given_short = text_short (shape_of n (rows_of s)) (rooted n (rows_of s) up) few (omega (arith, rows_length s room, room.rows)) light

-- a text put into a slice of its length is all that the slice holds
pub sets_whole : (x o : List ℕ) → length o ≡ length x → sets o 0 x ≡ x
sets_whole x o e =
    sets-eq x o 0 (omega arith) ∙ ap (λ (l : List ℕ). x ++ l) (drop_of_length-le o (let h : length o ≤ 0 + length x = omega arith in h)) ∙ append-nil x
