-- THE LENGTH THAT IS GIVEN IS THE ONE TO LEND: the two calls refuse the same lists, and a slice of the length that is given is filled. Assumes nothing.
use Prim.Native.Nat.{ℕ, ◌≤◌}
use native.Mathlib.Omega.{arith}
use mathlib.Core.Path.{◌≡◌, refl, sym, ◌∙◌}
use mathlib.Core.List.{List, [], ◌∷◌}
use lib.ListN.{length, length-append}
use Rattle.statement.specs.declared.Splits.{Splits}
use Rattle.statement.specs.Outcomes.{Done}
use Rattle.statement.specs.Rows.{rows_of}
use Rattle.statement.specs.NewickText.{shape_of, vertex_text, newick_of, newick_length}
use Rattle.statement.specs.Calls.{measure_newick, newick_measured, write_newick}
use Rattle.splits_list.proofs.Whole.{taken, taken_list, accepted}
use Rattle.newick_write.proofs.Given.{given_short}
use Rattle.newick_write.proofs.Ways.{length_checks, length_given}

pub length_taken : (n : ℕ) (s : Splits) (before : ℕ) (out : List ℕ) → measure_newick n s ≡ Done → length out ≡ newick_measured n s before → write_newick n s out ≡ Done
unfolding write_newick
length_taken n s before out done size =
    sym (accepted n s out (newick_length n (rows_of s)) (newick_of n (rows_of s)) (length_checks n s ∙ done) (size ∙ length_given n s before done) (newick_of n (rows_of s)) refl).0

-- AND IT IS SMALL: a buffer of 65,536 bytes has room for any text and a line feed
pub newick_short : (n : ℕ) (s : Splits) (before : ℕ) → length s.clusters ≡ 125 → length s.weights ≡ 125 → measure_newick n s ≡ Done → newick_measured n s before ≤ 65535
unfolding newick_of
newick_short n s before hc hw done =
    let ok = taken n s (length_checks n s ∙ done) in
    omega (
      arith,
      length_given n s before done,
      length-append (vertex_text (shape_of n (rows_of s)) (length (rows_of s))) (59 ∷ []),
      given_short n s ok.few (taken_list n s hc hw ok) ok.whole hc hw,
    )
