-- What the call for the length says, and what a lent number then holds. Assumes nothing.
use Prim.Native.Nat.{ℕ}
use mathlib.Core.Path.{◌≡◌, refl}
use Rattle.statement.specs.declared.Splits.{Splits}
use Rattle.statement.specs.Outcomes.{Done}
use Rattle.statement.specs.Rows.{rows_of}
use Rattle.statement.specs.Refusals.{outcome_of, list_checks}
use Rattle.statement.specs.NewickText.{newick_length}
use Rattle.statement.specs.Calls.{measure_newick, newick_measured}

pub length_checks : (n : ℕ) (s : Splits) → outcome_of (list_checks n s) ≡ measure_newick n s
unfolding measure_newick
length_checks n s = refl

pub length_given : (n : ℕ) (s : Splits) (before : ℕ) → measure_newick n s ≡ Done → newick_measured n s before ≡ newick_length n (rows_of s)
unfolding newick_measured
length_given n s before e = rw e
