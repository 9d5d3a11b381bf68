-- `newick_text::digits` meets its contract: each digit passed leaves the automaton where it was.
use mathlib.Core.Path.{◌≡◌}
use Prim.Native.Nat.{ℕ, ◌≤◌, ◌-◌}
use lib.ListN.{length, drop}
use Rattle.newick_text.specs.Automaton.{Use, run, some}
use Rattle.newick_text.proofs.digits.Given as goal

abbrev pub invariant-loop-i : goal.invariant-loop-i
invariant-loop-i l = ((u : Use) (d n : ℕ) → run (drop l.at l.t) (some u d n) ≡ run (drop l.i l.t) (some u d n)) × ((l.at ≤ l.i) × (l.at ≤ length l.t → l.i ≤ length l.t))

abbrev pub decreases-loop-i : goal.decreases-loop-i
decreases-loop-i l = length l.t - l.i
