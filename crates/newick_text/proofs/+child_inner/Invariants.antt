-- `newick_text::child` and `inner` end: each calls the other with fewer brackets left, or further on in the text.
use Rattle.std.proofs.Common.{◌≡◌, ℕ, suc, ◌+◌, ◌-◌, ◌≤◌, length, drop, ◌*◌}
use Rattle.newick_text.specs.Automaton.{run, want}
use Rattle.newick_text.specs.Automaton.{taxon as Auto·taxon}
use Rattle.newick_text.proofs.+child_inner.Given as goal

abbrev pub decreases-child : goal.decreases-child
decreases-child l = 2 * l.left

abbrev pub decreases-inner : goal.decreases-inner
decreases-inner l = 2 * l.left + 1

abbrev pub invariant-inner-loop-p : goal.invariant-inner-loop-p
invariant-inner-loop-p l =
    ((d : ℕ) → run (drop l.at l.t) (want Auto·taxon (suc d) l.left) ≡ run (drop l.i l.t) (want Auto·taxon (suc d) l.left))
    × ((l.at ≤ l.i) × (l.at ≤ length l.t → l.i ≤ length l.t))

abbrev pub decreases-inner-loop-p : goal.decreases-inner-loop-p
decreases-inner-loop-p l = length l.t - l.i
