-- `newick_text::tail` meets its contract: a colon, then a number.
use borrow.Author.Rules.{rules}
use mathlib.Core.Path.{refl, sym, ◌∙◌}
use Rattle.newick_text.specs.Automaton.{weight, want}
use Rattle.newick_text.proofs.Laws.{goes, fails, colon_yes, colon_no, is_byte, not_byte}
use Rattle.newick_text.proofs.tail.Goals as goal

pub returns-then-eq-clause-k_value : goal.returns-then-eq-clause-k_value
returns-then-eq-clause-k_value c q d l f =
    goes c.args.t.now c.args.p q _ c.peek.ensures (colon_yes q d l _ f (is_byte c.peek.result 58 (sym c.if-eq.ensures))) ∙ c.number.ensures.q_value (want weight d l) weight d l refl

pub returns-else-eq-clause-k_value : goal.returns-else-eq-clause-k_value
returns-else-eq-clause-k_value c q d l f = fails c.args.t.now c.args.p q _ c.peek.ensures (colon_no q d l _ f (not_byte c.peek.result 58 (search rules) (sym c.if-eq.ensures)))
