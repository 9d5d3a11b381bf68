-- WHAT A TEXT IS, and the reply to it. The automaton tells a sentence from what is none, and its soundness gives the tree that the sentence draws; that this is what
-- the grammar says of the text, and the only thing it can say, is proved in proofs/Parses.antt and proofs/Unique.antt.
use Rattle.std.specs.Prelude.{ℕ, ◌-◌, ◌≡◌, refl, List, length}
use Rattle.newick_text.specs.Automaton.{Out, bad, good, start, run}
use Rattle.statement.specs.Outcomes.{Reading}
use Rattle.statement.specs.Sentence.{Parsed, outside, sentence}
use Rattle.statement.specs.Calls.{reading_of}
use Rattle.newick_text.proofs.Sound.{sound}

unfoldable pub parsed_by : (text : List ℕ) (o : Out) → run text (start 130) ≡ o → Parsed
parsed_by text (bad rest) e = outside (length text - length rest)
parsed_by text (good rest) e = sentence (sound text 129 rest e).0

unfoldable pub parsed : List ℕ → Parsed
parsed text = parsed_by text (run text (start 130)) refl

-- THE REPLY OF THE NEWICK READER on all inputs
unfoldable pub read_newick : ℕ → List ℕ → Reading
read_newick n text = reading_of n (parsed text)
