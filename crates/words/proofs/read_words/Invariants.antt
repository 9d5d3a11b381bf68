-- `words::read_words` meets its contract, a word at a time.
use mathlib.Core.Path.{◌≡◌}
use lib.ListN.{length, take}
use Rattle.statement.specs.Bytes.{from_bytes}
use Rattle.words.proofs.read_words.Given as goal

abbrev pub invariant-loop-e : goal.invariant-loop-e
invariant-loop-e l = (length l.words ≡ 4096) × (take l.e l.words ≡ take l.e (from_bytes l.body))
