-- `words::read_words` meets its contract, a word at a time.
use native.Mathlib.Omega.{arith}
use lib.ListN.{length-set}
use Rattle.words.proofs.Laws.{word_more, words_all}
use Rattle.words.proofs.read_words.Goals as goal

pub loop-e-preserved : goal.loop-e-preserved
loop-e-preserved c = (
  simp length-set c.loop-e.invariant.0,
  word_more c.args.body.now c.args.count c.requires.1 c.loop-e.words c.loop-e.e _ (omega arith) (omega arith) c.word_at.ensures
      c.loop-e.invariant.1,
)

pub returns : goal.returns
returns c = words_all c.args.body.now c.args.count c.requires.1 c.loop-e.words c.loop-e.e (omega arith) c.loop-e.invariant.1
