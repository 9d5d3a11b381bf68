-- The reply and the lent number are those of the length.
use Rattle.std.proofs.Common.{sym, subst}
use Rattle.statement.specs.Calls.{newick_measured}
use Rattle.splitbox.specs.Face.{Shares}
use Rattle.splitbox.proofs.Places.{newick_length_fits}
use Rattle.splitbox.proofs.splitbox_newick_length.Goals as goal

pub code-requires : goal.code-requires
code-requires c = subst Shares (sym c.in-Err.ensures.said) (newick_length_fits c.args.n c.given-s.result)

pub returns-in-Ok-clause-length_after : goal.returns-in-Ok-clause-length_after
unfolding newick_measured
returns-in-Ok-clause-length_after c = rw (← c.given-s.ensures, ← c.in-Ok.ensures.said) c.in-Ok.ensures.ok

pub returns-in-Err-clause-length_after : goal.returns-in-Err-clause-length_after
unfolding newick_measured
returns-in-Err-clause-length_after c = rw (← c.given-s.ensures, ← c.in-Err.ensures.said)
