-- `run::run` meets its contract: growth from the empty list, with an allowance that covers the run.
use Rattle.std.proofs.Common.{◌∙◌}
use Rattle.run.proofs.Laws.{start_well, run_whole}
use Rattle.run.proofs.run.Goals as goal

pub grow_taxa-requires : goal.grow_taxa-requires
grow_taxa-requires g c = start_well _ _ (g.met.S.Source.grows c.args.source.now) _ c.empty.ensures

pub returns : goal.returns
returns g c = c.grow_taxa.ensures ∙ run_whole _ _ (g.met.S.Source.grows c.args.source.now) _ c.empty.ensures
