-- `tree_write::home_of` meets its contract: the lowest cluster that has the taxon.
use Rattle.std.proofs.Common.{rules, ℕ, get_or, ◌∙◌}
use native.Mathlib.Omega.{arith}
use lib.Dec.{eqb}
use Rattle.statement.specs.Cluster.{bit}
use Rattle.tree_write.proofs.Searches.{home_found, lowest_most}
use Rattle.tree_write.proofs.home_of.Goals as goal

pub returns : goal.returns
returns c =
    let a = c.args in
    let cs = a.clusters.now in
    let test = λ (j : ℕ). eqb (bit (get_or cs j 0) a.taxon) 1 in
    let found = c.lowest.ensures test (λ j l r e. search rules) in record {
      upper_bound = omega (arith, found, lowest_most test a.m);
      value = λ rows these. found ∙ home_found rows cs a.m these a.taxon;
    }
