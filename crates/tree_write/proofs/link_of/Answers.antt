-- `tree_write::link_of` meets its contract: the lowest cluster that strictly contains that of row i.
use Rattle.std.proofs.Common.{rules, ℕ, get_or, ◌∙◌}
use native.Mathlib.Omega.{arith}
use Rattle.statement.specs.Tree.{strictly_in}
use Rattle.tree_write.proofs.Searches.{link_found, lowest_most}
use Rattle.tree_write.proofs.link_of.Goals as goal

pub returns : goal.returns
returns c =
    let a = c.args in
    let cs = a.clusters.now in
    let test = λ (j : ℕ). strictly_in a.n (get_or cs a.i 0) (get_or cs j 0) in
    let found = c.lowest.ensures test (λ j l r e. let small = c.requires.2 in search rules) in record {
      upper_bound = omega (arith, found, lowest_most test a.m);
      value = λ rows these. found ∙ link_found rows cs a.m these a.n a.i c.requires.0;
    }
