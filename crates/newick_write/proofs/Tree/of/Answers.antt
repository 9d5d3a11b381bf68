-- The links and the homes, by the rules of tree_write.
use Prim.Native.Nat.{ℕ, ◌^◌, ◌≤◌, ◌<◌}
use native.Mathlib.Omega.{arith}
use mathlib.Core.Path.{◌≡◌}
use lib.ListN.{length, get_or}
use borrow.Author.Rules.{rules}
use Rattle.statement.specs.Matrix.{weight_limit}
use Rattle.statement.specs.Rows.{WellFormed}
use Rattle.statement.specs.Tree.{link_of, home_of}
use Rattle.statement.proofs.WellFormed.{well_formed_is}
use Rattle.tree_write.proofs.GivenRows.{cluster_small}
use Rattle.newick_write.proofs.Given.{room}
use Rattle.newick_write.proofs.Tree.of.Goals as goal

pub filled-requires : goal.filled-requires
filled-requires c =
    let a = c.args in let s = a.list.now in let pre = c.requires in
    let hc : length s.clusters ≡ 125 = search rules in
    let hw : length s.weights ≡ 125 = search rules in
    let well : WellFormed weight_limit a.n s = (well_formed_is weight_limit a.n s hc hw pre.0).0 pre.1 in
    let r = room a.n s pre.0 well pre.2 hc hw in
    let few : s.rows ≤ 125 = r.rows in
    let small : (j : ℕ) → j < s.rows → get_or s.clusters j 0 < 2 ^ a.n = λ j l. cluster_small s r a.n j well l in
    (omega arith, (few, λ i l _ _ _ _ _ _ _. (l, few, small i l)))

pub filled-requires-2 : goal.filled-requires-2
filled-requires-2 c =
    let a = c.args in let s = a.list.now in let pre = c.requires in
    let hc : length s.clusters ≡ 125 = search rules in
    let hw : length s.weights ≡ 125 = search rules in
    let well : WellFormed weight_limit a.n s = (well_formed_is weight_limit a.n s hc hw pre.0).0 pre.1 in
    let few : s.rows ≤ 125 = (room a.n s pre.0 well pre.2 hc hw).rows in
    (omega arith, (pre.0, λ i l _ _ _ _ _ _. (few, omega arith)))

pub invariant_of-result : goal.invariant_of-result
invariant_of-result c = record {
  few = c.requires.0;
  sized = (search rules, search rules);
  well = c.requires.1;
  whole = c.requires.2;
  linked = record {
    links = λ rows these j l. c.filled.ensures (link_of c.args.n rows) (λ i k r e. search (rules, these)) j l;
    homes = λ rows these j l. c.filled-2.ensures (home_of rows) (λ i k r e. search (rules, these)) j l;
  };
}
