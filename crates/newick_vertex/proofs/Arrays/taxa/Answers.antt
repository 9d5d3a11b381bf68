-- `newick_vertex::Arrays::taxa` meets its contract.
use native.Mathlib.Omega.{arith}
use mathlib.Core.Path.{ap}
use mathlib.Core.List.{map}
use lib.Dec.{eqb}
use lib.ListN.{length, get_or}
use borrow.Author.Tests.{eq-eqb, ne_eqb}
use Rattle.statement.specs.NewickText.{leaf_text}
use Rattle.newick_list.proofs.Those.{those_take, those_skip, those_end}
use Rattle.newick_vertex.proofs.Stores.{left_same, left_room, left_turn, left_none}
use Rattle.newick_vertex.proofs.Arrays.taxa.Goals as goal
use Rattle.newick_vertex.proofs.Arrays.taxa.Goals.{then-home-v, else-home-v}

pub leaf-requires : goal.leaf-requires
leaf-requires c =
    let a = c.args in let hs = a.self.now.homes.now in let l = c.loop-i in
    left_room l.invariant (ap (map leaf_text) (those_take (λ j. eqb (get_or hs j 0) a.v) (length hs) l.i (omega arith) (eq-eqb _ a.v c.if-home-v.true))) c.requires

pub loop-i-preserved : goal.loop-i-preserved
loop-i-preserved c =
    let a = c.args in let hs = a.self.now.homes.now in let l = c.loop-i in
    elim c.if-home-v.branch [
      | then-home-v w ↦ rw (w.pen-is, w.b-is) (left_turn l.invariant (ap (map leaf_text) (those_take (λ j. eqb (get_or hs j 0) a.v) (length hs) l.i (omega arith) (eq-eqb _ a.v w.if-home-v.true))) w.leaf.ensures)
      | else-home-v w ↦ rw (w.pen-is, w.b-is) (left_same (ap (map leaf_text) (those_skip (λ j. eqb (get_or hs j 0) a.v) (length hs) l.i (omega arith) (ne_eqb _ a.v w.if-home-v.false))) l.invariant)
    ]

pub returns : goal.returns
returns c =
    let a = c.args in let hs = a.self.now.homes.now in let l = c.loop-i in
    left_none l.invariant (ap (map leaf_text) (those_end (λ j. eqb (get_or hs j 0) a.v) (length hs) l.i (omega arith)))
