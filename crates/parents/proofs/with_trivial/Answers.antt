-- `parents::with_trivial` meets its contract: the trivial splits passed are put in.
use Rattle.std.proofs.Common.{arith}
use Rattle.parents.proofs.Laws.{merging_from, merging_room, merging_turn, rest_room, rest_is, none_filled}
use Rattle.parents.proofs.with_trivial.Goals as goal

pub returns-then-k-lt2 : goal.returns-then-k-lt2
returns-then-k-lt2 c =
    let a = c.args in
    none_filled a.most a.s.now.taxa a.s.now _ c.if-k-lt2.true (c.requires.taxa_bound.2 c.if-k-lt2.true) c.empty-list.ensures

pub loop-i-init : goal.loop-i-init
loop-i-init c =
    let a = c.args in
    merging_from a.most a.s.now.taxa c.if-k-lt2.false a.s.now c.requires.s_len_bound _ _ c.empty-list.ensures c.first-i.ensures

pub put_next-at-requires : goal.put_next-at-requires
put_next-at-requires c =
    let a = c.args in (
      c.requires.taxa_bound.1,
      c.loop-i.invariant.low,
      merging_room a.most a.s.now.taxa c.if-k-lt2.false a.s.now c.requires.s_len_bound _ _ _ c.loop-i.invariant (omega arith) _ c.trivial.ensures,
    )

pub loop-i-preserved : goal.loop-i-preserved
loop-i-preserved c =
    let a = c.args in
    merging_turn a.most a.s.now.taxa c.if-k-lt2.false a.s.now c.requires.s_len_bound _ _ _ c.loop-i.invariant (omega arith) _ c.trivial.ensures _ _
    c.put_next-at.ensures

pub push_rest-requires : goal.push_rest-requires
push_rest-requires c =
    let a = c.args in (
      c.requires.taxa_bound.1,
      c.loop-i.invariant.low,
      rest_room a.most a.s.now.taxa c.if-k-lt2.false a.s.now c.requires.s_len_bound _ _ _ c.loop-i.invariant (omega arith),
    )

pub returns : goal.returns
returns c =
    let a = c.args in
    rest_is a.most a.s.now.taxa c.if-k-lt2.false a.s.now c.requires.s_len_bound _ _ _ c.loop-i.invariant (omega arith) _ c.push_rest.ensures
