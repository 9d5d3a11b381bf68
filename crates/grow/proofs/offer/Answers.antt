-- `grow::offer` meets its contract.
use Rattle.std.proofs.Common.{suc, ◌∙◌}
use Rattle.grow.proofs.Laws.{offer_kept, offer_none, offer_room}
use Rattle.grow.proofs.offer.Goals as goal

pub push-requires : goal.push-requires
push-requires g c =
    let a = c.args in
    offer_room ((g.S.Source.manner a.source.now).trial (suc a.k) a.k) a.list.now a.c a.w _ c.trial-v.ensures c.if-v-gt0.true c.requires.room

pub returns-then-v-gt0 : goal.returns-then-v-gt0
returns-then-v-gt0 g c =
    let a = c.args in
    c.push.ensures ∙ offer_kept ((g.S.Source.manner a.source.now).trial (suc a.k) a.k) a.list.now a.c a.w _ c.trial-v.ensures c.if-v-gt0.true

pub returns-else-v-gt0 : goal.returns-else-v-gt0
returns-else-v-gt0 g c =
    let a = c.args in
    offer_none ((g.S.Source.manner a.source.now).trial (suc a.k) a.k) a.list.now a.c a.w _ c.trial-v.ensures c.if-v-gt0.false
