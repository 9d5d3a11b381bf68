-- `parents::put_next` meets its contract: the rows below c, then c, and the row of the same cluster left out.
use Rattle.std.proofs.Common.{rules, arith, ◌+◌, refl, drop}
use Rattle.splits_list.proofs.Laws.{Roomy}
use Rattle.statement.specs.Rows.{row, rows_of}
use Rattle.parents.proofs.Laws.{Past, put_longer, put_here, put_room}
use Rattle.parents.proofs.put_next.Goals as goal
use Rattle.parents.proofs.put_next.Goals.{else-at-old-via-then-at-old+else-old-at, else-at-old-via-else-at-old}

pub pass_below-at-requires : goal.pass_below-at-requires
pass_below-at-requires c =
    let a = c.args in
    (c.requires.0, c.requires.1, omega (arith, c.requires.2, put_longer (row a.c a.w) (drop a.from (rows_of a.old.now))))

pub push-requires : goal.push-requires
push-requires c = put_room _ _ _ _ _ _ _ c.pass_below-at.ensures.0 c.requires.2

pub returns-then-old-at : goal.returns-then-old-at
returns-then-old-at c =
    let roomy : Roomy c.args.old.now = record { clusters = search rules; weights = search rules; rows = c.requires.0 } in
    let at = c.pass_below-at.result in
    let past : Past c.args.old.now c.args.c at (at + 1) = record { same = λ _ _. refl; other = λ n. absurd (n c.if-at-old.true c.if-old-at.true) } in
    rw c.push.ensures (put_here _ _ _ _ _ _ _ _ roomy c.pass_below-at.ensures.0 c.pass_below-at.ensures.1 past)

pub returns-else-at-old : goal.returns-else-at-old
returns-else-at-old c =
    let roomy : Roomy c.args.old.now = record { clusters = search rules; weights = search rules; rows = c.requires.0 } in
    let at = c.pass_below-at.result in
    let past : Past c.args.old.now c.args.c at at = record {
      same = λ l e. absurd (elim c.else-at-old.branch [ else-at-old-via-then-at-old+else-old-at w ↦ w.if-old-at.false e | else-at-old-via-else-at-old w ↦ omega arith ]);
      other = λ _. refl;
    } in
    rw c.push.ensures (put_here _ _ _ _ _ _ _ _ roomy c.pass_below-at.ensures.0 c.pass_below-at.ensures.1 past)
