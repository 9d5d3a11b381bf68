-- `matrix::check_entries` meets its contract: it stops at the lowest bad entry, or has passed them all.
use Prim.Native.Nat.{ℕ, ◌+◌, ◌*◌, ◌<◌}
use native.Mathlib.Omega.{arith}
use mathlib.Core.Path.{◌≡◌, sym, ◌∙◌, ap}
use mathlib.Core.List.{[], ◌∷◌}
use lib.Arith.{digits_lt}
use Rattle.statement.proofs.Lowest.{lowest_at}
use Rattle.statement.proofs.Refused.{refused_at, passed_done}
use Rattle.matrix.proofs.check_entries.Goals as goal

pub returns-then-bad : goal.returns-then-bad
returns-then-bad g c = λ k line.
    let row = c.loop-row.row in
    let column = c.loop-column.column in
    let e = row * c.args.n + column in
    let inside : e < c.args.n * c.args.n = digits_lt c.loop-row-test.true c.loop-column-test.true in
    let within : e < k.places = omega (arith, inside, line.places) in
    let found = sym (line.same row column c.loop-row-test.true c.loop-column-test.true _ c.bad.ensures) ∙ c.if-bad.true in
    rw (c.at.ensures, ← line.number)
    (sym (refused_at k [] e (sym (lowest_at k.bad k.places e within found (c.loop-column.invariant k line))) within))

pub returns : goal.returns
returns g c = λ k line.
    let all : c.loop-row.row ≡ c.args.n = omega arith in
    sym (passed_done (k ∷ []) ((λ i l. c.loop-row.invariant k line i (omega (arith, line.places, ap (λ (m : ℕ). m * c.args.n) all))), tt))
