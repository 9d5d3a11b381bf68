-- `paths::row_sum` meets its contract: the sum so far and what the rows left add are the whole.
use Prim.Native.Nat.{ℕ}
use native.Mathlib.Omega.{arith}
use Rattle.std.proofs.Common.{rules}
use mathlib.Core.Path.{◌≡◌, ap}
use lib.ListN.{drop}
use Rattle.statement.specs.Rows.{rows_of}
use Rattle.splits_list.proofs.Laws.{Roomy, rows_length}
use Rattle.paths.specs.RowSum.{sum_over, parting}
use Rattle.paths.proofs.Sums.{sum_small}
use Rattle.paths.proofs.ListRows.{next_row, no_row}
use Rattle.paths.proofs.row_sum.Goals as goal

pub overflow_add-sum : goal.overflow_add-sum
overflow_add-sum c =
    let a = c.args in
    let s = a.s.now in
    let room : Roomy s = record { clusters = search rules; weights = search rules; rows = c.requires.i_bound.2 } in
    omega (
      arith,
      c.loop-k.invariant,
      c.parting_weight-sum.ensures,
      next_row (parting a.i a.j) s room c.loop-k.k c.loop-k-test.true,
      sum_small (rows_of s) a.i a.j (omega (arith, rows_length s room)) c.requires.by_index,
    )

pub loop-k-preserved : goal.loop-k-preserved
loop-k-preserved c =
    let a = c.args in
    let s = a.s.now in
    let room : Roomy s = record { clusters = search rules; weights = search rules; rows = c.requires.i_bound.2 } in
    omega (arith, c.loop-k.invariant, c.parting_weight-sum.ensures, next_row (parting a.i a.j) s room c.loop-k.k c.loop-k-test.true)

pub returns : goal.returns
returns c =
    let a = c.args in
    let s = a.s.now in
    let room : Roomy s = record { clusters = search rules; weights = search rules; rows = c.requires.i_bound.2 } in
    let end : c.loop-k.k ≡ s.rows = omega arith in
    omega (arith, c.loop-k.invariant, no_row (parting a.i a.j) s room, ap (λ (k : ℕ). sum_over (parting a.i a.j) (drop k (rows_of s))) end)
