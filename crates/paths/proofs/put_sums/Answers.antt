-- `paths::put_sums` meets its contract: each entry passed holds the sum of the rows that part its taxa.
use native.Mathlib.Omega.{arith}
use mathlib.Core.Path.{refl, ◌∙◌}
use lib.ListN.{length-set}
use lib.Seq.{get_or-set_same, get_or-set_other}
use borrow.Author.Count.{below_none, below_more}
use Rattle.statement.specs.Matrix.{weight_limit}
use Rattle.statement.specs.Rows.{rows_of}
use Rattle.splits_list.proofs.Whole.{whole_rows}
use Rattle.paths.proofs.Entries.{taxa_of_law, sums_filled}
use Rattle.paths.proofs.put_sums.Goals as goal

pub loop-e-init : goal.loop-e-init
loop-e-init c = (refl, below_none _)

pub row_sum-requires : goal.row_sum-requires
row_sum-requires c =
    let list = c.requires.2 in
    let (i, j) = taxa_of_law c.args.n c.loop-e.e (omega arith) c.loop-e-test.true in
    record { i_bound = (omega arith, omega arith, omega (arith, list.taxa, list.few)); by_index = λ w m. (list.weigh w m).1 }

pub loop-e-preserved : goal.loop-e-preserved
loop-e-preserved c =
    let l = c.loop-e in
    let room = l.invariant.0 in (
      length-set l.out _ _ ∙ room,
      below_more _ _ (λ d h. get_or-set_other l.out l.e d _ 0 (omega arith) ∙ l.invariant.1 d h)
          (get_or-set_same l.out l.e _ 0 (omega arith) ∙ c.row_sum.ensures),
    )

pub returns : goal.returns
returns c =
    let l = c.loop-e in
    let s = c.args.s.now in
    let clean = (whole_rows weight_limit c.args.n s c.requires.2 c.requires.3).clean in
    sums_filled c.args.n (rows_of s) clean l.out (omega arith) (l.invariant.0 ∙ c.requires.4) (λ d h. l.invariant.1 d (omega arith))
