-- `newick_digits::Pen::put_number` meets its contract: the digits before the last one, by itself for n / 10, then the last.
use native.Mathlib.Omega.{arith}
use Rattle.newick_digits.proofs.Decimal.{len_one, len_more}
use Rattle.newick_digits.proofs.Written.{wrote_digit, wrote_digits}
use Rattle.newick_digits.proofs.Pen.+put_number.Goals as goal
use Rattle.newick_digits.proofs.Pen.+put_number.Goals.{then-n-ge10, else-n-ge10}

pub put_number-requires : goal.put_number-requires
put_number-requires t c = (omega arith, omega (arith, len_more c.args.n c.if-n-ge10.true))

pub put-requires : goal.put-requires
put-requires t c =
    elim c.if-n-ge10.branch [
      | then-n-ge10 w ↦ rw w.self-is (omega (arith, w.put_number.ensures.place, len_more c.args.n w.if-n-ge10.true))
      | else-n-ge10 w ↦ rw w.self-is (omega (arith, len_one c.args.n w.if-n-ge10.false))
    ]

pub returns : goal.returns
returns t c =
    elim c.if-n-ge10.branch [
      | then-n-ge10 w ↦ wrote_digits c.args.n w.if-n-ge10.true w.put_number.ensures (rw w.self-is at c.put.ensures)
      | else-n-ge10 w ↦ wrote_digit c.args.n w.if-n-ge10.false (rw w.self-is at c.put.ensures)
    ]
