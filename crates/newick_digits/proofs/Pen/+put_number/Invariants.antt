-- A number above 9 is its digits but the last, and the last.
use Rattle.newick_digits.proofs.Pen.+put_number.Given as goal

abbrev pub decreases-put_number : goal.decreases-put_number
decreases-put_number l = l.n
