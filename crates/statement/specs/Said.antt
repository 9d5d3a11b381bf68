-- WHAT THE CODE HANDS BACK, in the words of the table of refusals: a refusal is its number and its place.
use Rattle.std.specs.Prelude.{ℕ, cond, eqb}
use Rattle.std.specs.declared.option.Option.{Option}
use Rattle.std.specs.declared.option.Option.TheVariants.{None, Some}
use Rattle.statement.specs.declared.Reason.{Reason}
use Rattle.statement.specs.declared.Reason.TheVariants as reason
use Rattle.statement.specs.declared.Kind.{Kind}
use Rattle.statement.specs.declared.Kind.TheVariants as kind

-- the number of a reason
abbrev pub number_of_reason : Reason → ℕ
number_of_reason reason.Taxa = 1
number_of_reason reason.Length = 2
number_of_reason reason.Diagonal = 3
number_of_reason reason.Distance = 4
number_of_reason reason.Pair = 5
number_of_reason reason.TableByte = 6
number_of_reason reason.Output = 7
number_of_reason reason.List = 8
number_of_reason reason.Tree = 9
number_of_reason reason.Walk = 10
number_of_reason reason.Home = 11
number_of_reason reason.Edge = 12
number_of_reason reason.Twin = 13
number_of_reason reason.Weight = 14
number_of_reason reason.Mark = 15
number_of_reason reason.Cut = 16
number_of_reason reason.Kind = 17
number_of_reason reason.Sum = 18
number_of_reason reason.Text = 19
number_of_reason reason.Taxon = 20

-- the byte of a record's kind, and the kind of a byte
abbrev pub code_of_kind : Kind → ℕ
code_of_kind kind.Matrix = 1
code_of_kind kind.Table = 2
code_of_kind kind.Tree = 3

abbrev pub kind_coded : ℕ → Option Kind
kind_coded code = cond (eqb code 1) (Some kind.Matrix) (cond (eqb code 2) (Some kind.Table) (cond (eqb code 3) (Some kind.Tree) None))
