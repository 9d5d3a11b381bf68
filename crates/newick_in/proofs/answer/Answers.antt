-- `newick_in::answer` meets its contract: a refused text, or its record.
use native.Mathlib.Omega.{arith}
use mathlib.Core.Path.{refl, sym, ◌∙◌}
use Rattle.newick_in.proofs.Records.{read_covers, read_record, read_refused}
use Rattle.std.proofs.Common.{Result, Ok, Err}
use Rattle.std.specs.Result.{OnErr}
use Rattle.newick_in.proofs.answer.Goals as goal

-- what holds holds of an error too
whatever : {T E P : Type 0} (r : Result T E) → P → OnErr r P
whatever (Ok x) p = tt
whatever (Err e) p = p

pub put_list-requires : goal.put_list-requires
put_list-requires g c = (read_covers _ _ c.in-Ok.list c.in-Ok.ensures, c.requires)

pub returns-in-Ok-clause-ok : goal.returns-in-Ok-clause-ok
returns-in-Ok-clause-ok g c = (c.put_list.ensures.0 ∙ read_record _ _ c.in-Ok.list c.in-Ok.ensures, c.put_list.ensures.1)

pub returns-in_ok-refused-in-Err-clause-ok : goal.returns-in_ok-refused-in-Err-clause-ok
returns-in_ok-refused-in-Err-clause-ok g c = (read_refused _ _ c.in-Err.refusal c.in-Err.ensures, (omega arith, refl))

pub returns-in_err-refused-in-Err-clause-err_refused : goal.returns-in_err-refused-in-Err-clause-err_refused
returns-in_err-refused-in-Err-clause-err_refused g c =
    whatever c.from_residual.result (sym (read_refused _ _ c.in-Err.refusal c.in-Err.ensures))
