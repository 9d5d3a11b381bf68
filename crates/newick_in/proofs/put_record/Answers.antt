-- `newick_in::put_record` meets its contract.
use mathlib.Core.Path.{◌∙◌, ap}
use Rattle.statement.specs.Record.{record_of}
use Rattle.newick_in.proofs.Records.{body_written_law}
use Rattle.newick_in.proofs.put_record.Goals as goal

pub returns : goal.returns
returns c =
    let a = c.args in
    (rw c.code.ensures at c.lay_out.ensures)
    ∙ ap (record_of 3 a.n) (c.write_tree.ensures.out_after ∙ body_written_law a.n a.list a.body.now c.requires.1)
