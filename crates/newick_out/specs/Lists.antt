-- THE LIST OF A RECORD of any kind: a matrix or a table is run, a tree is read.
use Rattle.std.specs.Prelude.{ℕ, cond, List, eqb}
use Rattle.statement.specs.Outcomes.{Growth, Reading}
use Rattle.statement.specs.Record.{kind_in, taxa_in, body_in}
use Rattle.statement.specs.Calls.{unless_refused, refused_reading, read_tree, find_record, run_record}

abbrev pub without_trials : Growth → Reading
without_trials g = record { outcome = g.outcome; list = g.list }

unfoldable pub list_in : List ℕ → Reading
list_in bytes =
    let o = find_record bytes in
    unless_refused o (refused_reading o)
    (cond (eqb (kind_in bytes) 3) (read_tree (taxa_in bytes) (body_in bytes)) (without_trials (run_record bytes)))
