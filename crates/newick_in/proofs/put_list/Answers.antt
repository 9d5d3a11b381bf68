-- `newick_in::put_list` meets its contract.
use Prim.Native.Nat.{◌+◌, ◌*◌, ◌≤◌}
use mathlib.Core.Path.{◌≡◌, sym, ◌∙◌, ap}
use borrow.Author.Rules.{rules}
use lib.ListN.{length, replicate}
use lib.Seq.{length-take-le}
use Rattle.statement.specs.Record.{record_length}
use Rattle.newick_in.proofs.Records.{tree_taken}
use Rattle.newick_in.proofs.put_list.Goals as goal

pub put_record-requires : goal.put_record-requires
put_record-requires c =
    let a = c.args in
    let hc : length a.list.clusters ≡ 125 = search rules in
    let hw : length a.list.weights ≡ 125 = search rules in
    let fits : 1 + a.n + 5 * a.list.rows ≤ 4096 = search rules in
    let room : c.record_length-whole.result ≤ length a.out.now = search rules in
    let len = length-take-le (1 + a.n + 5 * a.list.rows) (replicate 4096 0) fits in (
      c.requires.0.few,
      tree_taken a.n a.list _ hc hw c.requires.0 len,
      length-take-le _ a.out.now room ∙ c.record_length-whole.ensures ∙ ap record_length (sym len),
    )
