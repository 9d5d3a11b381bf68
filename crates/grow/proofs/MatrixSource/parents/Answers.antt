-- The `parents` of a matrix meets its contract: every trivial split is put in.
use Rattle.std.proofs.Common.{arith}
use Rattle.statement.specs.Matrix.{distance}
use Rattle.statement.specs.Growing.{by_matrix}
use Rattle.grow.specs.Lawful.{matrix_grows}
use Rattle.grow.proofs.Sources.{one_bare, few_rows, made_of}
use Rattle.grow.proofs.MatrixSource.parents.Goals as goal

pub with_trivial-requires : goal.with_trivial-requires
with_trivial-requires c =
    let m = c.args.self.now in
    let s = c.args.s in
    let grows = matrix_grows m.n m.entries.now m.accepted in
    let w = c.requires.1 in record {
      taxa_bound = (omega (arith, grows.few), few_rows _ _ grows s c.requires.0 w, one_bare _ _ grows s c.requires.0 w);
      s_len_bound = grows.room s c.requires.0 w;
    }

pub returns : goal.returns
returns c =
    let m = c.args.self.now in
    made_of (by_matrix (distance m.n m.entries.now)) c.args.s _ c.with_trivial.ensures
