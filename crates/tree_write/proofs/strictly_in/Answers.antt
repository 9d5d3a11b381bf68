-- The two tests of the code are "strictly in".
use native.Mathlib.Omega.{arith}
use Rattle.std.proofs.lemmas.Grind.{common_steps}
use Rattle.tree_write.proofs.Searches.{strictly_law}
use Rattle.tree_write.proofs.strictly_in.Goals as goal

pub returns-then-a-b : goal.returns-then-a-b
returns-then-a-b c = λ n l. grind (arith, common_steps, strictly_law n c.args.a c.args.b l)
