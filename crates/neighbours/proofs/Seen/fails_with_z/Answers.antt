-- `Seen::fails_with_z` meets its contract: each y is on the other side.
use Rattle.std.proofs.Common.{rules}
use Rattle.std.proofs.lemmas.Iterator.{YieldsList-from_slice}
use Rattle.std.proofs.lemmas.Iterator.Adapters.{serves_from_places}
use Rattle.neighbours.proofs.Looks.{all_members, other_at}
use Rattle.neighbours.proofs.Seen.fails_with_z.Goals as goal

pub any-requires-clause-callable : goal.any-requires-clause-callable
any-requires-clause-callable c =
    serves_from_places (YieldsList-from_slice c.args.self.now.others.now cc) (λ x q k. search rules)
    (λ x k l e. let other = other_at _ _ _ _ (all_members _ _ _ _ _ c.args.self.now.all).each k x.now l e in search rules)
