-- `Seen::fails_with_x` meets its contract: each y is on the other side, and so are those before it.
use Rattle.std.proofs.Common.{rules}
use Rattle.std.proofs.lemmas.List.{length-take-le}
use Rattle.std.proofs.lemmas.Iterator.{serves_from_Range}
use Rattle.neighbours.proofs.Looks.{all_members, others_before}
use Rattle.neighbours.proofs.Seen.fails_with_x.Goals as goal

pub any-requires-clause-callable : goal.any-requires-clause-callable
any-requires-clause-callable c =
    serves_from_Range (λ x q k. search rules)
    (λ i _ l. let y = (all_members _ _ _ _ _ c.args.self.now.all).each i l in let before = others_before _ _ _ _ (all_members _ _ _ _ _ c.args.self.now.all).each i in search (rules, length-take-le))
