-- `table::check_bytes` meets its contract: the place found is the lowest bad one.
use Rattle.std.proofs.Common.{rules, ◌≤◌, ◌<◌, sym, ◌∙◌, ap, [], length, arith}
use Rattle.std.proofs.lemmas.Iterator.{IsFirst-from_position, YieldsList-from_slice}
use borrow.Author.Tests.{lt-ltb, le-ltb, tests}
use Rattle.statement.specs.Refusals.{byte_off}
use Rattle.statement.specs.Replies.{refused_for}
use Rattle.statement.proofs.Lowest.{lowest_at}
use Rattle.statement.proofs.Refused.{refused_at, first_passed, none_left}
use Rattle.table.proofs.check_bytes.Goals as goal

pub returns-then-greatest-le3 : goal.returns-then-greatest-le3
returns-then-greatest-le3 c =
    let bytes = c.args.bytes.now in
    sym (first_passed (byte_off bytes) [] (λ i l. le-ltb 3 _ (omega (arith, c.greatest.ensures i l))) ∙ none_left)

pub returns-in-Some : goal.returns-in-Some
returns-in-Some c =
    let bytes = c.args.bytes.now in
    let at = c.in-Some.place in
    let f = IsFirst-from_position _ _ _ (λ b. 3 < b) (λ b. b ≤ 3) c.in-Some.ensures.ran (YieldsList-from_slice bytes cc) (λ x q k. search (rules, tests)) (λ x q k. search (rules, tests)) in
    let lowest = lowest_at (byte_off bytes).bad (length bytes) at f.0 (lt-ltb 3 _ (f.1 0)) (λ j l. le-ltb 3 _ (f.2 j 0 (omega arith) l)) in
    ap refused_for c.at.ensures ∙ sym (refused_at (byte_off bytes) [] at (sym lowest) f.0)

pub returns-in-None : goal.returns-in-None
returns-in-None c =
    let bytes = c.args.bytes.now in
    let f = IsFirst-from_position _ _ _ (λ b. 3 < b) (λ b. b ≤ 3) c.in-None.ensures.ran (YieldsList-from_slice bytes cc) (λ x q k. search (rules, tests)) (λ x q k. search (rules, tests)) in
    sym (first_passed (byte_off bytes) [] (λ i l. le-ltb 3 _ (f i 0 (omega arith) l)) ∙ none_left)
