-- `table_trial::Sets::row_holds` meets its contract.
use Rattle.std.proofs.Common.{arith, ℕ, List, length, ◌≡◌, ◌+◌, ◌-◌, ◌≤◌, ◌<◌, rules, sym, ◌∙◌, ap, get_or, bit_and, take, drop}
use native.Mathlib.Decide.{dec_lt}
use borrow.Author.Tests.{tests}
use Rattle.std.proofs.lemmas.List.{get_or-take, get_or_default, get_or-drop}
use Rattle.std.proofs.lemmas.Iterator.{cases_from_all, YieldsList-from_slice}
use Rattle.std.proofs.lemmas.Iterator.Adapters.{serves_from_places}
use Rattle.statement.specs.Table.{choose}
use Rattle.table.proofs.Choose.{choose_none, pair_below}
use Rattle.table_trial.proofs.Decided.{decided}
use Rattle.table_trial.proofs.Sets.row_holds.Goals as goal

-- the sets of q are within the 2016
row_within : (q : ℕ) → q < 64 → choose q 2 + q ≤ 2016
row_within q h = go (dec_lt 0 q)
  where
    go : Dec (0 < q) → choose q 2 + q ≤ 2016
    go (yes l) = omega (arith, pair_below (q - 1) q (omega arith) h)
    go (no l) = omega (arith, choose_none q 2 (omega arith))

pub overflow_add-row : goal.overflow_add-row
overflow_add-row c = omega (arith, c.binomial-from.ensures, row_within c.args.q c.requires.0)

pub offset_bounds-self-from : goal.offset_bounds-self-from
offset_bounds-self-from c = omega (arith, c.binomial-from.ensures, row_within c.args.q c.requires.0)

pub slice_bounds-row-end : goal.slice_bounds-row-end
slice_bounds-row-end c =
    let h : c.binomial-from.result + c.args.q ≤ 2016 = omega (arith, c.binomial-from.ensures, row_within c.args.q c.requires.0) in search rules

pub all-requires-clause-callable : goal.all-requires-clause-callable
all-requires-clause-callable c =
    let a = c.args in
    let taxa = a.taxa.now in
    serves_from_places (YieldsList-from_slice taxa cc) (λ x q k. search rules)
    (λ x k l e.
    let b : x.now < a.q = omega (arith, c.requires.1 k l, e ∙ get_or_default taxa k x.now 0 l) in
    let h : c.binomial-from.result + c.args.q ≤ 2016 = omega (arith, c.binomial-from.ensures, row_within c.args.q c.requires.0) in
    search rules)

-- a set of the row
at_row : (pairs : List ℕ) (from q p : ℕ) → p < q → get_or (take q (drop from pairs)) p 0 ≡ get_or pairs (from + p) 0
at_row pairs from q p l = get_or-take q (drop from pairs) p 0 l ∙ get_or-drop from pairs p 0

pub returns : goal.returns
returns c =
    let a = c.args in
    let from = c.binomial-from.result in
    let Held = λ (p : ℕ). bit_and a.side (get_or (take a.q (drop from a.self.now.pairs)) p 0) ≡ a.side in
    let q = cases_from_all _ _ _ Held (λ p. Held p → ⊥) c.all.ensures.ran (YieldsList-from_slice a.taxa.now cc) (λ x q k. search (rules, tests)) (λ x q k. search (rules, tests)) in
    let held = λ (j : ℕ) (l : j < length a.taxa.now).
    let p = get_or a.taxa.now j 0 in
    let e : get_or (take a.q (drop from a.self.now.pairs)) p 0 ≡ get_or a.self.now.pairs (choose a.q 2 + p) 0 =
    rw (← c.binomial-from.ensures) (at_row a.self.now.pairs from a.q p (c.requires.1 j l)) in
    ap (λ (s : ℕ). bit_and a.side s) e in
    decided _ q (λ all j l. sym (held j l) ∙ all j 0 (omega arith) l) (λ (k, l, fails) all. fails 0 (held k l ∙ all k l))
