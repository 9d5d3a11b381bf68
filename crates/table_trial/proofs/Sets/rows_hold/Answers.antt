-- `table_trial::Sets::rows_hold` meets its contract: each listed taxon with those before it.
use Rattle.std.proofs.Common.{arith, rules, ℕ, List, ◌+◌, ◌≡◌, ◌<◌, ◌≤◌, bit_and, length, take, get_or, subst, sym}
use borrow.Author.Tests.{tests}
use Rattle.std.proofs.lemmas.List.{get_or-take, length-take-le}
use Rattle.std.proofs.lemmas.List.FromFn.{get_or-range_with_len, length-range_with_len}
use Rattle.std.proofs.lemmas.Iterator.{cases_from_all, serves_from_Range, YieldsList-from_range}
use Rattle.std.specs.List.{range_with_len}
use Rattle.statement.specs.Table.{choose}
use Rattle.table_trial.specs.Sets.{RowHolds}
use Rattle.table_trial.proofs.Decided.{decided}
use Rattle.table_trial.proofs.Sets.rows_hold.Goals as goal

pub all-requires-clause-callable : goal.all-requires-clause-callable
all-requires-clause-callable c =
    let taxa = c.args.taxa.now in
    serves_from_Range (λ x q k. search rules)
    (λ i low high.
    let size : length (take i taxa) ≡ i = length-take-le i taxa (omega arith) in
    let top : get_or taxa i 0 < 64 = c.requires.0 i high in
    let below : (j : ℕ) → j < length (take i taxa) → get_or (take i taxa) j 0 < get_or taxa i 0 =
    λ j l. omega (arith, get_or-take i taxa j 0 (omega arith), c.requires.1 i j high (omega arith)) in
    search rules)

-- a row of the taxa before the one at i, read in the whole list
module _ (side q i : ℕ) (taxa pairs : List ℕ) (within : i ≤ length taxa) where
  Here : ℕ → Type 0
  Here p = bit_and side (get_or pairs (choose q 2 + p) 0) ≡ side

  size : length (take i taxa) ≡ i
  size = length-take-le i taxa within

  whole : RowHolds side q (length (take i taxa)) (take i taxa) pairs → RowHolds side q i taxa pairs
  unfolding Here
  whole h j l = subst (Here) (get_or-take i taxa j 0 l) (h j (omega (arith, size)))

  part : RowHolds side q i taxa pairs → RowHolds side q (length (take i taxa)) (take i taxa) pairs
  unfolding Here
  part h j l = let lj : j < i = omega (arith, size) in subst (Here) (sym (get_or-take i taxa j 0 lj)) (h j lj)

pub returns : goal.returns
returns c =
    let a = c.args in
    let taxa = a.taxa.now in
    let n = length taxa in
    let Row = λ (i : ℕ). RowHolds a.side (get_or taxa i 0) (length (take i taxa)) (take i taxa) a.self.now.pairs in
    let q = cases_from_all _ _ _ Row (λ i. Row i → ⊥) c.all.ensures.ran (YieldsList-from_range 0 n n (cc) (omega arith)) (λ x q k. search (rules, tests)) (λ x q k. search (rules, tests)) in
    let here = λ (i : ℕ) (l : i < n). let e : get_or (range_with_len 0 n) i 0 ≡ i = omega (arith, get_or-range_with_len 0 n i 0 l) in e in
    let turns = length-range_with_len 0 n in
    decided _ q
    (λ all i l. whole a.side (get_or taxa i 0) i taxa a.self.now.pairs (omega arith) (subst Row (here i l) (all i 0 (omega arith) (omega arith))))
    (λ (k, l, fails) all.
    let lk : k < n = omega arith in
    fails 0 (subst Row (sym (here k lk)) (part a.side (get_or taxa k 0) k taxa a.self.now.pairs (omega arith) (all k lk))))
