-- DEMAND 1 OVER THE NEWICK CALLS: refused exactly when the table says, with the listed reply; 19 exactly at the first bad byte; no refusal alters what is lent.
-- Assumes nothing.
use Prim.Native.Nat.{ℕ, ◌≤◌}
use native.Mathlib.Omega.{arith}
use mathlib.Core.Path.{◌≡◌, refl, sym, ◌∙◌, subst}
use mathlib.Core.Logic.{inl, inr, ◌↔◌}
use mathlib.Core.Bool.{Bool, true, false, ◌||◌}
use mathlib.Core.List.{List, ◌++◌}
use lib.Dec.{eqb}
use lib.ListN.{length}
use borrow.Author.Tests.{eq-eqb, ne_eqb, eqb-true}
use Rattle.statement.specs.declared.Splits.{Splits}
use Rattle.statement.specs.Outcomes.{Reading, Done, Refused}
use Rattle.statement.specs.Grammar.{IsSentence, FirstBad}
use Rattle.statement.specs.Sentence.{Children, Parsed, outside, sentence, Parses, rows_read}
use Rattle.statement.specs.Rows.{rows_of, list_of}
use Rattle.statement.specs.NewickText.{newick_of, newick_length}
use Rattle.statement.specs.Refusals.{outcome_of, Fails, Given, grammar_off, output_checks, list_checks, text_checks, newick_checks}
use Rattle.statement.specs.Calls.{refused_reading, reading_of, NewickReply, measure_newick, newick_measured, write_newick, newick_written}
use Rattle.statement.proofs.Accepted.{taxa_passed}
use Rattle.statement.proofs.Refused.{refused_exactly}
use Rattle.newick_text.proofs.Productions.{by_productions}
use Rattle.newick_meaning.specs.Parse.{parsed, read_newick}
use Rattle.newick_meaning.proofs.Parses.{text_parses}
use Rattle.newick_meaning.proofs.Unique.{grammar_settles}
use Rattle.claims.specs.Demands.{ExactlyWhen, RefusedIs, Unaltered}
use Rattle.claims.proofs.Demand1.{done_not, exactly, listed, unaltered, reading_outcome}

-- THE READER'S REPLY is the one that the grammar settles, and there is no other
pub read_replies : (n : ℕ) (text : List ℕ) → NewickReply n text (read_newick n text)
read_replies n text =
    let is = text_parses text in record { what = parsed text; parses = is; reply = grammar_settles n text (parsed text) is }

pub one_newick_reply : (n : ℕ) (text : List ℕ) (r s : Reading) → NewickReply n text r → NewickReply n text s → r ≡ s
one_newick_reply n text r s a b =
    a.reply ∙ sym (grammar_settles n text a.what a.parses) ∙ grammar_settles n text b.what b.parses ∙ sym b.reply

-- THE READER, of a text by what it is to the grammar
pub read_newick_law : (n : ℕ) (text : List ℕ) (p : Parsed) → Parses text p
    → ExactlyWhen (read_newick n text).outcome (newick_checks n p) × RefusedIs reading_outcome (read_newick n text) refused_reading
read_newick_law n text p is =
    let given : Reading = record { outcome = Done; list = list_of n (rows_read n p) } in
    let says : reading_of n p ≡ read_newick n text = sym (grammar_settles n text p is) in (
      subst (λ (r : Reading). ExactlyWhen r.outcome (newick_checks n p)) says (exactly reading_outcome refused_reading given (λ o. refl) done_not (newick_checks n p)),
      subst (λ (r : Reading). RefusedIs reading_outcome r refused_reading) says (listed reading_outcome refused_reading given (λ o. refl) done_not (outcome_of (newick_checks n p))),
    )

-- a sentence is refused by other numbers than 19
not_19 : (n : ℕ) (f : Children) (k : ℕ) → Given (text_checks n (sentence f)) 19 k → ⊥
not_19 n f k (inl a) = omega (arith, a.named)
not_19 n f k (inr (p, inl a)) = omega (arith, a.named)
not_19 n f k (inr (p, inr (q, inl a))) = omega (arith, a.named)
not_19 n f k (inr (p, inr (q, inr (r, inl a)))) = omega (arith, a.named)
not_19 n f k (inr (p, inr (q, inr (r, inr (s, a))))) = a

or_false : (b : Bool) → (b || false) ≡ true → b ≡ true
or_false true e = refl
or_false false e = e

-- 19 EXACTLY AT THE FIRST BAD BYTE of a text that begins with no sentence
pub nineteen : (n : ℕ) (text : List ℕ) (k : ℕ) → ((read_newick n text).outcome ≡ Refused 19 k) ↔ ((2 ≤ n) × (n ≤ 64) × FirstBad text k)
nineteen n text k = (
  (λ e. there (parsed text) (text_parses text) (((read_newick_law n text (parsed text) (text_parses text)).0 19 k).0 e)),
  (λ h. let (two, few, b) = h in ((read_newick_law n text (outside k) b).0 19 k).1 (inr ((taxa_passed n).1 (two, few), inl (back k)))),
)
  where
    back : (k : ℕ) → Fails (grammar_off k) 19 k
    back k = record { named = refl; within = omega arith; bad = rw (eq-eqb k k refl); lowest = λ i l. rw (ne_eqb i k (λ e. omega arith)) }

    there : (p : Parsed) → Parses text p → Given (newick_checks n p) 19 k → (2 ≤ n) × (n ≤ 64) × FirstBad text k
    there p is (inl a) = absurd (omega (arith, a.named))
    there (sentence f) is (inr (q, g)) = absurd (not_19 n f k g)
    there (outside j) is (inr (q, inl a)) =
        let (two, few) = (taxa_passed n).0 q in
        let same : k ≡ j = eqb-true k j (or_false (eqb k j) a.bad) in
        (two, few, subst (FirstBad text) (sym same) is)
    there (outside j) is (inr (q, inr (r, g))) = absurd g

-- EXACTLY THE SENTENCES, to depth 130, are read past 19: a text that begins with one, whatever stands behind it
pub sentences_taken : (n : ℕ) (text : List ℕ) → 2 ≤ n → n ≤ 64
    → ((s : List ℕ) × (rest : List ℕ) × IsSentence s × (text ≡ s ++ rest)) ↔ ((k : ℕ) → (read_newick n text).outcome ≡ Refused 19 k → ⊥)
sentences_taken n text two few = (
  (λ h k e. let (s, rest, d, q) = h in ((nineteen n text k).0 e).2.outside s rest d q),
  (λ never. back (parsed text) (text_parses text) never),
)
  where
    back : (p : Parsed) → Parses text p → ((k : ℕ) → (read_newick n text).outcome ≡ Refused 19 k → ⊥) → (s : List ℕ) × (rest : List ℕ) × IsSentence s × (text ≡ s ++ rest)
    back (outside k) b never = absurd (never k ((nineteen n text k).1 (two, few, b)))
    back (sentence f) (rest, i, q) never = let (s, d, e) = (by_productions 129 text rest).1 (f, i, q) in (s, rest, d, e)

-- THE WRITER AND THE LENGTH
pub write_newick_law : (n : ℕ) (s : Splits) (out : List ℕ)
    → ExactlyWhen (write_newick n s out) (output_checks n s (length out) (newick_length n (rows_of s))) × Unaltered (write_newick n s out) out (newick_written n s out)
unfolding write_newick newick_written
write_newick_law n s out = (refused_exactly (output_checks n s (length out) (newick_length n (rows_of s))), unaltered (write_newick n s out) out (newick_of n (rows_of s)))

pub newick_length_law : (n : ℕ) (s : Splits) → ExactlyWhen (measure_newick n s) (list_checks n s)
unfolding measure_newick
newick_length_law n s = refused_exactly (list_checks n s)

pub length_unaltered : (n : ℕ) (s : Splits) (before number place : ℕ) → measure_newick n s ≡ Refused number place → newick_measured n s before ≡ before
unfolding newick_measured
length_unaltered n s before number place e = rw e
