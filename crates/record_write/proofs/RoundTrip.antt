-- Finding what was written gives that body, whatever stands behind it. Document 01, "Records in a file". Assumes nothing.
use Rattle.std.proofs.Common.{◌≡◌, ℕ, ◌+◌, ◌-◌, ◌*◌, ◌/◌, ◌%◌, ◌^◌, ◌<◌, ◌≤◌, Bool, true, false, cond, eqb, List, [], ◌∷◌, ◌++◌, length, get_or, take, drop, sym, refl, ap, ◌∙◌, append_assoc, append-nil, mul-le-mul, arith, length-append, take_at, eqb-true}
use native.Mathlib.Nat.{div-div-eq-div-mul}
use mathlib.Core.Bool.{false≢true}
use lib.Seq.{get_or_at}
use borrow.Author.Tests.{eqb-false}
use Rattle.statement.specs.Outcomes.{Done}
use Rattle.statement.specs.Table.{choose}
use Rattle.statement.specs.Bytes.{from_four, word_total, word_sum, tree_length}
use Rattle.statement.specs.Refusals.{number_of, tree_fits}
use Rattle.statement.specs.Record.{kinds, is_kind, fits_kind, length_in, record_length, pad_in, body_in, sum_word, summed, record_of, writing_checks}
use Rattle.statement.specs.Calls.{find_record, write_record, record_written}
use Rattle.statement.proofs.Lowest.{some_of}
use Rattle.statement.proofs.Refused.{accepted_exactly}
use Rattle.statement.proofs.Accepted.{taxa_passed}
use Rattle.table.proofs.Choose.{absorb, choose_fits}
use Rattle.record_find.proofs.Found.{good_passed, Found, found_exactly, body_found}
use Rattle.record_write.specs.Parts.{header, pad}

-- NO BODY IS LONG: its length stands in four bytes
pub tree_short : (n len : ℕ) → n ≤ 64 → tree_fits n len ≡ true → len < 2 ^ 32
tree_short n len few e =
    let (m, l, at) = some_of (λ m. eqb len (tree_length n m)) (2 * n - 2) e in omega (arith, eqb-true len (tree_length n m) at)

pub table_short : (n : ℕ) → n ≤ 64 → choose n 4 < 2 ^ 32
table_short n few = omega (arith, absorb n 3, choose_fits n 3 few (omega arith))

pub body_short : (kind n len : ℕ) → n ≤ 64 → fits_kind kinds kind n len ≡ true → len < 2 ^ 32
body_short kind n len few e = go (eqb kind 1) (eqb kind 2) (eqb kind 3) e
  where
    go : (a b c : Bool) → cond a (eqb len (4 * (n * n))) (cond b (eqb len (choose n 4)) (cond c (tree_fits n len) false)) ≡ true → len < 2 ^ 32
    go true b c p = omega (arith, eqb-true len (4 * (n * n)) p, mul-le-mul few few)
    go false true c p = omega (arith, eqb-true len (choose n 4) p, table_short n few)
    go false false true p = tree_short n len few p
    go false false false p = absurd (false≢true p)

-- four bytes give the number back
digits : (l a b c r s t : ℕ) → l ≡ 256 * a + r → a ≡ 256 * b + s → b ≡ 256 * c + t → r + 256 * s + 65536 * t + 16777216 * c ≡ l
digits l a b c r s t e f g = omega arith

from_four_law : (l : ℕ) → l < 2 ^ 32 → from_four (l % 256) (l / 256 % 256) (l / 65536 % 256) (l / 16777216 % 256) ≡ l
from_four_law l h =
    let top : l / 16777216 % 256 ≡ l / 16777216 = omega arith in
    rw top (digits l (l / 256) (l / 65536) (l / 16777216) (l % 256) (l / 256 % 256) (l / 65536 % 256) (omega arith)
    (omega (arith, div-div-eq-div-mul l 256 256)) (omega (arith, div-div-eq-div-mul l 65536 256)))

-- THE SUM: the words of a list of even length, and of one behind it
total_append : (a b : List ℕ) → length a % 2 ≡ 0 → word_total (a ++ b) ≡ word_total a + word_total b
unfolding word_total
total_append [] b h = omega arith
total_append (x ∷ []) b h = absurd (omega arith)
total_append (x ∷ y ∷ a) b h = omega (arith, total_append a b (omega arith))

summed_zero : (l : List ℕ) → length l % 2 ≡ 0 → word_sum (summed l) ≡ 0
unfolding summed word_total
summed_zero l h = omega (arith, total_append l (sum_word l % 256 ∷ sum_word l / 256 ∷ []) h)

pad_length : (len : ℕ) → length (pad len) ≡ len % 2
pad_length len = go (eqb (len % 2) 1) refl
  where
    go : (b : Bool) → eqb (len % 2) 1 ≡ b → length {A = ℕ} (cond b (0 ∷ []) []) ≡ len % 2
    go true p = omega (arith, eqb-true (len % 2) 1 p)
    go false p = omega (arith, eqb-false (len % 2) 1 p)

-- A RECORD that is written, with any bytes behind it
module _ (kind n : ℕ) (body : List ℕ) where
  abbrev front : List ℕ
  front = header kind n (length body) ++ body ++ pad (length body)

  front_length : length front ≡ 8 + length body + length body % 2
  front_length = simp length-append (omega (arith, pad_length (length body)))

  record_length_law : length (record_of kind n body) ≡ record_length (length body)
  unfolding record_of summed
  record_length_law = simp length-append (omega (arith, pad_length (length body)))

  record_zero : word_sum (record_of kind n body) ≡ 0
  unfolding record_of
  record_zero = summed_zero front (omega (arith, front_length))

  module _ (rest : List ℕ) (short : length body < 2 ^ 32) where
    length_is : length_in (record_of kind n body ++ rest) ≡ length body
    unfolding record_of summed
    length_is = from_four_law (length body) short

    -- header, body, and what is behind them
    behind : List ℕ
    behind = pad (length body) ++ (sum_word front % 256 ∷ sum_word front / 256 ∷ rest)

    parts : record_of kind n body ++ rest ≡ header kind n (length body) ++ (body ++ behind)
    unfolding record_of summed behind
    parts = regroup (header kind n (length body)) body (pad (length body)) (sum_word front % 256 ∷ sum_word front / 256 ∷ []) rest
      where
        regroup : (h b p w r : List ℕ) → (((h ++ b) ++ p) ++ w) ++ r ≡ h ++ (b ++ (p ++ (w ++ r)))
        regroup h b p w r = simp append_assoc

    body_is : take (length body) (drop 8 (record_of kind n body ++ rest)) ≡ body
    body_is = ap (λ (l : List ℕ). take (length body) (drop 8 l)) parts ∙ take_at body behind (length body) refl

    at_pad : eqb (length body % 2) 1 ≡ true → get_or (record_of kind n body ++ rest) (8 + length body) 0 ≡ 0
    unfolding behind
    at_pad e =
        ap (λ (l : List ℕ). get_or l (8 + length body) 0) (parts ∙ sym (append_assoc (header kind n (length body)) body behind))
        ∙ simp e (get_or_at (header kind n (length body) ++ body) 0 _ 0 (8 + length body) (simp length-append (omega arith)))

    pad_is : pad_in (record_of kind n body ++ rest) ≡ 0
    pad_is = rw length_is (go (eqb (length body % 2) 1) refl)
      where
        go : (b : Bool) → eqb (length body % 2) 1 ≡ b → cond b (get_or (record_of kind n body ++ rest) (8 + length body) 0) 0 ≡ 0
        go true e = at_pad e
        go false e = refl

    long : record_length (length body) ≤ length (record_of kind n body ++ rest)
    long = simp length-append (omega (arith, record_length_law))

    sum_is : word_sum (take (record_length (length body)) (record_of kind n body ++ rest)) ≡ 0
    sum_is = ap word_sum (take_at (record_of kind n body) rest (record_length (length body)) record_length_law) ∙ record_zero

    written_found : is_kind kinds kind ≡ true → 2 ≤ n → n ≤ 64 → fits_kind kinds kind n (length body) ≡ true → Found (record_of kind n body ++ rest)
    unfolding record_of summed
    written_found known two few fits =
        record {
          header = omega (arith, long);
          mark = (refl, refl);
          kind = known;
          taxa = (two, few);
          fits = rw length_is fits;
          whole = rw length_is long;
          sums = (pad_is, rw length_is sum_is);
        }

-- what was written is found, and its body is that body
module _ (kind n : ℕ) (body rest : List ℕ) (known : is_kind kinds kind ≡ true) (two : 2 ≤ n) (few : n ≤ 64) (fits : fits_kind kinds kind n (length body) ≡ true) where
  short : length body < 2 ^ 32
  short = body_short kind n (length body) few fits

  pub round_trip_found : find_record (record_of kind n body ++ rest) ≡ Done
  round_trip_found = (found_exactly (record_of kind n body ++ rest)).1 (written_found kind n body rest short known two few fits)

  pub round_trip_body : body_in (record_of kind n body ++ rest) ≡ body
  round_trip_body =
      let len : 8 + length body - 8 ≡ length body = omega arith in
      sym (body_found (record_of kind n body ++ rest) (ap number_of round_trip_found) (length body) (sym (length_is kind n body rest short)))
      ∙ ap (λ (k : ℕ). take k (drop 8 (record_of kind n body ++ rest))) len ∙ body_is kind n body rest short

-- after an accepted writing the lent slice is a record that is found, and its body is the one written
pub written_back : (kind n : ℕ) (body out : List ℕ) → write_record kind n body out ≡ Done
    → (find_record (record_written kind n body out) ≡ Done) × (body_in (record_written kind n body out) ≡ body)
unfolding write_record record_written
written_back kind n body out e =
    let (known, (taxa, (fits, others))) = (accepted_exactly (writing_checks kind n body (length out))).0 e in
    let (two, few) = (taxa_passed n).0 taxa in
    let k = (good_passed 17 _).0 known in
    let f = (good_passed 2 _).0 fits in
    let is : record_written kind n body out ≡ record_of kind n body ++ [] = rw e (sym (append-nil (record_of kind n body))) in
    (ap find_record is ∙ round_trip_found kind n body [] k two few f, ap body_in is ∙ round_trip_body kind n body [] k two few f)
