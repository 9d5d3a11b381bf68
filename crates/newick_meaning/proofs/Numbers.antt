-- A NUMBER of the grammar, where no digit follows it, is the number that its bytes begin with. Assumes nothing.
use mathlib.Core.Path.{◌≡◌, refl, ap, sym, ◌∙◌}
use mathlib.Core.Bool.{Bool, true, false, cond}
use mathlib.Core.List.{List, [], ◌∷◌}
use Prim.Native.Nat.{ℕ, suc, ◌+◌, ◌-◌, ◌*◌, ◌≤◌, ◌<◌}
use native.Mathlib.Omega.{arith}
use lib.ListN.{length, drop, get_or, length-drop}
use lib.Seq.{drop-drop, get_or-drop, drop-cons}
use Rattle.statement.specs.Decimal.{digit, on_from, span}
use Rattle.statement.specs.Sentence.{Digits, none, more, Numeral, nought, lead, digits_text, numeral_text, value, width}

no_digit : (v : ℕ) (c : ℕ) (s : List ℕ) → digit c ≡ false → (on_from v (c ∷ s) ≡ v) × (span (c ∷ s) ≡ 0)
unfolding on_from span
no_digit v c s e = (rw e, rw e)

digits_scan : (r : Digits) (v c : ℕ) (s : List ℕ) → digit c ≡ false → on_from v (digits_text r (c ∷ s)) ≡ on_from v (digits_text r [])
unfolding on_from
digits_scan none v c s e = (no_digit v c s e).0
digits_scan (more d p r) v c s e = rw p (digits_scan r (10 * v + (d - 48)) c s e)

digits_span : (r : Digits) (c : ℕ) (s : List ℕ) → digit c ≡ false → span (digits_text r (c ∷ s)) ≡ length (digits_text r [])
unfolding span
digits_span none c s e = (no_digit 0 c s e).1
digits_span (more d p r) c s e = rw p (ap suc (digits_span r c s e))

digits_drop : (r : Digits) (c : ℕ) (s : List ℕ) → drop (length (digits_text r [])) (digits_text r (c ∷ s)) ≡ c ∷ s
digits_drop none c s = refl
digits_drop (more d p r) c s = digits_drop r c s

zero_digit : digit 48 ≡ true
zero_digit = refl

-- a number as digits
as_digits : Numeral → Digits
as_digits nought = more 48 zero_digit none
as_digits (lead d p q r) = more d p r

as_text : (x : Numeral) (s : List ℕ) → digits_text (as_digits x) s ≡ numeral_text x s
unfolding as_digits
as_text nought s = refl
as_text (lead d p q r) s = refl

module _ (x : Numeral) (c : ℕ) (s : List ℕ) (e : digit c ≡ false) where
  pub num_value : on_from 0 (numeral_text x (c ∷ s)) ≡ value x
  num_value = ap (on_from 0) (sym (as_text x (c ∷ s))) ∙ digits_scan (as_digits x) 0 c s e ∙ ap (on_from 0) (as_text x [])

  pub num_span : span (numeral_text x (c ∷ s)) ≡ width x
  num_span = ap span (sym (as_text x (c ∷ s))) ∙ digits_span (as_digits x) c s e ∙ ap length (as_text x [])

  pub num_drop : drop (width x) (numeral_text x (c ∷ s)) ≡ c ∷ s
  num_drop = ap (λ (k : ℕ). drop k (numeral_text x (c ∷ s))) (sym (ap length (as_text x []))) ∙ ap (drop (length (digits_text (as_digits x) []))) (sym (as_text x (c ∷ s))) ∙ digits_drop (as_digits x) c s

-- the number at a place of a text
module _ (t s : List ℕ) (at c : ℕ) (x : Numeral) (d : digit c ≡ false) (e : drop at t ≡ numeral_text x (c ∷ s)) where
  pub value_at : on_from 0 (drop at t) ≡ value x
  value_at = ap (on_from 0) e ∙ num_value x c s d

  pub span_at : span (drop at t) ≡ width x
  span_at = ap span e ∙ num_span x c s d

  pub past_at : drop (at + width x) t ≡ c ∷ s
  past_at = sym (drop-drop (width x) at t) ∙ ap (drop (width x)) e ∙ num_drop x c s d

pub span_le : (s : List ℕ) → span s ≤ length s
unfolding span
span_le [] = omega arith
span_le (c ∷ s) = by (digit c) (span_le s)
  where
    by : (b : Bool) → span s ≤ length s → cond b (suc (span s)) 0 ≤ suc (length s)
    by true h = omega arith
    by false h = omega arith

pub span_in : (t : List ℕ) (at : ℕ) → at ≤ length t → at + span (drop at t) ≤ length t
span_in t at h = omega (arith, span_le (drop at t), length-drop at t)

-- a digit is a byte of it
pub span_some : (t : List ℕ) (at c : ℕ) → c ≡ get_or t at 256 → digit c ≡ true → at < length t → 0 < span (drop at t)
unfolding span
span_some t at c e d h = rw (drop-cons t at 256 h, sym e, d) (omega arith)

pub past_one : (t s : List ℕ) (at c : ℕ) → drop at t ≡ c ∷ s → drop (at + 1) t ≡ s
past_one t s at c e = sym (drop-drop 1 at t) ∙ ap (drop 1) e

pub head_is : (t s : List ℕ) (at c : ℕ) → drop at t ≡ c ∷ s → get_or t at 256 ≡ c
head_is t s at c e = ap (λ (k : ℕ). get_or t k 256) (let h : at ≡ at + 0 = omega arith in h) ∙ sym (get_or-drop at t 0 256) ∙ ap (λ (u : List ℕ). get_or u 0 256) e
