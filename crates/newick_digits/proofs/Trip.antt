-- WHAT IS WRITTEN IN DECIMAL reads back, and is a number of the grammar. Assumes nothing.
use mathlib.Core.Path.{◌≡◌, refl, ap, sym, ◌∙◌}
use mathlib.Core.Bool.{true}
use mathlib.Core.List.{List, [], ◌∷◌, ◌++◌, append_assoc}
use Prim.Native.Nat.{ℕ, zero, suc, ◌+◌, ◌-◌, ◌*◌, ◌/◌, ◌%◌, ◌≤◌, ◌<◌}
use native.Mathlib.Omega.{arith}
use native.Mathlib.Decide.{dec_lt}
use borrow.Author.Tests.{lt-ltb, le-ltb}
use Rattle.statement.specs.Decimal.{digit, decimal, decimal_by, on_from}
use Rattle.newick_text.proofs.Laws.{digit_yes}
use Rattle.statement.specs.Sentence.{Digits, none, more, Numeral, nought, lead, digits_text, numeral_text}
use Rattle.newick_digits.proofs.Decimal.{decimal_one, decimal_more}

abbrev AllDigits : List ℕ → Type 0
AllDigits [] = Unit
AllDigits (c ∷ s) = (digit c ≡ true) × AllDigits s

abbrev foldv : ℕ → List ℕ → ℕ
foldv v [] = v
foldv v (c ∷ s) = foldv (10 * v + (c - 48)) s

all_append : (a b : List ℕ) → AllDigits a → AllDigits b → AllDigits (a ++ b)
all_append [] b h g = g
all_append (c ∷ a) b h g = (h.0, all_append a b h.1 g)

fold_append : (a b : List ℕ) (v : ℕ) → foldv v (a ++ b) ≡ foldv (foldv v a) b
fold_append [] b v = refl
fold_append (c ∷ a) b v = fold_append a b (10 * v + (c - 48))

scan_all : (a s : List ℕ) (v : ℕ) → AllDigits a → on_from v (a ++ s) ≡ on_from (foldv v a) s
unfolding on_from
scan_all [] s v h = refl
scan_all (c ∷ a) s v h = rw h.0 (scan_all a s (10 * v + (c - 48)) h.1)

glyph : (d : ℕ) → d < 10 → digit (48 + d) ≡ true
glyph d h = digit_yes (48 + d) (omega arith) (omega arith)

fuel_all : (k n : ℕ) → AllDigits (decimal_by k n)
fuel_all zero n = (glyph (n % 10) (omega arith), tt)
fuel_all (suc k) n = elim (dec_lt n 10) [ yes p ↦ rw (lt-ltb n 10 p) (glyph n p, tt) | no f ↦ rw (le-ltb n 10 (let e : 10 ≤ n = omega arith in e)) (all_append (decimal_by k (n / 10)) ((48 + n % 10) ∷ []) (fuel_all k (n / 10)) (glyph (n % 10) (omega arith), tt)) ]

fuel_value : (k n : ℕ) → n ≤ k → foldv 0 (decimal_by k n) ≡ n
fuel_value zero n h = omega arith
fuel_value (suc k) n h = elim (dec_lt n 10) [ yes p ↦ rw (lt-ltb n 10 p) (let e : 10 * 0 + (48 + n - 48) ≡ n = omega arith in e) | no f ↦ rw (le-ltb n 10 (let e : 10 ≤ n = omega arith in e)) (fold_append (decimal_by k (n / 10)) ((48 + n % 10) ∷ []) 0 ∙ last (fuel_value k (n / 10) (omega arith))) ]
  where
    last : foldv 0 (decimal_by k (n / 10)) ≡ n / 10 → 10 * foldv 0 (decimal_by k (n / 10)) + (48 + n % 10 - 48) ≡ n
    last e = omega arith

snoc : Digits → (c : ℕ) → digit c ≡ true → Digits
snoc none c p = more c p none
snoc (more d q r) c p = more d q (snoc r c p)

snoc_text : (r : Digits) (c : ℕ) (p : digit c ≡ true) (s : List ℕ) → digits_text (snoc r c p) s ≡ digits_text r (c ∷ s)
unfolding snoc
snoc_text none c p s = refl
snoc_text (more d q r) c p s = ap (λ (x : List ℕ). d ∷ x) (snoc_text r c p s)

Led : ℕ → Type 0
Led n = (c : ℕ) × (p : digit c ≡ true) × (q : c ≡ 48 → ⊥) × (r : Digits) × ((s : List ℕ) → c ∷ digits_text r s ≡ decimal n ++ s)

led_one : (n : ℕ) → 0 < n → n < 10 → Led n
unfolding Led
led_one n h g = (48 + n, glyph n g, (λ e. omega arith), none, λ s. rw (decimal_one n g))

led_more : (n : ℕ) → 10 ≤ n → Led (n / 10) → Led n
unfolding Led
led_more n h (c, p, q, r, e) =
    let g : digit (48 + n % 10) ≡ true = glyph (n % 10) (omega arith) in
    (c, p, q, snoc r (48 + n % 10) g, λ s. ap (λ (x : List ℕ). c ∷ x) (snoc_text r (48 + n % 10) g s) ∙ e ((48 + n % 10) ∷ s) ∙ sym (append_assoc (decimal (n / 10)) ((48 + n % 10) ∷ []) s) ∙ ap (λ (x : List ℕ). x ++ s) (sym (decimal_more n h)))

led : (k n : ℕ) → 0 < n → n ≤ k → Led n
led zero n h g = absurd (omega arith)
led (suc k) n h g = elim (dec_lt n 10) [ yes p ↦ led_one n h p | no f ↦ led_more n (omega arith) (led k (n / 10) (omega arith) (omega arith)) ]

-- every number in decimal is a number of the grammar
pub num_for : (n : ℕ) → (m : Numeral) × ((s : List ℕ) → numeral_text m s ≡ decimal n ++ s)
unfolding Led
num_for n = elim (dec_lt 0 n) [ yes p ↦ (let w : Led n = led n n p (omega arith) in (lead w.0 w.1 w.2 w.3, w.4)) | no f ↦ (nought, λ s. (let e : n ≡ 0 = omega arith in rw (e, decimal_one 0 (omega arith)))) ]

scan_end : (n : ℕ) → on_from n [] ≡ n
unfolding on_from
scan_end n = refl

trip_end : (n : ℕ) → on_from 0 (decimal n ++ []) ≡ n
unfolding decimal
trip_end n = scan_all (decimal_by n n) [] 0 (fuel_all n n) ∙ ap (λ (v : ℕ). on_from v []) (fuel_value n n (omega arith)) ∙ scan_end n

-- and its value is the number
pub num_value : (n : ℕ) (m : Numeral) → ((s : List ℕ) → numeral_text m s ≡ decimal n ++ s) → on_from 0 (numeral_text m []) ≡ n
num_value n m h = ap (on_from 0) (h []) ∙ trip_end n
