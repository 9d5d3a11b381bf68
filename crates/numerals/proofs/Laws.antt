-- Laws of the numbers in a text, for loops that pass it byte by byte. Assumes nothing.
use Prim.Native.Nat.{ℕ, zero, suc, ◌+◌, ◌*◌, ◌-◌, ◌≤◌, ◌<◌, min}
use native.Mathlib.Omega.{arith}
use native.Mathlib.Numerals.{add-one}
use mathlib.Core.Logic.{◌⊎◌, inl, inr}
use mathlib.Core.Path.{◌≡◌, refl, sym, ◌∙◌, ap}
use mathlib.Core.Bool.{Bool, true, false, cond}
use mathlib.Core.List.{List, [], ◌∷◌}
use lib.Dec.{ltb, eqb}
use borrow.Author.Tests.{ltb-false}
use lib.ListN.{length, get_or, drop, get_or-map}
use lib.Seq.{drop-cons, drop-nil}
use Rattle.statement.specs.Decimal.{digit, on_from, span}
use Rattle.numerals.specs.Numerals.{starts_at, number_at, starts_from, starts_in, numbers_in, number_limit, wrong_at}
use Rattle.numerals.specs.declared.Fault.TheVariants.{TooLarge}
use Rattle.numerals.specs.declared.Place.{Place}
use Rattle.numerals.specs.Place.{behind, place_of}

-- the least number that is too large
abbrev pub too_large : ℕ
too_large = 4294967296

drop_all : (xs : List ℕ) (i : ℕ) → length xs ≤ i → drop i xs ≡ []
drop_all [] i l = drop-nil i
drop_all (x ∷ xs) zero l = absurd (omega arith)
drop_all (x ∷ xs) (suc i) l = drop_all xs i (omega arith)

-- A NUMBER, of which only what is below that counts
pub capped : (u v : ℕ) (bs : List ℕ) → min u too_large ≡ min v too_large → min (on_from u bs) too_large ≡ min (on_from v bs) too_large
unfolding on_from
capped u v [] e = e
capped u v (b ∷ bs) e = go (digit b) (capped (10 * u + (b - 48)) (10 * v + (b - 48)) bs (omega arith))
  where
    go : (d : Bool) → min (on_from (10 * u + (b - 48)) bs) too_large ≡ min (on_from (10 * v + (b - 48)) bs) too_large
        → min (cond d (on_from (10 * u + (b - 48)) bs) u) too_large ≡ min (cond d (on_from (10 * v + (b - 48)) bs) v) too_large
    go true on = on
    go false on = e

-- the number that goes on from v at the place i
module _ (text : List ℕ) (i v : ℕ) where
  step : i < length text → (d : Bool) → digit (get_or text i 0) ≡ d
      → on_from v (drop i text) ≡ cond d (on_from (10 * v + (get_or text i 0 - 48)) (drop (i + 1) text)) v
  unfolding on_from
  step l d e =
      ap (on_from v) (drop-cons text i 0 l ∙ ap (λ (j : ℕ). get_or text i 0 ∷ drop j text) (sym (add-one i)))
      ∙ ap (λ (t : Bool). cond t (on_from (10 * v + (get_or text i 0 - 48)) (drop (i + 1) text)) v) e

  pub number_on : i < length text → digit (get_or text i 0) ≡ true
      → min (on_from (min (10 * v + (get_or text i 0 - 48)) too_large) (drop (i + 1) text)) too_large ≡ min (on_from v (drop i text)) too_large
  number_on l e =
      let grown = 10 * v + (get_or text i 0 - 48) in
      capped (min grown too_large) grown (drop (i + 1) text) (omega arith) ∙ ap (λ (x : ℕ). min x too_large) (sym (step l true e))

  pub number_ends : i < length text → digit (get_or text i 0) ≡ false → on_from v (drop i text) ≡ v
  number_ends l e = step l false e

  pub text_ends : length text ≤ i → on_from v (drop i text) ≡ v
  unfolding on_from
  text_ends l = ap (on_from v) (drop_all text i l)

  -- and how many digits stand there
  span_step : i < length text → (d : Bool) → digit (get_or text i 0) ≡ d → span (drop i text) ≡ cond d (suc (span (drop (i + 1) text))) 0
  unfolding span
  span_step l d e =
      ap span (drop-cons text i 0 l ∙ ap (λ (j : ℕ). get_or text i 0 ∷ drop j text) (sym (add-one i)))
      ∙ ap (λ (t : Bool). cond t (suc (span (drop (i + 1) text))) 0) e

  pub span_on : i < length text → digit (get_or text i 0) ≡ true → span (drop i text) ≡ suc (span (drop (i + 1) text))
  span_on l e = span_step l true e

  pub span_ends : i < length text → digit (get_or text i 0) ≡ false → span (drop i text) ≡ 0
  span_ends l e = span_step l false e

  pub span_none : length text ≤ i → span (drop i text) ≡ 0
  unfolding span
  span_none l = ap span (drop_all text i l)

-- THE PLACE of byte i, which a loop up to p has reached; as many lines, and as many columns, as bytes at most
pub record Passed (text : List ℕ) (p i : ℕ) (here : Place) : Type 0 where
  pub within : i ≤ p
  pub inside : i ≤ length text
  pub line : here.line ≤ i + 1
  pub column : here.column ≤ i + 1
  pub place : here ≡ place_of text i

pub passed_none : {text : List ℕ} {p : ℕ} → Passed text p 0 (record { line = 1; column = 1 })
unfolding place_of
passed_none = record { within = omega arith; inside = omega arith; line = omega arith; column = omega arith; place = refl }

behind_small : (here : Place) (b i : ℕ) → here.line ≤ i + 1 → here.column ≤ i + 1
    → ((behind here b).line ≤ i + 1 + 1) × ((behind here b).column ≤ i + 1 + 1)
behind_small here b i l m = go (eqb b 10)
  where
    go : (t : Bool) → let next : Place = cond t (record { line = here.line + 1; column = 1 }) (record { line = here.line; column = here.column + 1 }) in (next.line ≤ i + 1 + 1) × (next.column ≤ i + 1 + 1)
    go true = (omega arith, omega arith)
    go false = (omega arith, omega arith)

pub passed_on : {text : List ℕ} {p i : ℕ} {here next : Place}
    → Passed text p i here → i < p → i < length text → next ≡ behind here (get_or text i 0) → Passed text p (i + 1) next
unfolding place_of
passed_on {text} {p} {i} {here} {next} k l m e =
    let small = behind_small here (get_or text i 0) i k.line k.column in
    record {
      within = omega arith;
      inside = omega arith;
      line = rw e small.0;
      column = rw e small.1;
      place = e ∙ ap (λ (h : Place). behind h (get_or text i 0)) k.place ∙ ap (place_of text) (sym (add-one i));
    }

-- NUMBER i, by the place where it starts; none is above the limit in a text without that fault
pub number_is : (text : List ℕ) (i : ℕ) → get_or (numbers_in text) i 0 ≡ number_at text (get_or (starts_in text) i (length text))
number_is text i =
    ap (get_or (numbers_in text) i) (sym (text_ends text (length text) 0 (omega arith))) ∙ get_or-map (number_at text) (starts_in text) i (length text)

pub record Start (text : List ℕ) (p m at : ℕ) : Type 0 where
  pub begins : starts_at text at ≡ true
  pub within : at < p + m

starts_hold : (text : List ℕ) (p m i d : ℕ) → Start text p m (get_or (starts_from text p m) i d) ⊎ (get_or (starts_from text p m) i d ≡ d)
unfolding starts_from
starts_hold text p zero i d = inr refl
starts_hold text p (suc m) i d = go (starts_at text p) refl i (λ k. later (starts_hold text (suc p) m k d))
  where
    later : {at : ℕ} → Start text (suc p) m at ⊎ (at ≡ d) → Start text p (suc m) at ⊎ (at ≡ d)
    later (inl s) = inl (record { begins = s.begins; within = omega (arith, s.within) })
    later (inr e) = inr e

    go : (t : Bool) → starts_at text p ≡ t → (i : ℕ)
        → ((k : ℕ) → let at = get_or (starts_from text (suc p) m) k d in Start text p (suc m) at ⊎ (at ≡ d))
        → let at = get_or (cond t (p ∷ starts_from text (suc p) m) (starts_from text (suc p) m)) i d in Start text p (suc m) at ⊎ (at ≡ d)
    go true e zero rest = inl (record { begins = e; within = omega arith })
    go true e (suc i) rest = rest i
    go false e i rest = rest i

pub numbers_small : (text : List ℕ) → ((p : ℕ) → p < length text → wrong_at TooLarge text p ≡ false) → (i : ℕ) → get_or (numbers_in text) i 0 ≤ number_limit
numbers_small text fine i = go (starts_hold text 0 (length text) i (length text))
  where
    go : Start text 0 (length text) (get_or (starts_in text) i (length text)) ⊎ (get_or (starts_in text) i (length text) ≡ length text) → get_or (numbers_in text) i 0 ≤ number_limit
    go (inl s) =
        let p = get_or (starts_in text) i (length text) in
        let low : ltb number_limit (number_at text p) ≡ false = rw s.begins at (fine p (omega (arith, s.within))) in
        omega (arith, number_is text i, ltb-false number_limit (number_at text p) low)
    go (inr e) = omega (arith, number_is text i, ap (number_at text) e, text_ends text (length text) 0 (omega arith))
