-- What a range of numbers gives, as a list, and what passes a test among it. Assumes nothing.
use Prim.Native.Nat.{ℕ, zero, suc, ◌+◌, ◌-◌, ◌≤◌, ◌<◌}
use native.Mathlib.Omega.{arith}
use native.Mathlib.Numerals.{add-one}
use mathlib.Core.Path.{◌≡◌, refl, sym, ◌∙◌, ap, ap₂}
use mathlib.Core.Bool.{Bool, true, false, cond}
use mathlib.Core.List.{List, [], ◌∷◌, ◌++◌}
use lib.ListN.{length, get_or, get_or-append, get_or-eq_default}
use Rattle.std.specs.Prelude.{Option, Some, None, IsTrue, MatchOption, unwrap_or}
use Rattle.std.specs.Option.{option_map}
use Rattle.std.specs.declared.ops.Range.{Range}
use Rattle.std.specs.Iterator.Runs.{Run}
use Rattle.std.specs.List.{filter, range_with_len}
use Rattle.std.proofs.lemmas.List.{get_or_default}
use Rattle.std.proofs.iter.Yields.{nat_range_steps}
use Rattle.std.proofs.iter.runs.Sources.{range_runs}
use Rattle.numerals.specs.Numerals.{starts_at, starts_from, starts_in}

-- a list that counts up
counts_up : (xs : List ℕ) (a : ℕ) → ((k : ℕ) → k < length xs → get_or xs k 0 ≡ a + k) → xs ≡ range_with_len a (length xs)
counts_up [] a h = refl
counts_up (x ∷ xs) a h =
    let first : x ≡ a = omega (arith, h 0 (omega arith)) in
    ap₂ (λ (y : ℕ) (ys : List ℕ). y ∷ ys) first (counts_up xs (a + 1) (λ k l. omega (arith, h (suc k) (omega arith))))

-- a run over the places below n has passed the first of them, and all where it is whole
module _ (q : Run nat_range_steps) (n : ℕ) (begun : q.from ≡ record { start = 0; end = n }) where
  pub items_of : (q.len ≤ n) × (q.items ≡ range_with_len 0 q.len)
  items_of =
      let up = range_runs q q.seen in
      let from : q.from.start ≡ 0 = ap (λ (r : Range ℕ). r.start) begun in
      let to : q.from.end ≡ n = ap (λ (r : Range ℕ). r.end) begun in
      let at : (k : ℕ) → k < length q.items → get_or q.items k 0 ≡ 0 + k =
      λ k l. omega (arith, from, read k (get_or q.items k 0) (q.from.start + k) (sym (q.reads k 0 (omega (arith, q.long))) ∙ up.3 k (omega (arith, q.long)))) in
      (omega (arith, up.0), counts_up q.items 0 at ∙ ap (range_with_len 0) (sym q.long))
    where
      read : (k a b : ℕ) → ◌≡◌ {A = Option ℕ} (Some a) (Some b) → a ≡ b
      read k a b e = cc

  pub all_of : q.whole ≡ true → q.len ≡ n
  all_of w =
      let from : q.from.start ≡ 0 = ap (λ (r : Range ℕ). r.start) begun in
      let to : q.from.end ≡ n = ap (λ (r : Range ℕ). r.end) begun in
      omega (arith, (range_runs q q.seen).1 w)

-- what `nth` says of a run, of its items
pub nth_item : {S : Type 0} {steps : S → Option ℕ → S → Type 0} (p : Run steps) (i : ℕ) (r : Option ℕ)
    → MatchOption r (IsTrue p.whole × (p.len ≤ i)) (λ x. (p.len ≡ i + 1) × (p.at i ≡ Some x))
    → MatchOption r ((p.whole ≡ true) × (length p.items ≤ i)) (λ x. (i < length p.items) × (x ≡ get_or p.items i 0))
nth_item p i None (w, l) = (w, omega (arith, p.long))
nth_item p i (Some x) (l, e) =
    let read : ◌≡◌ {A = Option ℕ} (Some x) (Some (get_or p.items i 0)) = sym (ap (λ (o : Option ℕ). option_map (λ (y : ℕ). y) o) e) ∙ p.reads i 0 (omega arith) in
    (omega (arith, p.long), cc)

-- the starts are the places that pass the test
pub starts_filter : (text : List ℕ) (p m : ℕ) → starts_from text p m ≡ filter (starts_at text) (range_with_len p m)
unfolding starts_from
starts_filter text p zero = refl
starts_filter text p (suc m) =
    rw (add-one p) (ap (λ (ps : List ℕ). cond (starts_at text p) (p ∷ ps) ps) (starts_filter text (suc p) m))

-- THE STARTS AMONG THE FIRST PLACES stand in front
starts_more : (text : List ℕ) (p a b : ℕ) → starts_from text p (a + b) ≡ starts_from text p a ++ starts_from text (p + a) b
unfolding starts_from
starts_more text p zero b =
    let none : 0 + b ≡ b = omega arith in
    let same : p + 0 ≡ p = omega arith in
    ap (starts_from text p) none ∙ ap (λ (k : ℕ). starts_from text k b) (sym same)
starts_more text p (suc a) b =
    let more : suc a + b ≡ suc (a + b) = omega arith in
    let on : suc p + a ≡ p + suc a = omega arith in
    ap (starts_from text p) more ∙ go (starts_at text p) _ _ _ (starts_more text (suc p) a b ∙ ap (λ (k : ℕ). starts_from text (suc p) a ++ starts_from text k b) on)
  where
    go : (t : Bool) (xs ys zs : List ℕ) → xs ≡ ys ++ zs → cond t (p ∷ xs) xs ≡ cond t (p ∷ ys) ys ++ zs
    go true xs ys zs e = ap (λ (ps : List ℕ). p ∷ ps) e
    go false xs ys zs e = e

-- what is found by its number among the first m places, or not among all
pub start_found : (text : List ℕ) (m i : ℕ) (r : Option ℕ) (items : List ℕ) (whole : Bool) → m ≤ length text → (whole ≡ true → m ≡ length text) → items ≡ starts_from text 0 m
    → MatchOption r ((whole ≡ true) × (length items ≤ i)) (λ x. (i < length items) × (x ≡ get_or items i 0))
    → unwrap_or r (length text) ≡ get_or (starts_in text) i (length text)
start_found text m i None items whole l all e (w, none) =
    sym (ap (λ (ps : List ℕ). get_or ps i (length text)) (ap (starts_from text 0) (sym (all w)) ∙ sym e) ∙ get_or-eq_default items (length text) none)
start_found text m i (Some x) items whole l all e (some, is) =
    let rest = starts_from text (0 + m) (length text - m) in
    let parts : length text ≡ m + (length text - m) = omega arith in
    is ∙ get_or_default items i 0 (length text) some ∙ sym (get_or-append items rest (length text) i some)
    ∙ sym (ap (λ (ps : List ℕ). get_or ps i (length text)) (ap (starts_from text 0) parts ∙ starts_more text 0 m (length text - m) ∙ ap (λ (ps : List ℕ). ps ++ rest) (sym e)))
