-- One turn of the walk reads one token; the whole walk all of them. Assumes nothing.
use mathlib.Core.Path.{◌≡◌, refl, ap, sym, ◌∙◌, subst}
use mathlib.Core.Bool.{Bool, true, false, cond, true≢false}
use mathlib.Core.List.{List, [], ◌∷◌}
use mathlib.Core.Logic.{inl, inr}
use Prim.Native.Nat.{ℕ, ◌+◌, ◌≤◌, ◌<◌, min}
use native.Mathlib.Omega.{arith}
use lib.ListN.{length, drop, get_or}
use Rattle.statement.specs.Decimal.{digit, on_from, span}
use Rattle.statement.specs.Sentence.{Numeral, nought, lead, digits_text, numeral_text, width}
use Rattle.numerals.specs.Numerals.{number_limit}
use Rattle.newick_walk.specs.Machine.{Walk, passing, opening, closing, leafing, weighing, stops_at}
use Rattle.newick_walk.specs.Tokens.{Token, opens, closes, comma, taxon, weight, bytes_of, NoTaxon, Sep, cut, step_by, play, Ahead, Ready, Turned, Onward, Walks}
use Rattle.newick_meaning.proofs.Numbers.{value_at, span_at, past_at, past_one, head_is}
use Rattle.newick_walk.proofs.Steps.{opening_at, closing_at, leafing_at, weighing_at, goes_at, goes_digit, inside_of, onward_open, onward_close, onward_pass, onward_weigh, onward_leaf}

-- a byte that begins a token tells which
abbrev kind_of : Token → ℕ
kind_of opens = 40
kind_of closes = 41
kind_of comma = 44
kind_of (taxon x) = 48
kind_of (weight x) = 58

abbrev class_of : ℕ → ℕ
class_of c = cond (digit c) 48 c

num_head : (x : Numeral) (s t : List ℕ) (at : ℕ) → drop at t ≡ numeral_text x s → class_of (get_or t at 256) ≡ 48
num_head nought s t at e = ap class_of (head_is t s at 48 e)
num_head (lead d p q r) s t at e = ap class_of (head_is t (digits_text r s) at d e) ∙ rw p

head_kind : (k : Token) (ts : List Token) (s t : List ℕ) (at : ℕ) → drop at t ≡ bytes_of (k ∷ ts) s → class_of (get_or t at 256) ≡ kind_of k
unfolding bytes_of
head_kind opens ts s t at e = ap class_of (head_is t (bytes_of ts s) at 40 e)
head_kind closes ts s t at e = ap class_of (head_is t (bytes_of ts s) at 41 e)
head_kind comma ts s t at e = ap class_of (head_is t (bytes_of ts s) at 44 e)
head_kind (taxon x) ts s t at e = num_head x (bytes_of ts s) t at e
head_kind (weight x) ts s t at e = ap class_of (head_is t (numeral_text x (bytes_of ts s)) at 58 e)

-- what follows a number is no digit
after_number : (ts : List Token) (s : List ℕ) → NoTaxon ts → (c : ℕ) × (u : List ℕ) × (digit c ≡ false) × (bytes_of ts (59 ∷ s) ≡ c ∷ u)
unfolding bytes_of
after_number [] s h = (59, s, refl, refl)
after_number (opens ∷ ts) s h = (40, bytes_of ts (59 ∷ s), refl, refl)
after_number (closes ∷ ts) s h = (41, bytes_of ts (59 ∷ s), refl, refl)
after_number (comma ∷ ts) s h = (44, bytes_of ts (59 ∷ s), refl, refl)
after_number (taxon x ∷ ts) s h = absurd h
after_number (weight x ∷ ts) s h = (58, numeral_text x (bytes_of ts (59 ∷ s)), refl, refl)

-- the token at a place, by the byte that the code has peeked at
module _ (n : ℕ) (t : List ℕ) (w r : Walk) (c : ℕ) (byte : c ≡ get_or t w.at 256) where
  digit_class : digit c ≡ true → class_of c ≡ 48
  digit_class z = rw z

  kind : (k : Token) (ts : List Token) → Ahead t w.at (k ∷ ts) → class_of c ≡ kind_of k
  kind k ts a = ap class_of byte ∙ head_kind k ts (59 ∷ a.1.0) t w.at a.1.1

  -- a token of one byte
  one : (b : ℕ) (ts : List Token) (s : List ℕ) → r.at ≡ w.at + 1 → Sep ts → drop w.at t ≡ b ∷ bytes_of ts (59 ∷ s) → Ahead t r.at ts
  one b ts s e p h = (p, (s, ap (λ (i : ℕ). drop i t) e ∙ past_one t (bytes_of ts (59 ∷ s)) w.at b h))

  pub turned_open : c ≡ 40 → r ≡ opening w → Turned n t w r
  unfolding step_by bytes_of
  turned_open z e opens ts a = (e, one 40 ts a.1.0 (ap (λ (v : Walk). v.at) e ∙ (opening_at w).0) a.0.1 a.1.1)
  turned_open z e closes ts a = absurd (omega (arith, sym (ap class_of z) ∙ kind closes ts a))
  turned_open z e comma ts a = absurd (omega (arith, sym (ap class_of z) ∙ kind comma ts a))
  turned_open z e (taxon x) ts a = absurd (omega (arith, sym (ap class_of z) ∙ kind (taxon x) ts a))
  turned_open z e (weight x) ts a = absurd (omega (arith, sym (ap class_of z) ∙ kind (weight x) ts a))

  pub turned_close : c ≡ 41 → r ≡ closing w → Turned n t w r
  unfolding step_by bytes_of
  turned_close z e closes ts a = (e, one 41 ts a.1.0 (ap (λ (v : Walk). v.at) e ∙ (closing_at w).0) a.0.1 a.1.1)
  turned_close z e opens ts a = absurd (omega (arith, sym (ap class_of z) ∙ kind opens ts a))
  turned_close z e comma ts a = absurd (omega (arith, sym (ap class_of z) ∙ kind comma ts a))
  turned_close z e (taxon x) ts a = absurd (omega (arith, sym (ap class_of z) ∙ kind (taxon x) ts a))
  turned_close z e (weight x) ts a = absurd (omega (arith, sym (ap class_of z) ∙ kind (weight x) ts a))

  pub turned_comma : c ≡ 44 → r ≡ passing w → Turned n t w r
  unfolding step_by bytes_of
  turned_comma z e comma ts a = (e, one 44 ts a.1.0 (ap (λ (v : Walk). v.at) e) a.0.1 a.1.1)
  turned_comma z e opens ts a = absurd (omega (arith, sym (ap class_of z) ∙ kind opens ts a))
  turned_comma z e closes ts a = absurd (omega (arith, sym (ap class_of z) ∙ kind closes ts a))
  turned_comma z e (taxon x) ts a = absurd (omega (arith, sym (ap class_of z) ∙ kind (taxon x) ts a))
  turned_comma z e (weight x) ts a = absurd (omega (arith, sym (ap class_of z) ∙ kind (weight x) ts a))

  -- a weight, read from the place behind its colon
  module _ (v next : ℕ) where
    pub turned_weight : c ≡ 58 → v ≡ min (on_from 0 (drop (w.at + 1) t)) number_limit → next ≡ w.at + 1 + span (drop (w.at + 1) t) → r ≡ weighing n w v next → Turned n t w r
    unfolding step_by bytes_of
    turned_weight z p q e opens ts a = absurd (omega (arith, sym (ap class_of z) ∙ kind opens ts a))
    turned_weight z p q e closes ts a = absurd (omega (arith, sym (ap class_of z) ∙ kind closes ts a))
    turned_weight z p q e comma ts a = absurd (omega (arith, sym (ap class_of z) ∙ kind comma ts a))
    turned_weight z p q e (taxon x) ts a = absurd (omega (arith, sym (ap class_of z) ∙ kind (taxon x) ts a))
    turned_weight z p q e (weight x) ts a =
        let f = after_number ts a.1.0 a.0.0 in
        let h : drop (w.at + 1) t ≡ numeral_text x (f.0 ∷ f.1) = past_one t (numeral_text x (bytes_of ts (59 ∷ a.1.0))) w.at 58 a.1.1 ∙ ap (numeral_text x) f.3 in
        let g : next ≡ w.at + 1 + width x = q ∙ ap (λ (k : ℕ). w.at + 1 + k) (span_at t f.1 (w.at + 1) f.0 x f.2 h) in (
          e ∙ ap (λ (k : ℕ). weighing n w k next) (p ∙ ap (λ (k : ℕ). min k number_limit) (value_at t f.1 (w.at + 1) f.0 x f.2 h)) ∙ ap (weighing n w (cut x)) g,
          (a.0.1, (a.1.0, ap (λ (i : ℕ). drop i t) (ap (λ (u : Walk). u.at) e ∙ (weighing_at w n v next).0 ∙ g) ∙ past_at t f.1 (w.at + 1) f.0 x f.2 h ∙ sym f.3)),
        )

    pub turned_leaf : digit c ≡ true → v ≡ min (on_from 0 (drop w.at t)) number_limit → next ≡ w.at + span (drop w.at t) → r ≡ leafing n w v next → Turned n t w r
    unfolding step_by bytes_of
    turned_leaf z p q e opens ts a = absurd (omega (arith, sym (digit_class z) ∙ kind opens ts a))
    turned_leaf z p q e closes ts a = absurd (omega (arith, sym (digit_class z) ∙ kind closes ts a))
    turned_leaf z p q e comma ts a = absurd (omega (arith, sym (digit_class z) ∙ kind comma ts a))
    turned_leaf z p q e (weight x) ts a = absurd (omega (arith, sym (digit_class z) ∙ kind (weight x) ts a))
    turned_leaf z p q e (taxon x) ts a =
        let f = after_number ts a.1.0 a.0.0 in
        let h : drop w.at t ≡ numeral_text x (f.0 ∷ f.1) = a.1.1 ∙ ap (numeral_text x) f.3 in
        let g : next ≡ w.at + width x = q ∙ ap (λ (k : ℕ). w.at + k) (span_at t f.1 w.at f.0 x f.2 h) in (
          e ∙ ap (λ (k : ℕ). leafing n w k next) (p ∙ ap (λ (k : ℕ). min k number_limit) (value_at t f.1 w.at f.0 x f.2 h)) ∙ ap (leafing n w (cut x)) g,
          (a.0.1, (a.1.0, ap (λ (i : ℕ). drop i t) (ap (λ (u : Walk). u.at) e ∙ (leafing_at w n v next).0 ∙ g) ∙ past_at t f.1 w.at f.0 x f.2 h ∙ sym f.3)),
        )

-- THE LOOP: what is left of the tokens
abbrev pub Going : ℕ → List ℕ → Walk → Walk → Type 0
Going n t w₀ w = (ts : List Token) → Ahead t w₀.at ts → (us : List Token) × Ahead t w.at us × (play n ts w₀ ≡ play n us w)

going_begun : (n : ℕ) (t : List ℕ) (w : Walk) → Going n t w w
going_begun n t w ts a = (ts, a, refl)

pub going_from : (n : ℕ) (t : List ℕ) (v w : Walk) → w ≡ v → Going n t v w
going_from n t v w e = subst (λ (x : Walk). Going n t v x) (sym e) (going_begun n t v)

-- a byte that begins no token
stop_here : (c : ℕ) → stops_at c ≡ true → (k : Token) → class_of c ≡ kind_of k → ⊥
unfolding stops_at
stop_here c s k e = go (digit c) refl k e
  where
    is : (v : ℕ) → stops_at v ≡ false → c ≡ v → ⊥
    is v f q = true≢false (sym s ∙ ap stops_at q ∙ f)

    go : (b : Bool) → digit c ≡ b → (k : Token) → cond b 48 c ≡ kind_of k → ⊥
    go true d k e = true≢false (sym s ∙ rw d)
    go false d opens e = is 40 refl e
    go false d closes e = is 41 refl e
    go false d comma e = is 44 refl e
    go false d (taxon x) e = true≢false (sym (ap digit e) ∙ d)
    go false d (weight x) e = is 58 refl e

semicolon_stops : (c : ℕ) → c ≡ 59 → stops_at c ≡ true
unfolding stops_at
semicolon_stops c e = rw e

play_on : (n : ℕ) (k : Token) (ts : List Token) (w : Walk) → play n (k ∷ ts) w ≡ play n ts (step_by n k w)
unfolding play
play_on n k ts w = refl

play_end : (n : ℕ) (w : Walk) → play n [] w ≡ w
unfolding play
play_end n w = refl

module _ (n : ℕ) (t : List ℕ) (w₀ w : Walk) (c : ℕ) (byte : c ≡ get_or t w.at 256) (g : Going n t w₀ w) where
  nothing_left : Ahead t w.at [] → c ≡ 59
  unfolding bytes_of
  nothing_left a = byte ∙ head_is t a.1.0 w.at 59 a.1.1

  pub going_on : (r : Walk) → stops_at c ≡ false → Turned n t w r → Going n t w₀ r
  going_on r s f ts a = go (g ts a).0 (g ts a).1 (g ts a).2
    where
      go : (us : List Token) → Ahead t w.at us → play n ts w₀ ≡ play n us w → (vs : List Token) × Ahead t r.at vs × (play n ts w₀ ≡ play n vs r)
      go [] b e = absurd (true≢false (sym (semicolon_stops c (nothing_left b)) ∙ s))
      go (k ∷ us) b e = let h = f k us b in (us, h.1, e ∙ play_on n k us w ∙ ap (play n us) (sym h.0))

  pub going_ended : stops_at c ≡ true → Walks n t w₀ w
  going_ended s ts a = go (g ts a).0 (g ts a).1 (g ts a).2
    where
      go : (us : List Token) → Ahead t w.at us → play n ts w₀ ≡ play n us w → w ≡ play n ts w₀
      go [] b e = sym (e ∙ play_end n w)
      go (k ∷ us) b e = absurd (stop_here c s k (kind n t w w c byte k us b))

-- ONE TURN of the loop, by its byte
pub record Stepped (n : ℕ) (t : List ℕ) (w₀ w r : Walk) : Type 0 where
  pub going : Going n t w₀ r
  pub on : w.at < r.at
  pub shallow : r.depth ≤ r.at
  pub within : r.at ≤ length t

module _ (n : ℕ) (t : List ℕ) (w₀ w r : Walk) (c : ℕ) (few : n ≤ 64) (rows : w.table.rows ≤ 125) (byte : c ≡ get_or t w.at 256) (g : Going n t w₀ w) (deep : w.depth ≤ w.at) where
  ready : stops_at c ≡ false → Ready n t w c
  ready s = record { taxa = few; inside = inside_of t w.at c byte s; shallow = deep; few = rows; byte = byte; token = s }

  stepped : stops_at c ≡ false → Turned n t w r → Onward t w r → Stepped n t w₀ w r
  stepped s f o = record { going = going_on n t w₀ w c byte g r s f; on = o.on; shallow = o.shallow; within = o.within }

  pub step_open : c ≡ 40 → r ≡ opening w → Stepped n t w₀ w r
  step_open z e = let s = goes_at c (inl z) in stepped s (turned_open n t w r c byte z e) (onward_open n t w r c (ready s) e)

  pub step_close : c ≡ 41 → r ≡ closing w → Stepped n t w₀ w r
  step_close z e = let s = goes_at c (inr (inl z)) in stepped s (turned_close n t w r c byte z e) (onward_close n t w r c (ready s) e)

  pub step_comma : c ≡ 44 → r ≡ passing w → Stepped n t w₀ w r
  step_comma z e = let s = goes_at c (inr (inr (inl z))) in stepped s (turned_comma n t w r c byte z e) (onward_pass n t w r c (ready s) e)

  pub step_weight : (v next : ℕ) → c ≡ 58 → v ≡ min (on_from 0 (drop (w.at + 1) t)) number_limit → next ≡ w.at + 1 + span (drop (w.at + 1) t) → r ≡ weighing n w v next → r.table.rows ≤ 125 → Stepped n t w₀ w r
  step_weight v next z p q e f =
      let s = goes_at c (inr (inr (inr z))) in stepped s (turned_weight n t w r c byte v next z p q e) (onward_weigh n t w r c (ready s) v next q e f)

  pub step_leaf : (v next : ℕ) → digit c ≡ true → v ≡ min (on_from 0 (drop w.at t)) number_limit → next ≡ w.at + span (drop w.at t) → r ≡ leafing n w v next → Stepped n t w₀ w r
  step_leaf v next z p q e =
      let s = goes_digit c z in stepped s (turned_leaf n t w r c byte v next z p q e) (onward_leaf n t w r c (ready s) v next z q e)
