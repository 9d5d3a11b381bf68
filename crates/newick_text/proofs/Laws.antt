-- Laws of the automaton's steps, for the proofs of the code.
use mathlib.Core.Path.{◌≡◌, refl, ap, sym, ◌∙◌}
use mathlib.Core.Bool.{Bool, true, false, not, true≢false}
use mathlib.Core.List.{List}
use Prim.Native.Nat.{ℕ, zero, suc, ◌+◌, ◌-◌, ◌≤◌, ◌<◌}
use native.Mathlib.Numerals.{sub-one}
use native.Mathlib.Decide.{dec_lt}
use native.Mathlib.Omega.{arith}
use lib.ListN.{length, drop, get_or, drop_of_length-le, get_or-eq_default}
use lib.Seq.{drop-cons}
use lib.Dec.{eqb}
use borrow.Author.Tests.{lt-ltb, le-ltb, eq-eqb, ne_eqb, eqb-true}
use Rattle.std.specs.Prelude.{Option, Some, None, unwrap_or}
use Rattle.std.specs.Option.{option_eq}
use Rattle.newick_text.specs.Automaton.{Use, taxon, weight, State, start, want, some, over, close, stop, end, move, bad, good, first, next, run, never, inside, Colon, law_move, law_stop, law_good}
use Rattle.statement.specs.Decimal.{digit}

pub same_next : (t : List ℕ) (at : ℕ) (q q' : State) → next q (get_or t at 256) ≡ next q' (get_or t at 256) → run (drop at t) q ≡ run (drop at t) q'
unfolding run
same_next t at q q' e = elim (dec_lt at (length t)) [ yes p ↦ rw (drop-cons t at 256 p, e) | no f ↦ rw (drop_of_length-le t (let h : length t ≤ at = omega arith in h)) ]

pub digit_yes : (c : ℕ) → 48 ≤ c → c < 58 → digit c ≡ true
digit_yes c h k = simp (lt-ltb 47 c (let l : 47 < c = omega arith in l), lt-ltb c 58 k)

pub digit_low : (c : ℕ) → c < 48 → digit c ≡ false
digit_low c h = simp (le-ltb 47 c (let l : c ≤ 47 = omega arith in l))

pub digit_high : (c : ℕ) → 58 ≤ c → digit c ≡ false
digit_high c h = simp (lt-ltb 47 c (let k : 47 < c = omega arith in k), le-ltb c 58 h)

pub some_over : (u : Use) (d l c : ℕ) → digit c ≡ false → next (some u d l) c ≡ next (over u d l) c
some_over u d l c e = rw e

pub some_some : (u : Use) (d l c : ℕ) → digit c ≡ true → next (some u d l) c ≡ move (some u d l)
some_some u d l c e = rw e

-- what a test of the byte at a place says of it
pub is_byte : (o : Option ℕ) (b : ℕ) → option_eq eqb o (Some b) ≡ true → unwrap_or o 256 ≡ b
is_byte (Some x) b e = eqb-true x b e
is_byte None b e = absurd (true≢false (sym e))

pub not_byte : (o : Option ℕ) (b : ℕ) → b < 256 → option_eq eqb o (Some b) ≡ false → unwrap_or o 256 ≡ b → ⊥
not_byte (Some x) b h e q = true≢false (sym (eq-eqb x b q) ∙ e)
not_byte None b h e q = omega arith

pub no_other : (o : Option ℕ) (b : ℕ) → false ≡ not (option_eq eqb o (Some b)) → unwrap_or o 256 ≡ b
no_other o b e = go (option_eq eqb o (Some b)) refl e
  where
    go : (y : Bool) → option_eq eqb o (Some b) ≡ y → false ≡ not y → unwrap_or o 256 ≡ b
    go true p e = is_byte o b p
    go false p e = absurd (true≢false (sym e))

pub another : (o : Option ℕ) (b : ℕ) → b < 256 → true ≡ not (option_eq eqb o (Some b)) → unwrap_or o 256 ≡ b → ⊥
another o b h e q = go (option_eq eqb o (Some b)) refl e
  where
    go : (y : Bool) → option_eq eqb o (Some b) ≡ y → true ≡ not y → ⊥
    go true p e = true≢false e
    go false p e = not_byte o b h p q

-- the same with the byte that the code peeked at
module _ (t : List ℕ) (at : ℕ) (q : State) (c : ℕ) (e : c ≡ get_or t at 256) where
  pub moved_in : {q' : State} → next q c ≡ move q' → at < length t
  moved_in {q'} n = elim (dec_lt at (length t)) [ yes p ↦ p | no f ↦ absurd (out q' n (omega arith)) ]
    where
      out : (q' : State) → next q c ≡ move q' → length t ≤ at → ⊥
      out q' n h =
          let k : c ≡ 256 = e ∙ get_or-eq_default t 256 h in
          let s : stop ≡ move q' = sym (never q) ∙ sym (ap (next q) k) ∙ n in
          let z : ◌≡◌ {A = ℕ} 0 1 = cc in omega arith

  pub goes : {q' : State} → next q c ≡ move q' → run (drop at t) q ≡ run (drop (at + 1) t) q'
  goes n = law_move t at q (sym (ap (next q) e) ∙ n) (moved_in n)

  pub fails : next q c ≡ stop → run (drop at t) q ≡ bad (drop at t)
  fails n = law_stop t at q (sym (ap (next q) e) ∙ n)

  pub ends : next q c ≡ end → at < length t → run (drop at t) q ≡ good (drop (at + 1) t)
  ends n h = law_good t at q (sym (ap (next q) e) ∙ n) h

  pub joins : (q' : State) → next q c ≡ next q' c → run (drop at t) q ≡ run (drop at t) q'
  joins q' n = same_next t at q q' (sym (ap (next q) e) ∙ n ∙ ap (next q') e)

pub first_zero : (u : Use) (d l c : ℕ) → c ≡ 48 → first u d l c ≡ move (over u d l)
first_zero u d l c e = rw e

pub first_some : (u : Use) (d l c : ℕ) → (c ≡ 48 → ⊥) → digit c ≡ true → first u d l c ≡ move (some u d l)
first_some u d l c f e = rw (ne_eqb c 48 f, e)

pub first_none : (u : Use) (d l c : ℕ) → (c ≡ 48 → ⊥) → digit c ≡ false → first u d l c ≡ stop
first_none u d l c f e = rw (ne_eqb c 48 f, e)

pub want_first : (d l c : ℕ) → (c ≡ 40 → ⊥) → next (want taxon d l) c ≡ first taxon d l c
want_first d l c f = rw (ne_eqb c 40 f)

pub colon_yes : (q : State) (d l c : ℕ) → Colon q d l → c ≡ 58 → next q c ≡ move (want weight d l)
colon_yes q d l c f e = f c ∙ rw e

pub colon_no : (q : State) (d l c : ℕ) → Colon q d l → (c ≡ 58 → ⊥) → next q c ≡ stop
colon_no q d l c f e = f c ∙ rw (ne_eqb c 58 e)

pub colon_over : (d l : ℕ) → Colon (over taxon d l) d l
colon_over d l c = refl

pub colon_close : (d l : ℕ) → Colon (close (suc d) l) (suc d) l
colon_close d l c = refl

pub sep_close : (d l c : ℕ) → c ≡ 41 → next (over weight (suc d) l) c ≡ move (close d (suc l))
sep_close d l c e = rw e

pub sep_comma : (d l c : ℕ) → c ≡ 44 → next (over weight d l) c ≡ move (want taxon d l)
sep_comma d l c e = rw e

pub sep_none : (d l c : ℕ) → (c ≡ 41 → ⊥) → (c ≡ 44 → ⊥) → next (over weight d l) c ≡ stop
sep_none d l c f g = rw (ne_eqb c 44 g, ne_eqb c 41 f)

pub inside' : (t : List ℕ) (at c : ℕ) → c ≡ get_or t at 256 → c < 256 → at < length t
inside' t at c e h = inside t at (rw e at h)

-- the first byte of a number, in a state that takes a number there
module _ (t : List ℕ) (at c : ℕ) (e : c ≡ get_or t at 256) (q : State) (u : Use) (d l : ℕ) (n : next q (get_or t at 256) ≡ first u d l (get_or t at 256)) where
  at_byte : next q c ≡ first u d l c
  at_byte = ap (next q) e ∙ n ∙ sym (ap (first u d l) e)

  pub num_zero : c ≡ 48 → run (drop at t) q ≡ run (drop (at + 1) t) (over u d l)
  num_zero z = goes t at q c e (at_byte ∙ first_zero u d l c z)

  pub num_none : (c ≡ 48 → ⊥) → digit c ≡ false → run (drop at t) q ≡ bad (drop at t)
  num_none z i = fails t at q c e (at_byte ∙ first_none u d l c z i)

  pub num_some : (c ≡ 48 → ⊥) → digit c ≡ true → run (drop at t) q ≡ run (drop (at + 1) t) (some u d l)
  num_some z i = goes t at q c e (at_byte ∙ first_some u d l c z i)

pub want_full : (d l c : ℕ) → c ≡ 40 → l ≡ 0 → next (want taxon d l) c ≡ stop
want_full d l c e z = rw (e, z)

pub want_deeper : (d l c : ℕ) → c ≡ 40 → (l ≡ 0 → ⊥) → next (want taxon d l) c ≡ move (want taxon (suc d) (l - 1))
want_deeper d zero c e z = absurd (z refl)
want_deeper d (suc l) c e z = rw (e, sub-one)

pub suc_pred : (l : ℕ) → (l ≡ 0 → ⊥) → suc (l - 1) ≡ l
suc_pred zero z = absurd (z refl)
suc_pred (suc l) z = rw sub-one

pub start_open : (l c : ℕ) → c ≡ 40 → next (start (suc l)) c ≡ move (want taxon 1 l)
start_open l c e = rw e

pub start_not : (l c : ℕ) → (c ≡ 40 → ⊥) → next (start l) c ≡ stop
start_not l c f = rw (ne_eqb c 40 f)

pub stop_end : (l c : ℕ) → c ≡ 59 → next (close 0 l) c ≡ end
stop_end l c e = rw e

pub stop_not : (l c : ℕ) → (c ≡ 59 → ⊥) → next (close 0 l) c ≡ stop
stop_not l c f = rw (ne_eqb c 59 f)
