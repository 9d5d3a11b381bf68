-- NEWICK TEXT BYTE BY BYTE: which byte may come next, as an automaton. The recogniser's contracts speak of it; that it accepts exactly the sentences of the
-- grammar is proved in proofs/Productions.antt, that it stops at the first bad byte in proofs/FirstBad.antt.
use Rattle.std.specs.Prelude.{◌≡◌, refl, List, [], ◌∷◌, ℕ, zero, suc, ◌+◌, ◌≤◌, ◌<◌, cond, eqb, length, drop, get_or, Result, Ok, Err}
use Rattle.std.proofs.Common.{add-one, drop_of_length-le, arith}
use Rattle.std.proofs.Math.ListN.{get_or-eq_default}
use Rattle.std.proofs.Math.Decide.{dec_lt}
use Rattle.std.proofs.Math.Seq.{drop-cons}
use Rattle.statement.specs.Decimal.{digit}

-- what a number is for
pub data Use : Type 0 where
  taxon : Use
  weight : Use

-- where in the text we are, with the brackets open and how many more may be opened
pub data State : Type 0 where
  start : ℕ → State
  want : Use → ℕ → ℕ → State
  some : Use → ℕ → ℕ → State
  over : Use → ℕ → ℕ → State
  close : ℕ → ℕ → State

pub data Step : Type 0 where
  stop : Step
  end : Step
  move : State → Step

pub data Out : Type 0 where
  bad : List ℕ → Out
  good : List ℕ → Out

-- an opening bracket, where one more may be opened
abbrev pub opened : ℕ → ℕ → Step
opened d zero = stop
opened d (suc l) = move (want taxon (suc d) l)

abbrev pub closed : ℕ → ℕ → Step
closed zero l = stop
closed (suc d) l = move (close d (suc l))

abbrev pub first : Use → ℕ → ℕ → ℕ → Step
first u d l c = cond (eqb c 48) (move (over u d l)) (cond (digit c) (move (some u d l)) stop)

-- a number has ended before c
abbrev pub after : Use → ℕ → ℕ → ℕ → Step
after taxon d l c = cond (eqb c 58) (move (want weight d l)) stop
after weight d l c = cond (eqb c 44) (move (want taxon d l)) (cond (eqb c 41) (closed d l) stop)

abbrev pub next : State → ℕ → Step
next (start l) c = cond (eqb c 40) (opened 0 l) stop
next (want taxon d l) c = cond (eqb c 40) (opened d l) (first taxon d l c)
next (want weight d l) c = first weight d l c
next (some u d l) c = cond (digit c) (move (some u d l)) (after u d l c)
next (over u d l) c = after u d l c
next (close zero l) c = cond (eqb c 59) end stop
next (close (suc d) l) c = cond (eqb c 58) (move (want weight (suc d) l)) stop

abbrev pub pick : Step → Out → Out → (State → Out) → Out
pick stop b g f = b
pick end b g f = g
pick (move q) b g f = f q

unfoldable pub run : List ℕ → State → Out
run [] q = bad []
run (c ∷ s) q = pick (next q c) (bad (c ∷ s)) (good s) (run s)

-- the outcome, where reading came to a place in state q (Ok), or stopped at a place (Err)
abbrev pub ran : List ℕ → State → Result ℕ ℕ → Out
ran t q (Ok p) = run (drop p t) q
ran t q (Err p) = bad (drop p t)

-- the outcome for a whole text
abbrev pub whole : List ℕ → Result ℕ ℕ → Out
whole t (Ok p) = good (drop p t)
whole t (Err p) = bad (drop p t)

abbrev pub place_of : Result ℕ ℕ → ℕ
place_of (Ok p) = p
place_of (Err p) = p

-- the result is not before `at` and, where `at` is in the text, not past the text's end
pub record Onward (t : List ℕ) (at : ℕ) (r : Result ℕ ℕ) : Type 0 where
  pub on : at ≤ place_of r
  pub within : at ≤ length t → place_of r ≤ length t

-- in state q only a colon may come, before a weight
abbrev pub Colon : State → ℕ → ℕ → Type 0
Colon q d l = (c : ℕ) → next q c ≡ cond (eqb c 58) (move (want weight d l)) stop

-- a byte read where there is none is 256: no state takes it
pub never : (q : State) → next q 256 ≡ stop
never (start l) = refl
never (want taxon d l) = refl
never (want weight d l) = refl
never (some taxon d l) = refl
never (some weight d l) = refl
never (over taxon d l) = refl
never (over weight d l) = refl
never (close zero l) = refl
never (close (suc d) l) = refl

pub inside : (t : List ℕ) (at : ℕ) → get_or t at 256 < 256 → at < length t
inside t at h = elim (dec_lt at (length t)) [ yes p ↦ p | no f ↦ absurd (let e : get_or t at 256 ≡ 256 = get_or-eq_default t 256 (omega arith) in omega arith) ]

module _ (t : List ℕ) (at : ℕ) (q : State) where
  at_end : length t ≤ at → run (drop at t) q ≡ bad (drop at t)
  unfolding run
  at_end h = rw (drop_of_length-le t h)

  stops : at < length t → next q (get_or t at 256) ≡ stop → run (drop at t) q ≡ bad (drop at t)
  unfolding run
  stops h e = rw (drop-cons t at 256 h, e)

  pub law_stop : next q (get_or t at 256) ≡ stop → run (drop at t) q ≡ bad (drop at t)
  law_stop e = elim (dec_lt at (length t)) [ yes p ↦ stops p e | no f ↦ at_end (omega arith) ]

  pub law_move : {q' : State} → next q (get_or t at 256) ≡ move q' → at < length t → run (drop at t) q ≡ run (drop (at + 1) t) q'
  unfolding run
  law_move e h = rw (add-one, drop-cons t at 256 h, e)

  pub law_good : next q (get_or t at 256) ≡ end → at < length t → run (drop at t) q ≡ good (drop (at + 1) t)
  unfolding run
  law_good e h = rw (add-one, drop-cons t at 256 h, e)
