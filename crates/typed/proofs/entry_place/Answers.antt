-- `typed::entry_place` meets its contract, by what the check says of the text.
use Prim.Native.Nat.{ℕ, ◌+◌}
use native.Mathlib.Omega.{arith}
use mathlib.Core.Path.{sym, ◌∙◌, ap, ap₂}
use mathlib.Core.Bool.{Bool}
use lib.ListN.{length, get_or}
use Rattle.numerals.specs.Numerals.{starts_in}
use Rattle.typed.specs.Typed.{value_for}
use Rattle.typed.proofs.Texts.{matrix_taken}
use Rattle.typed.proofs.Body.{place_refused, place_none, place_found}
use Rattle.typed.proofs.Entries.{square_small}
use Rattle.typed.proofs.entry_place.Goals as goal

pub overflow_mul-n : goal.overflow_mul-n
overflow_mul-n c = omega (arith, square_small c.in-Ok.n (matrix_taken c.args.text.now c.in-Ok.n (sym c.in-Ok.is ∙ c.check.ensures)).few)

pub of-requires : goal.of-requires
of-requires c = matrix_taken c.args.text.now c.in-Ok.n (sym c.in-Ok.is ∙ c.check.ensures)

pub returns-in-Ok : goal.returns-in-Ok
returns-in-Ok c =
    let a = c.args in
    let text = a.text.now in
    let same = ap₂ (λ (n : ℕ) (full : Bool). value_for n full a.e) c.of.ensures.taxa c.of.ensures.full in
    c.start_of.ensures ∙ ap (λ (v : ℕ). get_or (starts_in text) (1 + v) (length text)) (c.value_for.ensures.value ∙ same)
    ∙ place_found text a.e c.in-Ok.n (sym c.in-Ok.is ∙ c.check.ensures) c.if-e-n.true

pub returns-in_default : goal.returns-in_default
returns-in_default c = place_none c.args.text.now c.args.e c.in-Ok.n (sym c.in-Ok.is ∙ c.check.ensures) c.if-e-n.false

pub returns-in_default-2 : goal.returns-in_default-2
returns-in_default-2 c = place_refused c.args.text.now c.args.e c.in_default.field-0 (sym c.in_default.is ∙ c.check.ensures)
