-- `typed::Shape::entry` meets its contract: zero on the diagonal of a lower half, else the number typed for it.
use Prim.Native.Nat.{ℕ, ◌+◌, ◌≤◌, ◌/◌, ◌%◌}
use native.Mathlib.Omega.{arith}
use mathlib.Core.Path.{◌≡◌, sym, ◌∙◌, ap}
use mathlib.Core.Bool.{true, false}
use mathlib.Core.Logic.{◌⊎◌, inl, inr}
use borrow.Author.Tests.{eq-eqb, ne_eqb, not-true, not-false}
use lib.Dec.{eqb}
use lib.ListN.{get_or}
use Rattle.numerals.specs.Numerals.{numbers_in, number_limit}
use Rattle.numerals.proofs.Laws.{numbers_small}
use Rattle.typed.specs.Typed.{values_in, entries_of}
use Rattle.typed.proofs.Entries.{value_is, diagonal_zero, entry_typed}
use Rattle.typed.proofs.Shape.entry.Goals as goal
use Rattle.typed.proofs.Shape.entry.Goals.{else-not-self-via-then-not-self+else-e-self, else-not-self-via-else-not-self}

pub returns-then-e-self : goal.returns-then-e-self
returns-then-e-self c =
    let a = c.args in
    sym (diagonal_zero a.self.taxa (values_in a.text.now) a.e c.requires.0 (sym c.requires.2 ∙ not-true _ c.if-not-self.true) (eq-eqb _ _ c.if-e-self.true))

typed_value : (c : goal.After-number_of)
    → (get_or (entries_of c.args.self.taxa (values_in c.args.text.now)) c.args.e 0 ≡ get_or (numbers_in c.args.text.now) (1 + c.value_for.result) 0)
    × (get_or (numbers_in c.args.text.now) (1 + c.value_for.result) 0 ≤ number_limit)
typed_value c =
    let a = c.args in
    let n = a.self.taxa in
    let text = a.text.now in
    let either : (a.self.full ≡ true) ⊎ (eqb (a.e / n) (a.e % n) ≡ false) =
    elim c.else-not-self.branch [
      | else-not-self-via-then-not-self+else-e-self w ↦ inr (ne_eqb _ _ w.if-e-self.false)
      | else-not-self-via-else-not-self w ↦ inl (not-false _ w.if-not-self.false)
    ]
    in (
      entry_typed n (values_in text) a.e c.requires.0 a.self.full (sym c.requires.2) either
          ∙ ap (λ (k : ℕ). get_or (values_in text) k 0) (sym c.value_for.ensures.value) ∙ value_is text c.value_for.result,
      numbers_small text c.requires.1 (1 + c.value_for.result),
    )

pub overflow_cast-result : goal.overflow_cast-result
overflow_cast-result c = omega (arith, c.number_of.ensures, (typed_value c).1)

pub returns-else-not-self : goal.returns-else-not-self
returns-else-not-self c = omega (arith, c.number_of.ensures, (typed_value c).0, (typed_value c).1)
