-- `numerals::number_of` meets its contract, by the place where the number starts.
use Prim.Native.Nat.{ℕ, min}
use mathlib.Core.Path.{sym, ◌∙◌, ap}
use Rattle.numerals.specs.Numerals.{number_at}
use Rattle.numerals.proofs.Laws.{too_large, number_is}
use Rattle.numerals.proofs.number_of.Goals as goal

pub returns : goal.returns
returns c =
    let a = c.args in
    let text = a.text.now in
    c.number_at.ensures ∙ ap (λ (x : ℕ). min x too_large) (ap (number_at text) c.start_of.ensures ∙ sym (number_is text a.i))
