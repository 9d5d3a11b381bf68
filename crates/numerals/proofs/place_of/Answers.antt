-- `numerals::place_of` meets its contract. The loop has the place of the byte at its index.
use Prim.Native.Nat.{◌<◌, min}
use native.Mathlib.Omega.{arith}
use mathlib.Core.Path.{◌≡◌, ◌∙◌, ap}
use lib.ListN.{length}
use Rattle.std.proofs.lemmas.List.{get_or-take, length-take}
use Rattle.numerals.specs.Place.{behind, place_of}
use Rattle.numerals.proofs.Laws.{passed_none, passed_on}
use Rattle.numerals.proofs.place_of.Goals as goal

pub loop-b-init : goal.loop-b-init
loop-b-init c = passed_none

pub loop-b-preserved : goal.loop-b-preserved
loop-b-preserved c =
    let text = c.args.text.now in
    let within : c.loop-b.b-index < min c.args.p (length text) = omega (arith, length-take c.min.result text) in
    let at = get_or-take c.min.result text c.loop-b.b-index 0 (omega arith) in
    passed_on c.loop-b.invariant (omega arith) (omega arith) (c.next_place-here.ensures ∙ ap (behind c.loop-b.here) at)

pub returns : goal.returns
returns c =
    let l = c.loop-b in
    let text = c.args.text.now in
    let end : l.b-index ≡ min c.args.p (length text) = omega (arith, length-take c.min.result text) in
    l.invariant.place ∙ ap (place_of text) end
