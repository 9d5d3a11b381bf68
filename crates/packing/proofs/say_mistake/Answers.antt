-- `packing::say_mistake` is safe: the n of too few or too many numbers is from 2 to 64.
use mathlib.Core.Path.{sym, ◌∙◌, ap}
use Rattle.std.specs.Prelude.{Err}
use Rattle.typed.proofs.Texts.{count_taken}
use Rattle.packing.proofs.say_mistake.Goals as goal

pub say_count-requires : goal.say_count-requires
say_count-requires g c =
    (count_taken c.args.text.now c.in-Count.taxa c.in-Count.found c.in-Count.place (ap Err (sym c.in-Count.is) ∙ c.requires)).few
