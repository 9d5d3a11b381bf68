-- `packing::pack` is safe: the record of at most 64 taxa fits its buffer.
use native.Mathlib.Omega.{arith}
use mathlib.Core.Path.{sym}
use lib.Seq.{length-take-le}
use Rattle.packing.proofs.Sizes.{fits}
use Rattle.packing.proofs.pack.Goals as goal

pub slice_bounds-out-end-2 : goal.slice_bounds-out-end-2
slice_bounds-out-end-2 g c = sym (length-take-le _ _ (omega (arith, fits c.args.n c.args.text.now c.requires)))

pub slice_bounds-write_typed-end : goal.slice_bounds-write_typed-end
slice_bounds-write_typed-end g c = sym (length-take-le _ _ (omega (arith, fits c.args.n c.args.text.now c.requires)))

pub write_typed-requires : goal.write_typed-requires
write_typed-requires g c = (c.requires, length-take-le _ _ (omega (arith, fits c.args.n c.args.text.now c.requires)))
