-- A fresh taxon is added; there is room for it.
use Prim.Native.Nat.{ℕ, ◌+◌, ◌^◌, ◌<◌}
use mathlib.Core.Path.{sym, ◌∙◌, ap}
use native.Mathlib.Omega.{arith}
use Rattle.std.specs.Prelude.{Option}
use Rattle.newick_edges.proofs.Marking.{fresh_parts, room, meets, strays}
use Rattle.newick_edges.proofs.Met.meet.Goals as goal

pub overflow_add-self : goal.overflow_add-self
overflow_add-self c =
    let a = c.args in let m = a.self.now in
    let f = fresh_parts a.n m.seen a.x (sym c.if-fresh.ensures) in
    let h : m.seen < 2 ^ 64 = omega arith in
    omega (arith, room 64 a.x m.seen (omega arith) h f.1, c.single.ensures)

pub returns-then-fresh : goal.returns-then-fresh
returns-then-fresh c =
    let a = c.args in let m = a.self.now in
    ap (λ (p : ℕ). record { seen = m.seen + p; stray = m.stray }) c.single.ensures ∙ meets a.n m a.place a.x (sym c.if-fresh.ensures)

pub returns-else-fresh : goal.returns-else-fresh
returns-else-fresh c =
    let a = c.args in let m = a.self.now in
    ap (λ (p : Option ℕ). record { seen = m.seen; stray = p }) c.or-self.ensures ∙ strays a.n m a.place a.x (sym c.if-fresh.ensures)
