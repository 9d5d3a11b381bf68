-- Found, pushed, or no room.
use borrow.Author.Rules.{rules}
use Prim.Native.Nat.{ℕ}
use mathlib.Core.List.{List}
use mathlib.Core.Bool.{true}
use mathlib.Core.Path.{◌≡◌, ◌∙◌, ap}
use lib.Dec.{eqb}
use lib.ListN.{get_or}
use Rattle.std.proofs.lemmas.List.{map-set}
use Rattle.newick_edges.specs.Table.{table_in, mark, found}
use Rattle.newick_edges.proofs.Laws.{found_is, pushed_is, full_is}
use Rattle.newick_edges.proofs.Table.add.Goals as goal

pub returns-then-j-rows : goal.returns-then-j-rows
returns-then-j-rows c =
    let a = c.args in let s = a.self.now in let t = table_in s in let j = c.lowest-j.result in
    let e : j ≡ found t a.c = c.lowest-j.ensures (λ i. eqb (get_or s.clusters i 0) a.c) (λ i l r e. search rules) in
    ap (λ (ms : List ℕ). record { heavy = t.heavy; bare = t.bare; rows = t.rows; clusters = t.clusters; weights = t.weights; places = t.places; many = ms }) (map-set mark s.many j true)
    ∙ found_is t a.place a.c a.w j e c.if-j-rows.true

pub returns-then-rows-lt125 : goal.returns-then-rows-lt125
returns-then-rows-lt125 c =
    let a = c.args in let s = a.self.now in let t = table_in s in let j = c.lowest-j.result in
    let e : j ≡ found t a.c = c.lowest-j.ensures (λ i. eqb (get_or s.clusters i 0) a.c) (λ i l r e. search rules) in
    pushed_is t a.place a.c a.w j e c.if-j-rows.false c.if-rows-lt125.true

pub returns-else-rows-lt125 : goal.returns-else-rows-lt125
returns-else-rows-lt125 c =
    let a = c.args in let s = a.self.now in let t = table_in s in let j = c.lowest-j.result in
    let e : j ≡ found t a.c = c.lowest-j.ensures (λ i. eqb (get_or s.clusters i 0) a.c) (λ i l r e. search rules) in
    full_is t a.place a.c a.w j e c.if-j-rows.false c.if-rows-lt125.false
