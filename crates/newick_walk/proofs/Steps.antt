-- The walk's steps, for the proofs of the code: what each stores, and where it comes to. Assumes nothing.
use Rattle.std.specs.Prelude.{None}
use mathlib.Core.Path.{◌≡◌, refl, ap, ap₂, ◌∙◌}
use mathlib.Core.Logic.{◌⊎◌, inl, inr}
use mathlib.Core.List.{List}
use mathlib.Core.Bool.{Bool, true, false, cond, true≢false}
use Prim.Native.Nat.{ℕ, ◌+◌, ◌-◌, ◌≤◌, ◌<◌}
use native.Mathlib.Omega.{arith}
use lib.Dec.{ltb, leb, eqb}
use native.Mathlib.Decide.{dec_lt}
use lib.ListN.{length, drop, get_or, set, replicate, get_or-eq_default}
use borrow.Author.Tests.{lt-ltb, le-ltb, eq-eqb, ne_eqb, le-leb, lt-leb}
use Rattle.newick_edges.specs.declared.Met.{Met}
use Rattle.newick_edges.specs.Marks.{meet, mask_of, side}
use Rattle.newick_edges.specs.Table.{Table, enter, no_table}
use Rattle.statement.specs.Decimal.{digit, span}
use Rattle.newick_walk.specs.Tokens.{Ready, Onward}
use Rattle.newick_meaning.proofs.Numbers.{span_in, span_some}
use Rattle.newick_walk.specs.Machine.{Walk, passing, opening, closing, leafing, weighing, begun, stops_at}

abbrev pub opened_at : Walk → Walk
opened_at w = record { at = w.at + 1; depth = w.depth + 1; opened = set w.opened w.depth w.met.seen; below = w.below; met = w.met; table = w.table }

abbrev pub closed_at : Walk → ℕ → Walk
closed_at w b = record { at = w.at + 1; depth = w.depth - 1; opened = w.opened; below = b; met = w.met; table = w.table }

module _ (w : Walk) where
  pub opens_full : 131 ≤ w.depth → passing w ≡ opening w
  unfolding opening
  opens_full h = rw (le-ltb w.depth 131 h)

  pub opens_at : w.depth < 131 → opened_at w ≡ opening w
  unfolding opening
  opens_at h = rw (lt-ltb w.depth 131 h)

  pub closes_none : w.depth ≡ 0 → passing w ≡ closing w
  unfolding closing
  closes_none h = rw (eq-eqb w.depth 0 h)

  pub closes_full : (w.depth ≡ 0 → ⊥) → 131 ≤ w.depth - 1 → passing w ≡ closing w
  unfolding closing
  closes_full f h = rw (ne_eqb w.depth 0 f, le-leb 131 (w.depth - 1) h)

  pub closes_at : (w.depth ≡ 0 → ⊥) → w.depth - 1 < 131 → closed_at w (w.met.seen - get_or w.opened (w.depth - 1) 0) ≡ closing w
  unfolding closing
  closes_at f h = rw (ne_eqb w.depth 0 f, lt-leb 131 (w.depth - 1) h)

  -- what the steps leave
  pub opening_at : ((opening w).at ≡ w.at + 1) × ((opening w).depth ≤ w.depth + 1) × ((opening w).table ≡ w.table)
  unfolding opening
  opening_at = go (ltb w.depth 131)
    where
      go : (b : Bool) → let r = cond b (opened_at w) (passing w) in (r.at ≡ w.at + 1) × (r.depth ≤ w.depth + 1) × (r.table ≡ w.table)
      go true = (refl, omega arith, refl)
      go false = (refl, omega arith, refl)

  pub closing_at : ((closing w).at ≡ w.at + 1) × ((closing w).depth ≤ w.depth) × ((closing w).table ≡ w.table)
  unfolding closing
  closing_at = go (eqb w.depth 0) (leb 131 (w.depth - 1))
    where
      go : (a b : Bool) → let r = cond a (passing w) (cond b (passing w) (closed_at w (w.met.seen - get_or w.opened (w.depth - 1) 0))) in (r.at ≡ w.at + 1) × (r.depth ≤ w.depth) × (r.table ≡ w.table)
      go true b = (refl, omega arith, refl)
      go false true = (refl, omega arith, refl)
      go false false = (refl, omega arith, refl)

  pub leafing_at : (n x next : ℕ) → ((leafing n w x next).at ≡ next) × ((leafing n w x next).depth ≡ w.depth) × ((leafing n w x next).table ≡ w.table)
  unfolding leafing
  leafing_at n x next = (refl, refl, refl)

  pub weighing_at : (n x next : ℕ) → ((weighing n w x next).at ≡ next) × ((weighing n w x next).depth ≡ w.depth)
  unfolding weighing
  weighing_at n x next = (refl, refl)

  pub leaf_is : (n x next b : ℕ) (m : Met) → b ≡ mask_of n w.met.seen x → m ≡ meet n w.met w.at x
      → record { at = next; depth = w.depth; opened = w.opened; below = b; met = m; table = w.table } ≡ leafing n w x next
  unfolding leafing
  leaf_is n x next b m p q =
      ap₂ (λ (b : ℕ) (m : Met). record { at = next; depth = w.depth; opened = w.opened; below = b; met = m; table = w.table }) p q

  pub weigh_is : (n x next c : ℕ) (t : Table) → c ≡ side n w.below → t ≡ enter w.table (w.at + 1) c x
      → record { at = next; depth = w.depth; opened = w.opened; below = w.below; met = w.met; table = t } ≡ weighing n w x next
  unfolding weighing
  weigh_is n x next c t p q =
      ap (λ (t : Table). record { at = next; depth = w.depth; opened = w.opened; below = w.below; met = w.met; table = t })
      (q ∙ ap (λ (c : ℕ). enter w.table (w.at + 1) c x) p)

-- the walk starts from nothing
pub begun_is : (t : Table) → t ≡ no_table
    → record { at = 0; depth = 0; opened = replicate 131 0; below = 0; met = record { seen = 0; stray = None }; table = t } ≡ begun
unfolding begun
begun_is t e = ap (λ (t : Table). record { at = 0; depth = 0; opened = replicate 131 0; below = 0; met = record { seen = 0; stray = None }; table = t }) e

pub begun_zero : (begun.at ≡ 0) × (begun.depth ≡ 0)
unfolding begun
begun_zero = (refl, refl)

-- WHICH BYTES begin no token
pub goes_at : (c : ℕ) → (c ≡ 40) ⊎ ((c ≡ 41) ⊎ ((c ≡ 44) ⊎ (c ≡ 58))) → stops_at c ≡ false
unfolding stops_at
goes_at c (inl e) = rw e
goes_at c (inr (inl e)) = rw e
goes_at c (inr (inr (inl e))) = rw e
goes_at c (inr (inr (inr e))) = rw e

pub goes_digit : (c : ℕ) → digit c ≡ true → stops_at c ≡ false
unfolding stops_at
goes_digit c e = rw e

pub stops_other : (c : ℕ) → digit c ≡ false → (c ≡ 40 → ⊥) → (c ≡ 41 → ⊥) → (c ≡ 44 → ⊥) → (c ≡ 58 → ⊥) → stops_at c ≡ true
unfolding stops_at
stops_other c e f g h k = rw (e, ne_eqb c 40 f, ne_eqb c 41 g, ne_eqb c 44 h, ne_eqb c 58 k)

pub inside_of : (t : List ℕ) (at c : ℕ) → c ≡ get_or t at 256 → stops_at c ≡ false → at < length t
unfolding stops_at
inside_of t at c e s = go (dec_lt at (length t))
  where
    go : Dec (at < length t) → at < length t
    go (yes h) = h
    go (no h) = absurd (let z : c ≡ 256 = e ∙ get_or-eq_default t 256 (omega arith) in true≢false (rw z at s))

-- ON, within the text
module _ (n : ℕ) (t : List ℕ) (w r : Walk) (c : ℕ) (k : Ready n t w c) where
  onward_one : r.at ≡ w.at + 1 → r.depth ≤ w.depth + 1 → r.table ≡ w.table → Onward t w r
  onward_one p q s = record { on = omega arith; within = omega (arith, k.inside); shallow = omega (arith, k.shallow); few = omega (arith, ap (λ (x : Table). x.rows) s, k.few) }

  pub onward_open : r ≡ opening w → Onward t w r
  onward_open e = let o = opening_at w in
      onward_one (ap (λ (v : Walk). v.at) e ∙ o.0) (omega (arith, ap (λ (v : Walk). v.depth) e, o.1)) (ap (λ (v : Walk). v.table) e ∙ o.2)

  pub onward_close : r ≡ closing w → Onward t w r
  onward_close e = let o = closing_at w in
      onward_one (ap (λ (v : Walk). v.at) e ∙ o.0) (omega (arith, ap (λ (v : Walk). v.depth) e, o.1)) (ap (λ (v : Walk). v.table) e ∙ o.2)

  pub onward_pass : r ≡ passing w → Onward t w r
  onward_pass e = onward_one (ap (λ (v : Walk). v.at) e) (omega (arith, ap (λ (v : Walk). v.depth) e)) (ap (λ (v : Walk). v.table) e)

  pub onward_weigh : (v next : ℕ) → next ≡ w.at + 1 + span (drop (w.at + 1) t) → r ≡ weighing n w v next → r.table.rows ≤ 125 → Onward t w r
  onward_weigh v next q e f = let o = weighing_at w n v next in
      let a : r.at ≡ next = ap (λ (v : Walk). v.at) e ∙ o.0 in let d : r.depth ≡ w.depth = ap (λ (v : Walk). v.depth) e ∙ o.1 in
      record { on = omega arith; within = omega (arith, span_in t (w.at + 1) (omega (arith, k.inside))); shallow = omega (arith, k.shallow); few = f }

  pub onward_leaf : (v next : ℕ) → digit c ≡ true → next ≡ w.at + span (drop w.at t) → r ≡ leafing n w v next → Onward t w r
  onward_leaf v next z q e = let o = leafing_at w n v next in
      let a : r.at ≡ next = ap (λ (v : Walk). v.at) e ∙ o.0 in let d : r.depth ≡ w.depth = ap (λ (v : Walk). v.depth) e ∙ o.1 in
      let s = span_some t w.at c k.byte z k.inside in
      record { on = omega arith; within = omega (arith, span_in t w.at (omega (arith, k.inside))); shallow = omega (arith, k.shallow); few = omega (arith, ap (λ (x : Table). x.rows) (ap (λ (v : Walk). v.table) e ∙ o.2), k.few) }
