-- Laws of the table's steps, for the proofs of the code. Assumes nothing.
use Prim.Native.Nat.{ℕ, ◌≤◌, ◌<◌}
use Rattle.std.specs.Prelude.{Option}
use mathlib.Core.Path.{◌≡◌, ◌∙◌, ap}
use borrow.Author.Tests.{lt-ltb, le-ltb, eq-eqb, ne_eqb}
use Rattle.statement.specs.Matrix.{weight_limit}
use Rattle.newick_edges.specs.Marks.{first_of}
use Rattle.newick_edges.specs.Table.{Table, with_heavy, with_bare, note_heavy, note_bare, marked, pushed, found, added, enter}

module _ (t : Table) (place : ℕ) where
  pub light_is : (w : ℕ) → w ≤ weight_limit → t ≡ note_heavy t place w
  unfolding note_heavy
  light_is w h = rw (le-ltb weight_limit w h)

  pub heavy_is : (w : ℕ) (p : Option ℕ) → weight_limit < w → p ≡ first_of t.heavy place → with_heavy t p ≡ note_heavy t place w
  unfolding note_heavy
  heavy_is w p h e = rw (lt-ltb weight_limit w h) (ap (with_heavy t) e)

  pub bare_is : (p : Option ℕ) → p ≡ first_of t.bare place → with_bare t p ≡ note_bare t place
  unfolding note_bare
  bare_is p e = ap (with_bare t) e

  module _ (c w : ℕ) where
    pub found_is : (j : ℕ) → j ≡ found t c → j < t.rows → marked t j ≡ added t place c w
    unfolding added
    found_is j e h = rw (lt-ltb (found t c) t.rows (let k : found t c < t.rows = rw e at h in k)) (ap (marked t) e)

    pub pushed_is : (j : ℕ) → j ≡ found t c → t.rows ≤ j → t.rows < 125 → pushed t place c w ≡ added t place c w
    unfolding added
    pushed_is j e h g = rw (le-ltb (found t c) t.rows (let k : t.rows ≤ found t c = rw e at h in k), lt-ltb t.rows 125 g)

    pub full_is : (j : ℕ) → j ≡ found t c → t.rows ≤ j → 125 ≤ t.rows → t ≡ added t place c w
    unfolding added
    full_is j e h g = rw (le-ltb (found t c) t.rows (let k : t.rows ≤ found t c = rw e at h in k), le-ltb t.rows 125 g)

    pub dropped_is : w ≡ 0 → t ≡ enter t place c w
    unfolding enter
    dropped_is e = rw (eq-eqb w 0 e)

    pub entered_bare : (u r : Table) → (w ≡ 0 → ⊥) → c ≡ 0 → u ≡ note_heavy t place w → r ≡ note_bare u place → r ≡ enter t place c w
    unfolding enter
    entered_bare u r f e p q = rw (ne_eqb w 0 f, eq-eqb c 0 e) (q ∙ ap (λ (v : Table). note_bare v place) p)

    pub entered : (u r : Table) → (w ≡ 0 → ⊥) → (c ≡ 0 → ⊥) → u ≡ note_heavy t place w → r ≡ added u place c w → r ≡ enter t place c w
    unfolding enter
    entered u r f e p q = rw (ne_eqb w 0 f, ne_eqb c 0 e) (q ∙ ap (λ (v : Table). added v place c w) p)
