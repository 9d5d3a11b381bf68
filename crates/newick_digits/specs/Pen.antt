-- What a pen writes.
use Rattle.std.specs.Prelude.{ℕ, ◌+◌, ◌≤◌, ◌≡◌, List, length}
use Rattle.std.proofs.lemmas.List.Edits.{sets}
use Rattle.newick_digits.specs.declared.Pen.{Pen}

-- the text ends within a million bytes
abbrev pub Fits : Pen → List ℕ → Type 0
Fits p text = p.at + length text ≤ 1000000

-- THE TEXT WAS WRITTEN: the same slice holds it from the old place on, as far as there is room for it, and the place is behind it
pub record Wrote (p q : Pen) (text : List ℕ) : Type 0 where
  pub same : q.out.ghost_name ≡ p.out.ghost_name
  pub stored : q.out.now ≡ sets p.out.now p.at text
  pub place : q.at ≡ p.at + length text
