-- The text of a vertex by the arrays that hold the tree: one taxon, or what stands between its brackets. Assumes nothing.
use Prim.Native.Nat.{ℕ, ◌+◌, ◌≤◌, ◌<◌}
use native.Mathlib.Omega.{arith}
use mathlib.Core.Path.{◌≡◌, sym, ◌∙◌, ap, ap₂}
use mathlib.Core.Bool.{Bool, cond}
use mathlib.Core.List.{List, [], ◌∷◌, ◌++◌, map}
use lib.Dec.{eqb}
use lib.ListN.{length, get_or, length-append}
use borrow.Author.Tests.{eq-eqb, ne_eqb}
use Rattle.std.proofs.Common.{take}
use Rattle.std.proofs.lemmas.List.{length-take}
use Rattle.statement.specs.Decimal.{decimal}
use Rattle.statement.specs.NewickText.{homed, led, bracketed, leaf_text, child_text, items, vertex_text}
use Rattle.newick_list.proofs.Those.{those_take, those_skip, those_end}
use Rattle.newick_list.proofs.Vertex.{vertex_is}
use Rattle.newick_digits.specs.declared.Pen.{Pen}
use Rattle.newick_digits.specs.Pen.{Fits, Wrote}
use Rattle.newick_vertex.specs.declared.Arrays.{Arrays}
use Rattle.newick_vertex.specs.Arrays.{having, Lone}
use Rattle.newick_vertex.specs.Held.{held}
use Rattle.newick_vertex.proofs.Bare.{having_all, in_front}
use Rattle.newick_vertex.proofs.Stores.{Left, left_room, rest_longer}

-- a vertex's own taxa, and its children from c on, as items; the two without the closing bracket
abbrev pub own : Arrays → ℕ → List (List ℕ)
own a v = map leaf_text (having a.homes.now v 0 (length a.homes.now))

abbrev pub kids : Arrays → ℕ → ℕ → List (List ℕ)
kids a v c = map (child_text (held a) (vertex_text (held a))) (having a.links.now v c v)

abbrev pub opened : Arrays → ℕ → List ℕ
opened a v = led 40 (own a v ++ kids a v 0)

-- the children from c on, where c is one, where it is none, and behind the last
module _ (a : Arrays) (v c : ℕ) where
  abbrev item : ℕ → List ℕ
  item = child_text (held a) (vertex_text (held a))

  abbrev below : ℕ → Bool
  below k = eqb (get_or a.links.now k 0) v

  pub kids_on : c < length (take v a.links.now) → get_or (take v a.links.now) c 0 ≡ v → kids a v c ≡ item c ∷ kids a v (c + 1)
  kids_on l e = let f = in_front a.links.now v c l in ap (map item) (those_take below v c f.0 (eq-eqb (get_or a.links.now c 0) v (sym f.1 ∙ e)))

  pub kids_past : c < length (take v a.links.now) → (get_or (take v a.links.now) c 0 ≡ v → ⊥) → kids a v c ≡ kids a v (c + 1)
  kids_past l e = let f = in_front a.links.now v c l in ap (map item) (those_skip below v c f.0 (ne_eqb (get_or a.links.now c 0) v (λ h. e (f.1 ∙ h))))

  pub kids_end : v ≤ length a.links.now → length (take v a.links.now) ≤ c → kids a v c ≡ []
  kids_end h e = ap (map item) (those_end below v c (let k : v ≤ c = omega (arith, length-take v a.links.now) in k))

abbrev shown : Arrays → ℕ → Bool → List ℕ
shown a v b = cond b (decimal (get_or (homed (held a) v) 0 0)) (bracketed (items (held a) (vertex_text (held a)) v))

pub bare_text : (a : Arrays) (v r : ℕ) → Lone (held a) v r → r < length a.homes.now → vertex_text (held a) v ≡ decimal r
bare_text a v r lone l = vertex_is (held a) v ∙ ap (shown a v) (lone.bare l).0 ∙ ap decimal (lone.bare l).1

-- between brackets
module _ (a : Arrays) (v : ℕ) (lone : Lone (held a) v (length a.homes.now)) where
  pub bracket_text : vertex_text (held a) v ≡ opened a v ++ (41 ∷ [])
  bracket_text =
      vertex_is (held a) v ∙ ap (shown a v) (lone.brackets (omega arith))
      ∙ ap₂ (λ (xs ys : List ℕ). led 40 (map leaf_text xs ++ map (child_text (held a) (vertex_text (held a))) ys) ++ (41 ∷ []))
      (sym (having_all a.homes.now v (length a.homes.now))) (sym (having_all a.links.now v v))

  opened_length : length (vertex_text (held a) v) ≡ length (opened a v) + 1
  opened_length = ap length bracket_text ∙ length-append (opened a v) (41 ∷ [])

  -- the room that each part has: the taxa, a child, and the closing bracket
  pub own_room : (o : Pen) → Fits o (vertex_text (held a) v) → Fits o (led 40 (own a v))
  own_room o room = omega (arith, room, opened_length, rest_longer (own a v) (kids a v 0))

  module _ {o : Pen} (room : Fits o (vertex_text (held a) v)) where
    pub kid_room : {p : Pen} {b : ℕ} (c : ℕ) → Left o (opened a v) p b (kids a v c) → c < length (take v a.links.now) → get_or (take v a.links.now) c 0 ≡ v
        → p.at + length (vertex_text (held a) c) + length (decimal (get_or a.weights.now c 0)) + 2 ≤ 1000000
    kid_room c l h e =
        omega (arith, left_room l (kids_on a v c h e) (omega (arith, room, opened_length)), length-append (vertex_text (held a) c) (58 ∷ decimal (get_or a.weights.now c 0)))

    pub end_room : {p : Pen} → Wrote o p (opened a v) → Fits p (41 ∷ [])
    end_room w = omega (arith, room, w.place, opened_length)
