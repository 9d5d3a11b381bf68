-- Arrays cut to the lengths that are asked for hold the same tree. Assumes nothing.
use Prim.Native.Nat.{ℕ, ◌≤◌}
use native.Mathlib.Omega.{arith}
use mathlib.Core.Path.{◌≡◌, ◌∙◌}
use mathlib.Core.List.{List}
use lib.ListN.{length}
use Rattle.std.proofs.Common.{min, take}
use Rattle.std.proofs.lemmas.List.{get_or-take, length-take}
use Rattle.statement.specs.NewickText.{Shape, vertex_text}
use Rattle.newick_list.proofs.Vertex.{Agree, text_same}
use Rattle.newick_vertex.specs.Arrays.{shape_in}

module _ (n m : ℕ) (ls hs ws : List ℕ) (links : m ≤ length ls) (homes : n ≤ length hs) where
  abbrev pub cut : Shape
  cut = shape_in (length (take n hs)) (length (take m ls)) (take m ls) (take n hs) (take m ws)

  homes_length : length (take n hs) ≡ n
  homes_length = length-take n hs ∙ (let e : min n (length hs) ≡ n = omega (arith, homes) in e)

  links_length : length (take m ls) ≡ m
  links_length = length-take m ls ∙ (let e : min m (length ls) ≡ m = omega (arith, links) in e)

  agree : Agree cut (shape_in n m ls hs ws) m
  agree = record {
    taxa = homes_length;
    edges = links_length;
    home = λ j l. get_or-take n hs j 0 (omega (arith, l, homes_length));
    link = λ j l. get_or-take m ls j 0 l;
    weight = λ c l. get_or-take m ws c 0 l;
  }

  pub cut_text : (v : ℕ) → v ≤ m → vertex_text cut v ≡ vertex_text (shape_in n m ls hs ws) v
  cut_text v l = text_same cut (shape_in n m ls hs ws) m agree v l
