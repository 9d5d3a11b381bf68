-- The text of a tree of at most 64 taxa and 125 edges is short. Assumes nothing.
use Prim.Native.Nat.{ℕ, zero, suc, ◌+◌, ◌-◌, ◌/◌, ◌^◌, ◌≤◌, ◌<◌}
use native.Mathlib.Omega.{arith}
use native.Mathlib.Nat.{pow-suc}
use native.Mathlib.Decide.{dec_lt}
use mathlib.Core.Path.{◌≡◌, refl, ◌∙◌, ap}
use mathlib.Core.Logic.{◌↔◌}
use mathlib.Core.Bool.{Bool, true, false, cond}
use mathlib.Core.List.{List, [], ◌∷◌, ◌++◌, map}
use lib.Dec.{eqb}
use lib.ListN.{length, get_or, length-append}
use Rattle.statement.specs.Decimal.{decimal}
use Rattle.newick_digits.proofs.Decimal.{len_one, len_more}
use Rattle.statement.proofs.Tests.{less_is, same_is, both_is}
use Rattle.statement.specs.NewickText.{Shape, homed, children, unbracketed, led, bracketed, leaf_text, child_text, items, vertex_text}
use Rattle.newick_list.proofs.Those.{those_head}
use Rattle.newick_list.proofs.Vertex.{vertex_is}
use Rattle.newick_list.proofs.Sums.{total, every, Rooted, total_most, whole_sum}

-- so many digits
short : (k n : ℕ) → n < 10 ^ suc k → length (decimal n) ≤ suc k
short zero n h = omega (arith, len_one n (omega arith))
short (suc k) n h = at (dec_lt n 10) (λ x l. short k x l)
  where
    at : Dec (n < 10) → ((x : ℕ) → x < 10 ^ suc k → length (decimal x) ≤ suc k) → length (decimal n) ≤ suc (suc k)
    at (yes l) ih = omega (arith, len_one n l)
    at (no l) ih = omega (arith, len_more n (omega arith), ih (n / 10) (omega (arith, pow-suc 10 (suc k))))

pub ten_digits : (n : ℕ) → n < 10000000000 → length (decimal n) ≤ 10
ten_digits n h = short 9 n h

-- the length of items one after the other
led_total : (f : ℕ → List ℕ) (b : ℕ) (xs : List ℕ) (ys : List (List ℕ)) → length (led b (map f xs ++ ys)) ≡ total (λ i. length (f i) + 1) xs + length (led 44 ys)
unfolding led total
led_total f b [] [] = omega arith
led_total f b [] (y ∷ ys) = omega arith
led_total f b (x ∷ xs) ys = omega (arith, length-append (f x) (led 44 (map f xs ++ ys)), led_total f 44 xs ys)

led_all : (f : ℕ → List ℕ) (xs : List ℕ) → length (led 44 (map f xs)) ≡ total (λ i. length (f i) + 1) xs
unfolding led total
led_all f [] = refl
led_all f (x ∷ xs) = omega (arith, length-append (f x) (led 44 (map f xs)), led_all f xs)

-- alone: one taxon and no child
pub alone_is : (t : Shape) (v : ℕ) → (unbracketed t v ≡ true) ↔ (((v < t.edges) × (length (homed t v) ≡ 1)) × (length (children t v) ≡ 0))
alone_is t v = both_is (both_is (less_is v t.edges) (same_is (length (homed t v)) 1)) (same_is (length (children t v)) 0)

no_length : (xs : List ℕ) → length xs ≡ 0 → xs ≡ []
no_length [] e = refl
no_length (x ∷ xs) e = absurd (omega arith)

-- EITHER WAY to write a vertex
pub record Bare (t : Shape) (v i : ℕ) : Type 0 where
  pub taxa : homed t v ≡ i ∷ []
  pub kids : children t v ≡ []
  pub text : vertex_text t v ≡ decimal i
  pub lone : unbracketed t v ≡ true

pub data Way (t : Shape) (v : ℕ) : Type 0 where
  bare : (i : ℕ) → Bare t v i → Way t v
  brackets : vertex_text t v ≡ bracketed (items t (vertex_text t) v) → unbracketed t v ≡ false → Way t v

pub way : (t : Shape) (v : ℕ) → Way t v
way t v = go (unbracketed t v) refl
  where
    one : (xs : List ℕ) → length xs ≡ 1 → xs ≡ get_or xs 0 0 ∷ []
    one [] e = absurd (omega arith)
    one (x ∷ xs) e = ap (λ (l : List ℕ). x ∷ l) (no_length xs (omega arith))

    go : (b : Bool) → unbracketed t v ≡ b → Way t v
    go true e =
        let h = (alone_is t v).0 e in
        bare (get_or (homed t v) 0 0)
        (record {
          taxa = one (homed t v) h.0.1;
          kids = no_length (children t v) h.1;
          text = vertex_is t v ∙ ap (λ (b : Bool). cond b (decimal (get_or (homed t v) 0 0)) (bracketed (items t (vertex_text t) v))) e;
          lone = e;
        })
    go false e = brackets (vertex_is t v ∙ ap (λ (b : Bool). cond b (decimal (get_or (homed t v) 0 0)) (bracketed (items t (vertex_text t) v))) e) e

-- THE LENGTH of a text: what a vertex has of its own, and two bytes and a weight for each child
module _ (t : Shape) (tree : Rooted t) (taxa : t.taxa ≤ 64) (edges : t.edges ≤ 125) (light : (c : ℕ) → c < t.edges → t.weight c < 10000000000) where
  abbrev size : ℕ → ℕ
  size v = length (vertex_text t v)

  abbrev link_size : ℕ → ℕ
  link_size c = length (decimal (t.weight c)) + 2

  abbrev kids_size : ℕ → ℕ
  kids_size v = total (λ c. size c + link_size c) (children t v)

  abbrev own_size : ℕ → ℕ
  own_size v = total (λ i. length (leaf_text i) + 1) (homed t v)

  item_size : (xs : List ℕ) → total (λ c. length (child_text t (vertex_text t) c) + 1) xs ≡ total (λ c. size c + link_size c) xs
  unfolding total
  item_size [] = refl
  item_size (x ∷ xs) = omega (arith, item_size xs, length-append (vertex_text t x) (58 ∷ decimal (t.weight x)))

  bracket_size : (v : ℕ) → length (bracketed (items t (vertex_text t) v)) ≡ own_size v + kids_size v + 1
  bracket_size v =
      omega (
        arith,
        length-append (led 40 (items t (vertex_text t) v)) (41 ∷ []),
        led_total leaf_text 40 (homed t v) (map (child_text t (vertex_text t)) (children t v)),
        led_all (child_text t (vertex_text t)) (children t v),
        item_size (children t v),
      )

  own_small : (v : ℕ) → own_size v ≤ 320
  own_small v =
      omega (
        arith,
        total_most (λ i. length (leaf_text i) + 1) (λ i. eqb (t.home i) v) 5 0 t.taxa
            (λ i _ l. omega (arith, length-append (decimal i) (58 ∷ decimal 0), short 1 i (omega arith), len_one 0 (omega arith))),
      )

  none : (v : ℕ) → children t v ≡ [] → kids_size v ≡ 0
  unfolding total
  none v e = ap (total (λ c. size c + link_size c)) e

  size_parts : (v : ℕ) → Way t v → (kids_size v ≤ size v) × (size v ≤ kids_size v + 321)
  size_parts v (brackets e _) = let h = ap length e in (omega (arith, h, bracket_size v), omega (arith, h, bracket_size v, own_small v))
  size_parts v (bare i b) =
      let few = those_head (λ i. eqb (t.home i) v) 0 t.taxa i [] b.taxa in
      (omega (arith, none v b.kids), omega (arith, ap length b.text, ten_digits i (omega (arith, few.high))))

  pub text_short : size t.edges ≤ 65000
  text_short =
      omega (
        arith,
        whole_sum t tree size (λ v. size v - kids_size v) link_size (λ v l. let h = size_parts v (way t v) in omega (arith, h)),
        total_most (λ c. size c - kids_size c + link_size c) every 334 0 t.edges
            (λ c _ l. omega (arith, size_parts c (way t c), ten_digits (t.weight c) (light c (omega arith)))),
        size_parts t.edges (way t t.edges),
      )
