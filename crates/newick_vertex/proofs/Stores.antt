-- What the writer's stores leave: items behind one another. Assumes nothing.
use Prim.Native.Nat.{ℕ, ◌+◌, ◌≤◌}
use native.Mathlib.Omega.{arith}
use mathlib.Core.Path.{◌≡◌, refl, sym, ◌∙◌, ap, subst}
use mathlib.Core.List.{List, [], ◌∷◌, ◌++◌, append_assoc}
use lib.Dec.{eqb}
use lib.ListN.{length, length-append}
use lib.Seq.{sets}
use borrow.Author.Tests.{eq-eqb, ne_eqb}
use Rattle.newick_digits.specs.declared.Pen.{Pen}
use Rattle.newick_digits.specs.Pen.{Fits, Wrote}
use Rattle.newick_digits.proofs.Written.{wrote_then}
use Rattle.statement.specs.NewickText.{led}
use Rattle.newick_vertex.specs.Arrays.{lead_at}

-- WHAT IS LEFT TO WRITE of the text W of the pen o: the items xs, the first behind the byte b
pub record Left (o : Pen) (W : List ℕ) (p : Pen) (b : ℕ) (xs : List (List ℕ)) : Type 0 where
  pub same : p.out.ghost_name ≡ o.out.ghost_name
  pub stored : sets p.out.now p.at (led b xs) ≡ sets o.out.now o.at W
  pub place : p.at + length (led b xs) ≡ o.at + length W

module _ {o : Pen} {W : List ℕ} {p : Pen} {b : ℕ} where
  pub left_same : {xs ys : List (List ℕ)} → xs ≡ ys → Left o W p b xs → Left o W p b ys
  left_same e l = subst (Left o W p b) e l

  module _ {ys : List (List ℕ)} (l : Left o W p b ys) where
    module _ {x : List ℕ} {xs : List (List ℕ)} (e : ys ≡ x ∷ xs) where
      pub left_room : Fits o W → Fits p (b ∷ x)
      unfolding led
      left_room h = omega (arith, l.place, ap (λ (zs : List (List ℕ)). length (led b zs)) e, length-append x (led 44 xs))

      pub left_turn : {q : Pen} → Wrote p q (b ∷ x) → Left o W q 44 xs
      unfolding led
      left_turn {q} w =
          let rest : Pen = record q { out = record q.out { now = sets q.out.now q.at (led 44 xs) }; at = q.at + length (led 44 xs) } in
          let all : Wrote p rest ((b ∷ x) ++ led 44 xs) = wrote_then w (record { same = refl; stored = refl; place = refl }) in record {
            same = w.same ∙ l.same;
            stored = all.stored ∙ ap (λ (zs : List (List ℕ)). sets p.out.now p.at (led b zs)) (sym e) ∙ l.stored;
            place = omega (arith, l.place, w.place, ap (λ (zs : List (List ℕ)). length (led b zs)) e, length-append x (led 44 xs));
          }

    pub left_none : ys ≡ [] → Wrote o p W
    unfolding led
    left_none e = record {
      same = l.same;
      stored = ap (λ (zs : List (List ℕ)). sets p.out.now p.at (led b zs)) (sym e) ∙ l.stored;
      place = omega (arith, l.place, ap (λ (zs : List (List ℕ)). length (led b zs)) e);
    }

-- items behind items: the byte before the next is a comma, unless there were none
abbrev lead : ℕ → List (List ℕ) → ℕ
lead b [] = b
lead b (x ∷ xs) = 44

led_append : (b : ℕ) (xs ys : List (List ℕ)) → led b (xs ++ ys) ≡ led b xs ++ led (lead b xs) ys
unfolding led
led_append b [] ys = refl
led_append b (x ∷ xs) ys = ap (λ (z : List ℕ). b ∷ z) (ap (λ (z : List ℕ). x ++ z) (again xs) ∙ sym (append_assoc x (led 44 xs) (led 44 ys)))
  where
    again : (zs : List (List ℕ)) → led 44 (zs ++ ys) ≡ led 44 zs ++ led 44 ys
    again [] = refl
    again (z ∷ zs) = ap (λ (u : List ℕ). 44 ∷ u) (ap (λ (u : List ℕ). z ++ u) (again zs) ∙ sym (append_assoc z (led 44 zs) (led 44 ys)))

lead_is : (xs : List (List ℕ)) (at p : ℕ) → p ≡ at + length (led 40 xs) → lead_at (eqb at p) ≡ lead 40 xs
unfolding led
lead_is [] at p e = rw (eq-eqb at p (let h : at ≡ p = omega arith in h))
lead_is (x ∷ xs) at p e = rw (ne_eqb at p (λ h. omega arith))

module _ (xs ys : List (List ℕ)) where
  pub left_rest : {o p : Pen} {b : ℕ} → Wrote o p (led 40 xs) → b ≡ lead_at (eqb o.at p.at) → Left o (led 40 (xs ++ ys)) p b ys
  left_rest {o} {p} {b} w k =
      let same : b ≡ lead 40 xs = k ∙ lead_is xs o.at p.at w.place in
      let whole : led 40 xs ++ led b ys ≡ led 40 (xs ++ ys) = ap (λ (c : ℕ). led 40 xs ++ led c ys) same ∙ sym (led_append 40 xs ys) in
      let rest : Pen = record p { out = record p.out { now = sets p.out.now p.at (led b ys) }; at = p.at + length (led b ys) } in
      let all : Wrote o rest (led 40 xs ++ led b ys) = wrote_then w (record { same = refl; stored = refl; place = refl }) in
      record { same = w.same; stored = all.stored ∙ ap (sets o.out.now o.at) whole; place = omega (arith, all.place, ap length whole) }

  pub rest_longer : length (led 40 xs) ≤ length (led 40 (xs ++ ys))
  rest_longer = omega (arith, ap length (led_append 40 xs ys), length-append (led 40 xs) (led (lead 40 xs) ys))
