-- Laws of the sets: what one byte adds, and that all bytes in their order make the sets. Assumes nothing.
use Prim.Native.Nat.{ℕ, ◌+◌, ◌*◌, ◌/◌, ◌%◌, ◌^◌, ◌≤◌, ◌<◌, max}
use native.Mathlib.Omega.{arith}
use native.Mathlib.Decide.{dec_lt, ℕ_discrete}
use mathlib.Core.Path.{◌≡◌, sym, ◌∙◌, ap, subst}
use mathlib.Core.Logic.{◌≢◌}
use mathlib.Core.Bool.{Bool, true, false, cond}
use mathlib.Core.List.{List}
use lib.Bits.{bit_or, or_shr, or_step}
use lib.Dec.{eqb, ltb}
use lib.ListN.{length, get_or, length-set}
use lib.Seq.{get_or-set_same, get_or-set_other}
use borrow.Author.Tests.{eq-eqb, ne_eqb, lt-ltb, le-ltb}
use Rattle.statement.specs.Cluster.{bit}
use Rattle.statement.specs.Table.{choose, place}
use Rattle.statement.proofs.Bits.{bit_lt, bit_none}
use Rattle.statement.proofs.Single.{pow_self, pow_other}
use Rattle.table.proofs.Choose.{pair_below, pair_is}
use Rattle.table_trial.specs.Sets.{put, marked, Told, Filled, Prepared}

bit_or_law : (a b i : ℕ) → bit (bit_or a b) i ≡ max (bit a i) (bit b i)
bit_or_law a b i =
    ap (λ (n : ℕ). n % 2) (or_shr a b i ∙ or_step (a / 2 ^ i) (b / 2 ^ i))
    ∙ parity (bit_or (a / 2 ^ i / 2) (b / 2 ^ i / 2)) (max (a / 2 ^ i % 2) (b / 2 ^ i % 2)) (omega arith)
  where
    parity : (q m : ℕ) → m < 2 → (q * 2 + m) % 2 ≡ m
    parity q m h = omega arith

put_same : (sets : List ℕ) (p u : ℕ) → p < length sets → bit (get_or (put sets p u) p 0) u ≡ 1
put_same sets p u room =
    ap (λ (n : ℕ). bit n u) (get_or-set_same sets p (bit_or (get_or sets p 0) (2 ^ u)) 0 room)
    ∙ bit_or_law (get_or sets p 0) (2 ^ u) u
    ∙ omega (arith, pow_self u, bit_lt (get_or sets p 0) u)

put_other : (sets : List ℕ) (p u p' u' : ℕ) → p < length sets → (p' ≡ p → u' ≡ u → ⊥) → bit (get_or (put sets p u) p' 0) u' ≡ bit (get_or sets p' 0) u'
put_other sets p u p' u' room d = go (ℕ_discrete p' p)
  where
    go : Dec (p' ≡ p) → bit (get_or (put sets p u) p' 0) u' ≡ bit (get_or sets p' 0) u'
    go (no n) = ap (λ (v : ℕ). bit v u') (get_or-set_other sets p p' (bit_or (get_or sets p 0) (2 ^ u)) 0 n)
    go (yes e) =
        subst (λ (q : ℕ). bit (get_or (put sets p u) q 0) u' ≡ bit (get_or sets q 0) u') (sym e)
        (ap (λ (n : ℕ). bit n u') (get_or-set_same sets p (bit_or (get_or sets p 0) (2 ^ u)) 0 room)
        ∙ bit_or_law (get_or sets p 0) (2 ^ u) u'
        ∙ omega (arith, pow_other u u' (d e), bit_lt (get_or sets p 0) u'))

-- WITH ONE BYTE
module _ (a b c : ℕ) (sets : List ℕ) where
  pub marked_one : (v : ℕ) → v ≡ 1 → marked v a b c sets ≡ put sets (choose b 2 + a) c
  unfolding marked
  marked_one v e = rw (eq-eqb v 1 e)

  pub marked_two : (v : ℕ) → v ≡ 2 → marked v a b c sets ≡ put sets (choose c 2 + a) b
  unfolding marked
  marked_two v e = rw (ne_eqb v 1 (λ f. absurd (omega arith)), eq-eqb v 2 e)

  pub marked_three : (v : ℕ) → v ≡ 3 → marked v a b c sets ≡ put sets (choose c 2 + b) a
  unfolding marked
  marked_three v e = rw (ne_eqb v 1 (λ f. absurd (omega arith)), ne_eqb v 2 (λ f. absurd (omega arith)), eq-eqb v 3 e)

  pub marked_none : (v : ℕ) → v ≢ 1 → v ≢ 2 → v ≢ 3 → marked v a b c sets ≡ sets
  unfolding marked
  marked_none v e f g = rw (ne_eqb v 1 e, ne_eqb v 2 f, ne_eqb v 3 g)

-- ONE BYTE of the four a<b<c<x
module _ (a b c : ℕ) (ab : a < b) (bc : b < c) (top : c < 64) (sets : List ℕ) (size : length sets ≡ 2016) where
  room_one : choose b 2 + a < length sets
  room_one = omega (arith, pair_below a b ab (omega arith))

  room_two : choose c 2 + a < length sets
  room_two = omega (arith, pair_below a c (omega arith) top)

  room_three : choose c 2 + b < length sets
  room_three = omega (arith, pair_below b c bc top)

  marked_size : (v : ℕ) → length (marked v a b c sets) ≡ 2016
  unfolding marked
  marked_size v = go (eqb v 1) (eqb v 2) (eqb v 3)
    where
      go : (p q r : Bool) → length (cond p (put sets (choose b 2 + a) c) (cond q (put sets (choose c 2 + a) b) (cond r (put sets (choose c 2 + b) a) sets))) ≡ 2016
      go true q r = simp length-set size
      go false true r = simp length-set size
      go false false true = simp length-set size
      go false false false = size

  -- its three sets
  told_now : (v : ℕ) → Told v a b c false sets → Told v a b c true (marked v a b c sets)
  told_now v t = go (ℕ_discrete v 1) (ℕ_discrete v 2) (ℕ_discrete v 3)
    where
      go : Dec (v ≡ 1) → Dec (v ≡ 2) → Dec (v ≡ 3) → Told v a b c true (marked v a b c sets)
      go (yes e) _ _ =
          rw (marked_one a b c sets v e)
          (record {
            one = put_same sets (choose b 2 + a) c room_one ∙ rw (eq-eqb v 1 e);
            two = put_other sets (choose b 2 + a) c (choose c 2 + a) b room_one (λ p q. omega arith) ∙ t.two ∙ rw (ne_eqb v 2 (λ f. absurd (omega arith)));
            three = put_other sets (choose b 2 + a) c (choose c 2 + b) a room_one (λ p q. omega arith) ∙ t.three ∙ rw (ne_eqb v 3 (λ f. absurd (omega arith)));
          })
      go (no n1) (yes e) _ =
          rw (marked_two a b c sets v e)
          (record {
            one = put_other sets (choose c 2 + a) b (choose b 2 + a) c room_two (λ p q. omega arith) ∙ t.one ∙ rw (ne_eqb v 1 n1);
            two = put_same sets (choose c 2 + a) b room_two ∙ rw (eq-eqb v 2 e);
            three = put_other sets (choose c 2 + a) b (choose c 2 + b) a room_two (λ p q. omega arith) ∙ t.three ∙ rw (ne_eqb v 3 (λ f. absurd (omega arith)));
          })
      go (no n1) (no n2) (yes e) =
          rw (marked_three a b c sets v e)
          (record {
            one = put_other sets (choose c 2 + b) a (choose b 2 + a) c room_three (λ p q. omega arith) ∙ t.one ∙ rw (ne_eqb v 1 n1);
            two = put_other sets (choose c 2 + b) a (choose c 2 + a) b room_three (λ p q. omega arith) ∙ t.two ∙ rw (ne_eqb v 2 n2);
            three = put_same sets (choose c 2 + b) a room_three ∙ rw (eq-eqb v 3 e);
          })
      go (no n1) (no n2) (no n3) =
          rw (marked_none a b c sets v n1 n2 n3)
          (record { one = t.one ∙ rw (ne_eqb v 1 n1); two = t.two ∙ rw (ne_eqb v 2 n2); three = t.three ∙ rw (ne_eqb v 3 n3) })

  -- and those of another four
  told_still : (v w i j l : ℕ) (done : Bool) → i < j → j < l → l < 64 → l * 4096 + j * 64 + i ≢ c * 4096 + b * 64 + a → Told w i j l done sets
      → Told w i j l done (marked v a b c sets)
  told_still v w i j l done ij jl lt d t = go (ℕ_discrete v 1) (ℕ_discrete v 2) (ℕ_discrete v 3)
    where
      put_still : (p u : ℕ) → p < length sets → (choose j 2 + i ≡ p → l ≡ u → ⊥) → (choose l 2 + i ≡ p → j ≡ u → ⊥) → (choose l 2 + j ≡ p → i ≡ u → ⊥) → Told w i j l done (put sets p u)
      put_still p u room f g h =
          record {
            one = put_other sets p u (choose j 2 + i) l room f ∙ t.one;
            two = put_other sets p u (choose l 2 + i) j room g ∙ t.two;
            three = put_other sets p u (choose l 2 + j) i room h ∙ t.three;
          }

      go : Dec (v ≡ 1) → Dec (v ≡ 2) → Dec (v ≡ 3) → Told w i j l done (marked v a b c sets)
      go (yes e) _ _ = rw (marked_one a b c sets v e) (put_still (choose b 2 + a) c room_one (λ e f. omega (arith, pair_is i j a b (omega arith) (omega arith) e)) (λ e f. omega (arith, pair_is i l a b (omega arith) (omega arith) e)) (λ e f. omega (arith, pair_is j l a b (omega arith) (omega arith) e)))
      go (no n1) (yes e) _ = rw (marked_two a b c sets v e) (put_still (choose c 2 + a) b room_two (λ e f. omega (arith, pair_is i j a c (omega arith) (omega arith) e)) (λ e f. omega (arith, pair_is i l a c (omega arith) (omega arith) e)) (λ e f. omega (arith, pair_is j l a c (omega arith) (omega arith) e)))
      go (no n1) (no n2) (yes e) = rw (marked_three a b c sets v e) (put_still (choose c 2 + b) a room_three (λ e f. omega (arith, pair_is i j b c (omega arith) (omega arith) e)) (λ e f. omega (arith, pair_is i l b c (omega arith) (omega arith) e)) (λ e f. omega (arith, pair_is j l b c (omega arith) (omega arith) e)))
      go (no n1) (no n2) (no n3) = rw (marked_none a b c sets v n1 n2 n3) t

-- ALL BYTES of x, in the order of their places
ltb_next : (m k : ℕ) → m ≢ k → ltb m (k + 1) ≡ ltb m k
ltb_next m k d = go (dec_lt m k)
  where
    go : Dec (m < k) → ltb m (k + 1) ≡ ltb m k
    go (yes h) = lt-ltb m (k + 1) (omega arith) ∙ sym (lt-ltb m k h)
    go (no h) = le-ltb m (k + 1) (omega arith) ∙ sym (le-ltb m k (omega arith))

ltb_jump : (m k h : ℕ) → k ≤ h → (k ≤ m → h ≤ m) → ltb m h ≡ ltb m k
ltb_jump m k h l f = go (dec_lt m k)
  where
    go : Dec (m < k) → ltb m h ≡ ltb m k
    go (yes q) = lt-ltb m h (omega arith) ∙ sym (lt-ltb m k q)
    go (no q) = le-ltb m h (f (omega arith)) ∙ sym (le-ltb m k (omega arith))

module _ (bytes : List ℕ) (x : ℕ) (few : x ≤ 64) where
  pub filled_none : (sets : List ℕ) → length sets ≡ 2016 → ((p : ℕ) → p < 2016 → get_or sets p 0 ≡ 0) → Filled bytes x (2 * 4096 + 64) sets
  filled_none sets size none = record { size = size; told = told }
    where
      told : (i j l : ℕ) → i < j → j < l → l < x → Told (get_or bytes (place i j l x) 0) i j l (ltb (l * 4096 + j * 64 + i) (2 * 4096 + 64)) sets
      told i j l ij jl lx =
          rw (le-ltb (l * 4096 + j * 64 + i) (2 * 4096 + 64) (omega arith))
          (record {
            one = zero_at_law (choose j 2 + i) l (pair_below i j ij (omega arith));
            two = zero_at_law (choose l 2 + i) j (pair_below i l (omega arith) (omega arith));
            three = zero_at_law (choose l 2 + j) i (pair_below j l jl (omega arith));
          })
        where
          zero_at_law : (p u : ℕ) → p < 2016 → bit (get_or sets p 0) u ≡ 0
          zero_at_law p u h = ap (λ (n : ℕ). bit n u) (none p h) ∙ bit_none u

  pub filled_turn : (a b c v : ℕ) (sets next : List ℕ) → a < b → b < c → c < x → v ≡ get_or bytes (place a b c x) 0 → Filled bytes x (c * 4096 + b * 64 + a) sets
      → next ≡ marked v a b c sets → Filled bytes x (c * 4096 + b * 64 + (a + 1)) next
  filled_turn a b c v sets next ab bc cx ev f en =
      rw en (record { size = marked_size a b c ab bc (omega arith) sets f.size v; told = λ i j l ij jl lx. told i j l ij jl lx (ℕ_discrete (l * 4096 + j * 64 + i) (c * 4096 + b * 64 + a)) })
    where
      told : (i j l : ℕ) → i < j → j < l → l < x → Dec (l * 4096 + j * 64 + i ≡ c * 4096 + b * 64 + a)
          → Told (get_or bytes (place i j l x) 0) i j l (ltb (l * 4096 + j * 64 + i) (c * 4096 + b * 64 + (a + 1))) (marked v a b c sets)
      told i j l ij jl lx (no d) =
          let e : c * 4096 + b * 64 + (a + 1) ≡ c * 4096 + b * 64 + a + 1 = omega arith in
          rw (e, ltb_next (l * 4096 + j * 64 + i) (c * 4096 + b * 64 + a) d)
          (told_still a b c ab bc (omega arith) sets f.size v (get_or bytes (place i j l x) 0) i j l _ ij jl (omega arith) d (f.told i j l ij jl lx))
      told i j l ij jl lx (yes d) =
          let el : c ≡ l = omega arith in
          let ej : b ≡ j = omega arith in
          let ei : a ≡ i = omega arith in
          subst (λ (l : ℕ). Told (get_or bytes (place i j l x) 0) i j l (ltb (l * 4096 + j * 64 + i) (c * 4096 + b * 64 + (a + 1))) (marked v a b c sets)) el
          (subst (λ (j : ℕ). Told (get_or bytes (place i j c x) 0) i j c (ltb (c * 4096 + j * 64 + i) (c * 4096 + b * 64 + (a + 1))) (marked v a b c sets)) ej
          (subst (λ (i : ℕ). Told (get_or bytes (place i b c x) 0) i b c (ltb (c * 4096 + b * 64 + i) (c * 4096 + b * 64 + (a + 1))) (marked v a b c sets)) ei
          (rw (lt-ltb (c * 4096 + b * 64 + a) (c * 4096 + b * 64 + (a + 1)) (omega arith))
          (subst (λ (t : ℕ). Told t a b c true (marked v a b c sets)) ev
          (told_now a b c ab bc (omega arith) sets f.size v
          (subst (λ (t : ℕ). Told t a b c false sets) (sym ev)
          (rw (le-ltb (c * 4096 + b * 64 + a) (c * 4096 + b * 64 + a) (omega arith)) at (f.told a b c ab bc cx))))))))

  -- no four lies between the end of a row and the next
  filled_jump : (k h : ℕ) (sets : List ℕ) → k ≤ h → ((i j l : ℕ) → i < j → j < l → l < x → k ≤ l * 4096 + j * 64 + i → h ≤ l * 4096 + j * 64 + i)
      → Filled bytes x k sets → Filled bytes x h sets
  filled_jump k h sets l none f =
      record { size = f.size; told = λ i j m ij jm mx. rw (ltb_jump (m * 4096 + j * 64 + i) k h l (none i j m ij jm mx)) (f.told i j m ij jm mx) }

  pub rows_end : (c : ℕ) (sets : List ℕ) → 2 ≤ c → c < x → Filled bytes x (c * 4096 + c * 64) sets → Filled bytes x ((c + 1) * 4096 + 64) sets
  rows_end c sets c2 cx f = filled_jump (c * 4096 + c * 64) ((c + 1) * 4096 + 64) sets (omega arith) (λ i j l ij jl lx h. omega arith) f

  pub prepared : (c : ℕ) (sets : List ℕ) → x ≤ c → Filled bytes x (c * 4096 + 64) sets → Prepared bytes x sets
  prepared c sets xc f i j l ij jl lx =
      rw (lt-ltb (l * 4096 + j * 64 + i) (c * 4096 + 64) (omega arith)) at (f.told i j l ij jl lx)
