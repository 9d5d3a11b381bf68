-- The trial by sets: a side that is in the set of each two taxa of the other side is what the trial asks. Assumes nothing.
use Prim.Native.Nat.{ℕ, suc, ◌+◌, ◌^◌, ◌≤◌, ◌<◌, min, max}
use native.Mathlib.Omega.{arith}
use native.Mathlib.Decide.{dec_lt, ℕ_discrete}
use mathlib.Core.Path.{◌≡◌, refl, sym, ◌∙◌, ap, subst}
use mathlib.Core.Logic.{◌≢◌, ◌↔◌}
use mathlib.Core.Bool.{Bool, true, false, cond}
use mathlib.Core.List.{List}
use lib.Bits.{bit_and, and_le_l}
use lib.Dec.{eqb, leb→le, le→leb}
use lib.ListN.{get_or}
use lib.IntN.{ℤ, pos}
use lib.Signed.{◌≤ℤ◌}
use borrow.Author.Tests.{eq-eqb, eqb-true, lt-ltb, le-ltb}
use Rattle.statement.specs.Cluster.{bit, In}
use Rattle.statement.specs.Table.{choose, place, ordered, lower_first, stands, table_weight}
use Rattle.statement.specs.Growing.{table_trial}
use Rattle.statement.proofs.Bits.{bit_lt, bit_none, lt_bit, bit_ext}
use Rattle.statement.proofs.Mask.{bit_and_law}
use Rattle.statement.proofs.Instances.{table_rule}
use Rattle.statement.proofs.Lesser.{same_below}
use Rattle.statement.proofs.Parts.{Parted, parted_distinct}
use Rattle.statement.proofs.Trial.{Anchored, stands_one, table_trial_law}
use Rattle.bits.specs.Members.{Members, Side}
use Rattle.table_trial.specs.Sets.{Prepared, RowsHold}

-- WHERE THE TABLE HAS xu|pq, for p<q and u below x
module _ (bytes : List ℕ) (x u p q : ℕ) (pq : p < q) (qx : q < x) where
  stands_low : u < p → stands bytes x u p q ≡ eqb (get_or bytes (place u p q x) 0) 3
  unfolding lower_first ordered
  stands_low h =
      let e1 : min x u ≡ u = omega arith in
      let e2 : max x u ≡ x = omega arith in
      let e3 : min p q ≡ p = omega arith in
      let e4 : max p q ≡ q = omega arith in
      rw (e1, e2, e3, e4, lt-ltb u p h, le-ltb x p (omega arith), le-ltb x q (omega arith))

  stands_mid : p < u → u < q → stands bytes x u p q ≡ eqb (get_or bytes (place p u q x) 0) 2
  unfolding lower_first ordered
  stands_mid h g =
      let e1 : min x u ≡ u = omega arith in
      let e2 : max x u ≡ x = omega arith in
      let e3 : min p q ≡ p = omega arith in
      let e4 : max p q ≡ q = omega arith in
      rw (e1, e2, e3, e4, le-ltb u p (omega arith), le-ltb q u (omega arith), lt-ltb q x qx)

  stands_high : q < u → u < x → stands bytes x u p q ≡ eqb (get_or bytes (place p q u x) 0) 1
  unfolding lower_first ordered
  stands_high h g =
      let e1 : min x u ≡ u = omega arith in
      let e2 : max x u ≡ x = omega arith in
      let e3 : min p q ≡ p = omega arith in
      let e4 : max p q ≡ q = omega arith in
      rw (e1, e2, e3, e4, le-ltb u p (omega arith), lt-ltb q u h)

  -- the set of p and q says so
  set_bit : (sets : List ℕ) → Prepared bytes x sets → u < x → u ≢ p → u ≢ q → bit (get_or sets (choose q 2 + p) 0) u ≡ cond (stands bytes x u p q) 1 0
  set_bit sets prepared ux up uq = go (dec_lt u p) (dec_lt u q)
    where
      go : Dec (u < p) → Dec (u < q) → bit (get_or sets (choose q 2 + p) 0) u ≡ cond (stands bytes x u p q) 1 0
      go (yes h) _ = (prepared u p q h pq qx).three ∙ ap (λ (b : Bool). cond {A = ℕ} b 1 0) (sym (stands_low h))
      go (no h) (yes g) = (prepared p u q (omega arith) g qx).two ∙ ap (λ (b : Bool). cond {A = ℕ} b 1 0) (sym (stands_mid (omega arith) g))
      go (no h) (no g) = (prepared p q u pq (omega arith) ux).one ∙ ap (λ (b : Bool). cond {A = ℕ} b 1 0) (sym (stands_high (omega arith) ux))

stands_swap : (bytes : List ℕ) (x u p q : ℕ) → stands bytes x u p q ≡ stands bytes x u q p
stands_swap bytes x u p q =
    let e : min p q ≡ min q p = omega arith in
    let f : max p q ≡ max q p = omega arith in
    rw (e, f)

-- a group is part of a set
part_of : (x side set : ℕ) → bit_and side set ≡ side → (u : ℕ) → In side u → In set u
part_of x side set e u h = omega (arith, bit_and_law side set u, ap (λ (n : ℕ). bit n u) e, bit_lt set u)

of_part : (x side set : ℕ) → side < 2 ^ x → ((u : ℕ) → u < x → In side u → In set u) → bit_and side set ≡ side
of_part x side set below f = bit_ext x (bit_and side set) side (omega (arith, and_le_l side set)) below (λ i l. bit_and_law side set i ∙ go i l (dec_lt (bit side i) 1))
  where
    go : (i : ℕ) → i < x → Dec (bit side i < 1) → min (bit side i) (bit set i) ≡ bit side i
    go i l (yes h) = omega arith
    go i l (no h) = omega (arith, bit_lt side i, f i l (omega (arith, bit_lt side i)))

one_or_none : (b : Bool) → cond {A = ℕ} b 1 0 ≡ 1 → b ≡ true
one_or_none true e = refl
one_or_none false e = absurd (omega arith)

-- what a rule asks of one four: t is at most 1, and it stands
asked_one : (t : ℕ) (b : Bool) → 1 ≤ t → pos t ≤ℤ pos (cond b table_weight 0) → (t ≤ 1) × (b ≡ true)
asked_one t true pt h = (leb→le t 1 h.le, refl)
asked_one t false pt h = absurd (omega (arith, leb→le t 0 h.le))

module _ (n : ℕ) (bytes : List ℕ) (x c w side : ℕ) (sets taxa : List ℕ) (count : ℕ) (prepared : Prepared bytes x sets) (members : Members x x c taxa count)
    (own : Side x c side) where
  -- the fours of the rule, for u on x's side and p<q on the other
  asked : (t u p q : ℕ) → 1 ≤ t → Anchored (table_rule n bytes) t (suc x) x c → u < x → bit c u ≡ bit c x → p < x → bit c p ≢ bit c x → q < x → bit c q ≢ bit c x → p ≢ q
      → (t ≤ 1) × (stands bytes x u p q ≡ true)
  asked t u p q pt h lu eu lp ep lq eq d =
      let parted : Parted c x u p q = record { x_side = eu; y_side = ep; z_side = eq } in
      let distinct = parted_distinct parted (λ e. omega arith) d in
      asked_one t (stands bytes x u p q) pt
      (subst (λ (v : ℤ). pos t ≤ℤ v) (stands_one bytes x u p q distinct) (h u p q (omega arith) (omega arith) (omega arith) parted distinct))

  on_own : (u : ℕ) → u < x → In side u → bit c u ≡ bit c x
  on_own u l h = eqb-true (bit c u) (bit c x) (one_or_none (eqb (bit c u) (bit c x)) (sym (own.has u l) ∙ h))

  in_own : (u : ℕ) → u < x → bit c u ≡ bit c x → In side u
  in_own u l e = own.has u l ∙ rw (eq-eqb (bit c u) (bit c x) e)

  anchored_holds : (t : ℕ) → 1 ≤ t → Anchored (table_rule n bytes) t (suc x) x c → RowsHold side count taxa sets
  anchored_holds t pt h i li j lj =
      let q = get_or taxa i 0 in
      let p = get_or taxa j 0 in
      let (lq, eq) = members.each i li in
      let (lp, ep) = members.each j (omega arith) in
      let pq = members.up i j li lj in
      of_part x side (get_or sets (choose q 2 + p) 0) own.below
      (λ u lu s.
      let eu = on_own u lu s in
      let stood = (asked t u p q pt h lu eu lp ep lq eq (λ e. omega arith)).1 in
      set_bit bytes x u p q pq lq sets prepared lu (λ e. ep (subst (λ (v : ℕ). bit c v ≡ bit c x) e eu)) (λ e. eq (subst (λ (v : ℕ). bit c v ≡ bit c x) e eu))
      ∙ rw stood)

  holds_stands : RowsHold side count taxa sets → (u p q : ℕ) → u < x → bit c u ≡ bit c x → p < q → q < x → bit c p ≢ bit c x → bit c q ≢ bit c x → stands bytes x u p q ≡ true
  holds_stands h u p q lu eu pq lq ep eq =
      let (i, li, ei) = members.all q lq eq in
      let (j, lj, ej) = members.all p (omega arith) ep in
      go i j li lj ei ej (dec_lt j i)
    where
      go : (i j : ℕ) → i < count → j < count → get_or taxa i 0 ≡ q → get_or taxa j 0 ≡ p → Dec (j < i) → stands bytes x u p q ≡ true
      go i j li lj ei ej (yes l) =
          let held : bit_and side (get_or sets (choose q 2 + p) 0) ≡ side = rw (ei, ej) at (h i li j l) in
          let there = part_of x side (get_or sets (choose q 2 + p) 0) held u (in_own u lu eu) in
          one_or_none (stands bytes x u p q)
          (sym (set_bit bytes x u p q pq lq sets prepared lu (λ e. ep (subst (λ (v : ℕ). bit c v ≡ bit c x) e eu)) (λ e. eq (subst (λ (v : ℕ). bit c v ≡ bit c x) e eu))) ∙ there)
      go i j li lj ei ej (no l) = wrong (ℕ_discrete i j)
        where
          wrong : Dec (i ≡ j) → stands bytes x u p q ≡ true
          wrong (yes e) = absurd (omega (arith, ap (λ (g : ℕ). get_or taxa g 0) e))
          wrong (no e) = absurd (omega (arith, members.up j i lj (omega arith)))

  -- a taxon of the other side is no newcomer
  earlier : (y : ℕ) → y < suc x → bit c y ≢ bit c x → y < x
  earlier y l e = let d : y ≢ x = λ f. e (ap (bit c) f) in omega arith

  holds_anchored : RowsHold side count taxa sets → (t : ℕ) → t ≤ 1 → Anchored (table_rule n bytes) t (suc x) x c
  holds_anchored h t lt u y z lu ly lz parted distinct =
      subst (λ (v : ℤ). pos t ≤ℤ v) (sym (stands_one bytes x u y z distinct))
      (rw (go (dec_lt y z)) (record { le = le→leb t 1 lt }))
    where
      ux : u < x
      ux = let d : u ≢ x = λ e. distinct.wx (sym e) in omega arith

      go : Dec (y < z) → stands bytes x u y z ≡ true
      go (yes l) = holds_stands h u y z ux parted.x_side l (earlier z lz parted.z_side) parted.y_side parted.z_side
      go (no l) =
          let d : y ≢ z = distinct.yz in
          stands_swap bytes x u y z ∙ holds_stands h u z y ux parted.x_side (omega arith) (earlier y ly parted.y_side) parted.z_side parted.y_side

  meant : (t : ℕ) → 1 ≤ t → (t ≤ table_trial bytes (suc x) x c w) ↔ ((t ≤ w) × Anchored (table_rule n bytes) t (suc x) x c)
  meant t pt = table_trial_law n bytes (suc x) x c w t pt

  pub trial_fails : (RowsHold side count taxa sets → ⊥) → 0 ≡ table_trial bytes (suc x) x c w
  trial_fails f =
      same_below 0 (table_trial bytes (suc x) x c w) (λ t pt. ((λ h. absurd (omega arith)), (λ h. absurd (f (anchored_holds t pt ((meant t pt).0 h).1)))))

  pub trial_holds : RowsHold side count taxa sets → 2 ≤ count → side ≢ 0 → {r : ℕ} → r ≡ min w 1 → r ≡ table_trial bytes (suc x) x c w
  trial_holds h two some {r} e =
      same_below r (table_trial bytes (suc x) x c w)
      (λ t pt. (
        (λ l. (meant t pt).1 (omega arith, holds_anchored h t (omega arith))),
        (λ l. let p = (meant t pt).0 l in omega (arith, p.0, most t pt p.1)),
      ))
    where
      most : (t : ℕ) → 1 ≤ t → Anchored (table_rule n bytes) t (suc x) x c → t ≤ 1
      most t pt a =
          let (u, lu, _, s) = lt_bit x 0 side (omega arith) own.below in
          let (lp, ep) = members.each 0 (omega arith) in
          let (lq, eq) = members.each 1 (omega arith) in
          (asked t u (get_or taxa 0 0) (get_or taxa 1 0) pt a lu (on_own u lu s) lp ep lq eq (λ e. omega (arith, members.up 1 0 (omega arith) (omega arith)))).0

  pub trial_few : count < 2 → w ≡ table_trial bytes (suc x) x c w
  trial_few l = same_below w (table_trial bytes (suc x) x c w) (λ t pt. ((λ h. (meant t pt).1 (h, none t)), (λ h. ((meant t pt).0 h).0)))
    where
      none : (t : ℕ) → Anchored (table_rule n bytes) t (suc x) x c
      none t u y z lu ly lz parted distinct =
          let (i, li, ei) = members.all y (earlier y ly parted.y_side) parted.y_side in
          let (j, lj, ej) = members.all z (earlier z lz parted.z_side) parted.z_side in
          let e : i ≡ j = omega arith in
          absurd (distinct.yz (sym ei ∙ ap (λ (g : ℕ). get_or taxa g 0) e ∙ ej))

  pub trial_alone : side ≡ 0 → w ≡ table_trial bytes (suc x) x c w
  trial_alone l = same_below w (table_trial bytes (suc x) x c w) (λ t pt. ((λ h. (meant t pt).1 (h, none t)), (λ h. ((meant t pt).0 h).0)))
    where
      none : (t : ℕ) → Anchored (table_rule n bytes) t (suc x) x c
      none t u y z lu ly lz parted distinct =
          let ux : u < x = let d : u ≢ x = λ e. distinct.wx (sym e) in omega arith in
          absurd (omega (arith, in_own u ux parted.x_side, ap (λ (m : ℕ). bit m u) l, bit_none u))
