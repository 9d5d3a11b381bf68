-- The rows with every trivial split put in, by their clusters and their weights. Assumes nothing.
use Prim.Native.Nat.{ℕ, zero, suc, ◌+◌, ◌-◌, ◌^◌, ◌≤◌, ◌<◌}
use native.Mathlib.Omega.{arith}
use native.Mathlib.Decide.{dec_lt}
use mathlib.Core.Path.{◌≡◌, refl, sym, ◌∙◌, ap, subst}
use mathlib.Core.Logic.{◌≢◌, ◌⊎◌, inl, inr, ◌↔◌}
use mathlib.Core.Bool.{Bool, true, false, cond}
use mathlib.Core.List.{List, [], ◌∷◌}
use lib.Dec.{T, ltb, eqb}
use lib.Pow.{pow_pos, pow-lt}
use borrow.Author.Tests.{eqb-true, eqb-false, ltb-true, ltb-false, eq-eqb, ne_eqb}
use Rattle.statement.specs.Cluster.{bit, Out, Split, Conflict}
use Rattle.statement.specs.Rows.{Ascending, Mem, Row, row, clusters, weight_in}
use Rattle.statement.proofs.Answer.{Clean, ins, fill_to, fill}
use Rattle.statement.proofs.Instances.{trivial}
use Rattle.statement.proofs.Bits.{bit_zero}
use Rattle.statement.proofs.Single.{trivial_cases, trivial_rest, trivial_pow, trivial_single, single_clean, pow_self, pow_other}
use Rattle.statement.specs.Growing.{put_in, with_singles, with_trivial}

-- CLUSTERS put in at their place
pub ins_mem : (x c : ℕ) (ys : List ℕ) → Mem c (ins x ys) ↔ ((c ≡ x) ⊎ Mem c ys)
unfolding ins
ins_mem x c [] = ((λ m. m), (λ m. m))
ins_mem x c (y ∷ ys) = go (ltb x y) (eqb x y) refl (ins_mem x c ys)
  where
    go : (b e : Bool) → eqb x y ≡ e → Mem c (ins x ys) ↔ ((c ≡ x) ⊎ Mem c ys)
        → Mem c (cond b (x ∷ y ∷ ys) (cond e (y ∷ ys) (y ∷ ins x ys))) ↔ ((c ≡ x) ⊎ ((c ≡ y) ⊎ Mem c ys))
    go true e q ih = ((λ m. m), (λ m. m))
    go false true q ih = ((λ m. inr m), (λ m. elim m [ inl a ↦ inl (a ∙ eqb-true x y q) | inr b ↦ b ]))
    go false false q ih = (there, back)
      where
        there : (c ≡ y) ⊎ Mem c (ins x ys) → (c ≡ x) ⊎ ((c ≡ y) ⊎ Mem c ys)
        there (inl a) = inr (inl a)
        there (inr m) = elim (ih.0 m) [ inl a ↦ inl a | inr b ↦ inr (inr b) ]

        back : (c ≡ x) ⊎ ((c ≡ y) ⊎ Mem c ys) → (c ≡ y) ⊎ Mem c (ins x ys)
        back (inl a) = inr (ih.1 (inl a))
        back (inr (inl a)) = inl a
        back (inr (inr m)) = inr (ih.1 (inr m))

pub ins_asc : (x lo hi : ℕ) (ys : List ℕ) → lo ≤ x → x < hi → Ascending lo hi ys → Ascending lo hi (ins x ys)
unfolding ins
ins_asc x lo hi [] l h a = (l, h)
ins_asc x lo hi (y ∷ ys) l h a = go (ltb x y) refl (eqb x y) refl (λ m. ins_asc x (suc y) hi ys m h a.1)
  where
    go : (b : Bool) → ltb x y ≡ b → (e : Bool) → eqb x y ≡ e → (suc y ≤ x → Ascending (suc y) hi (ins x ys)) → Ascending lo hi (cond b (x ∷ y ∷ ys) (cond e (y ∷ ys) (y ∷ ins x ys)))
    go true p e q ih = (l, (ltb-true x y p, a.1))
    go false p true q ih = a
    go false p false q ih = (a.0, ih (let m = ltb-false x y p in let g = eqb-false x y q in omega arith))

abbrev Below : ℕ → ℕ → Type 0
Below k c = (i : ℕ) × (0 < i) × (i < k) × (c ≡ 2 ^ i)

fill_step : (k c : ℕ) (some rows : List ℕ) → 0 < k → Mem c some ↔ (Below k c ⊎ Mem c rows) → Mem c (ins (2 ^ k) some) ↔ (Below (suc k) c ⊎ Mem c rows)
fill_step k c some rows pk ih = ((λ m. there ((ins_mem (2 ^ k) c some).0 m)), (λ h. (ins_mem (2 ^ k) c some).1 (back h)))
  where
    there : (c ≡ 2 ^ k) ⊎ Mem c some → Below (suc k) c ⊎ Mem c rows
    there (inl e) = inl (k, pk, omega arith, e)
    there (inr m) = elim (ih.0 m) [ inl q ↦ inl (q.0, q.1, omega (arith, q.2), q.3) | inr b ↦ inr b ]

    back : Below (suc k) c ⊎ Mem c rows → (c ≡ 2 ^ k) ⊎ Mem c some
    back (inr m) = inr (ih.1 (inr m))
    back (inl (i, p, l, e)) = at (dec_lt i k)
      where
        at : Dec (i < k) → (c ≡ 2 ^ k) ⊎ Mem c some
        at (yes m) = inr (ih.1 (inl (i, p, m, e)))
        at (no m) = let q : i ≡ k = omega arith in inl (e ∙ ap (λ (x : ℕ). 2 ^ x) q)

fill_to_mem : (k c : ℕ) (rows : List ℕ) → Mem c (fill_to k rows) ↔ (Below k c ⊎ Mem c rows)
unfolding fill_to
fill_to_mem zero c rows = ((λ m. inr m), (λ m. elim m [ inl q ↦ absurd (omega (arith, q.1, q.2)) | inr b ↦ b ]))
fill_to_mem (suc zero) c rows = ((λ m. inr m), (λ m. elim m [ inl q ↦ absurd (omega (arith, q.1, q.2)) | inr b ↦ b ]))
fill_to_mem (suc (suc k)) c rows = fill_step (suc k) c (fill_to (suc k) rows) rows (omega arith) (fill_to_mem (suc k) c rows)

pub fill_to_asc : (k hi : ℕ) (rows : List ℕ) → 2 ^ k ≤ hi → Ascending 1 hi rows → Ascending 1 hi (fill_to k rows)
unfolding fill_to
fill_to_asc zero hi rows h a = a
fill_to_asc (suc zero) hi rows h a = a
fill_to_asc (suc (suc k)) hi rows h a =
    ins_asc (2 ^ suc k) 1 hi (fill_to (suc k) rows) (omega (arith, pow_pos k)) (omega (arith, pow_pos k)) (fill_to_asc (suc k) hi rows (omega arith) a)

pub fill_asc : (k : ℕ) (rows : List ℕ) → Ascending 1 (2 ^ k) rows → Ascending 1 (2 ^ k) (fill k rows)
unfolding fill
fill_asc zero rows a = a
fill_asc (suc zero) rows a = a
fill_asc (suc (suc k)) rows a =
    ins_asc (2 ^ suc (suc k) - 2) 1 (2 ^ suc (suc k)) (fill_to (suc (suc k)) rows) (omega (arith, pow_pos k)) (omega (arith, pow_pos k))
    (fill_to_asc (suc (suc k)) (2 ^ suc (suc k)) rows (omega arith) a)

-- THE PARENTS: the rows, and every trivial split, listed or not
pub fill_mem : (k c : ℕ) (rows : List ℕ) → Mem c (fill k rows) ↔ ((Split k c × T (trivial k c)) ⊎ Mem c rows)
unfolding fill
fill_mem zero c rows = ((λ m. inr m), (λ h. elim h [ inl s ↦ absurd (omega (arith, s.0.some, s.0.below)) | inr b ↦ b ]))
fill_mem (suc zero) c rows = ((λ m. inr m), (λ h. elim h [ inl s ↦ absurd (omega (arith, s.0.some, s.0.below, s.0.free, bit_zero c)) | inr b ↦ b ]))
fill_mem (suc (suc k)) c rows = (λ m. there ((ins_mem _ c (fill_to (suc (suc k)) rows)).0 m), λ h. (ins_mem _ c (fill_to (suc (suc k)) rows)).1 (back h))
  where
    there : (c ≡ 2 ^ suc (suc k) - 2) ⊎ Mem c (fill_to (suc (suc k)) rows) → (Split (suc (suc k)) c × T (trivial (suc (suc k)) c)) ⊎ Mem c rows
    there (inl e) =
        inl (
          record { some = omega (arith, pow_pos k); below = omega (arith, pow_pos k); free = bit_zero c ∙ omega (arith, pow_pos k) },
          trivial_rest (suc (suc k)) c (omega (arith, pow_pos k)),
        )
    there (inr m) = elim ((fill_to_mem (suc (suc k)) c rows).0 m) [
      | inl q ↦ inl (
        record {
          some = omega (arith, q.3, pow_pos q.0);
          below = rw q.3 (pow-lt q.2);
          free = ap (λ (x : ℕ). bit x 0) q.3 ∙ pow_other q.0 0 (λ e. omega (arith, q.1));
        },
        trivial_pow (suc (suc k)) c q.0 q.2 q.3,
      )
      | inr b ↦ inr b
    ]

    back : (Split (suc (suc k)) c × T (trivial (suc (suc k)) c)) ⊎ Mem c rows → (c ≡ 2 ^ suc (suc k) - 2) ⊎ Mem c (fill_to (suc (suc k)) rows)
    back (inr m) = inr ((fill_to_mem (suc (suc k)) c rows).1 (inr m))
    back (inl (s, t)) = go (trivial_cases (suc (suc k)) c t)
      where
        go : (c + 2 ≡ 2 ^ suc (suc k)) ⊎ ((i : ℕ) × (i < suc (suc k)) × (c ≡ 2 ^ i)) → (c ≡ 2 ^ suc (suc k) - 2) ⊎ Mem c (fill_to (suc (suc k)) rows)
        go (inl e) = inl (omega arith)
        go (inr (zero, l, e)) = absurd (omega (arith, s.free, ap (λ (x : ℕ). bit x 0) e, pow_self 0))
        go (inr (suc i, l, e)) = inr ((fill_to_mem (suc (suc k)) c rows).1 (inl (suc i, omega arith, l, e)))

pub fill_well : (k : ℕ) (rows : List ℕ) → Clean k rows → Clean k (fill k rows)
fill_well k rows w = record { up = fill_asc k rows w.up; free = λ c m. free c ((fill_mem k c rows).0 m); clean = λ a b ma mb. clean a b ((fill_mem k a rows).0 ma) ((fill_mem k b rows).0 mb) }
  where
    free : (c : ℕ) → (Split k c × T (trivial k c)) ⊎ Mem c rows → Out c 0
    free c (inl s) = s.0.free
    free c (inr m) = w.free c m

    turn : (a b : ℕ) → Conflict k a b → Conflict k b a
    turn a b x = record {
      ii = (x.ii.0, x.ii.1, x.ii.3, x.ii.2);
      io = (x.oi.0, x.oi.1, x.oi.3, x.oi.2);
      oi = (x.io.0, x.io.1, x.io.3, x.io.2);
      oo = (x.oo.0, x.oo.1, x.oo.3, x.oo.2);
    }

    clean : (a b : ℕ) → (Split k a × T (trivial k a)) ⊎ Mem a rows → (Split k b × T (trivial k b)) ⊎ Mem b rows → Conflict k a b → ⊥
    clean a b (inl s) q x = let u = trivial_single k a s.0 s.1 in single_clean k a b u.0 u.2 x
    clean a b (inr m) (inl s) x = let u = trivial_single k b s.0 s.1 in single_clean k b a u.0 u.2 (turn a b x)
    clean a b (inr m) (inr n) x = w.clean a b m n x

-- ROWS put in, by their clusters and weights
clusters_put : (r : Row) (rows : List Row) → clusters (put_in r rows) ≡ ins r.cluster (clusters rows)
unfolding put_in ins
clusters_put r [] = refl
clusters_put r (x ∷ xs) = go (ltb r.cluster x.cluster) (eqb r.cluster x.cluster) refl (clusters_put r xs)
  where
    go : (b e : Bool) → eqb r.cluster x.cluster ≡ e → clusters (put_in r xs) ≡ ins r.cluster (clusters xs)
        → clusters (cond b (r ∷ (x ∷ xs)) (cond e (r ∷ xs) (x ∷ put_in r xs)))
        ≡ cond b (r.cluster ∷ x.cluster ∷ clusters xs) (cond e (x.cluster ∷ clusters xs) (x.cluster ∷ ins r.cluster (clusters xs)))
    go true e q ih = refl
    go false true q ih = ap (λ (c : ℕ). c ∷ clusters xs) (eqb-true r.cluster x.cluster q)
    go false false q ih = ap (λ (l : List ℕ). x.cluster ∷ l) ih

clusters_singles : (most k : ℕ) (rows : List Row) → clusters (with_singles most k rows) ≡ fill_to k (clusters rows)
unfolding with_singles fill_to
clusters_singles most zero rows = refl
clusters_singles most (suc zero) rows = refl
clusters_singles most (suc (suc k)) rows =
    clusters_put _ (with_singles most (suc k) rows) ∙ ap (ins (2 ^ suc k)) (clusters_singles most (suc k) rows)

pub clusters_trivial : (most k : ℕ) (rows : List Row) → clusters (with_trivial most k rows) ≡ fill k (clusters rows)
unfolding with_trivial fill
clusters_trivial most zero rows = refl
clusters_trivial most (suc zero) rows = refl
clusters_trivial most (suc (suc k)) rows =
    clusters_put (row (2 ^ suc (suc k) - 2) most) (with_singles most (suc (suc k)) rows) ∙ ap (ins (2 ^ suc (suc k) - 2)) (clusters_singles most (suc (suc k)) rows)

weight_put : (c w : ℕ) (rows : List Row) (p : ℕ) → weight_in (put_in (row c w) rows) p ≡ cond (eqb c p) w (weight_in rows p)
unfolding put_in
weight_put c w [] p = refl
weight_put c w (x ∷ xs) p = go (ltb c x.cluster) (eqb c x.cluster) refl (weight_put c w xs p)
  where
    go : (b e : Bool) → eqb c x.cluster ≡ e → weight_in (put_in (row c w) xs) p ≡ cond (eqb c p) w (weight_in xs p)
        → weight_in (cond b (row c w ∷ (x ∷ xs)) (cond e (row c w ∷ xs) (x ∷ put_in (row c w) xs))) p
        ≡ cond (eqb c p) w (cond (eqb x.cluster p) x.weight (weight_in xs p))
    go true e q ih = refl
    go false true q ih = same (eqb c p) refl
      where
        same : (b : Bool) → eqb c p ≡ b → cond b w (weight_in xs p) ≡ cond b w (cond (eqb x.cluster p) x.weight (weight_in xs p))
        same true h = refl
        same false h = sym (rw (ne_eqb x.cluster p (λ z. eqb-false c p h (eqb-true c x.cluster q ∙ z))))
    go false false q ih = rw ih (other (eqb c p) refl (eqb x.cluster p) refl)
      where
        other : (b : Bool) → eqb c p ≡ b → (e : Bool) → eqb x.cluster p ≡ e
            → cond e x.weight (cond b w (weight_in xs p)) ≡ cond b w (cond e x.weight (weight_in xs p))
        other true h true z = absurd (eqb-false c x.cluster q (eqb-true c p h ∙ sym (eqb-true x.cluster p z)))
        other true h false z = refl
        other false h true z = refl
        other false h false z = refl

put_same : (c w : ℕ) (rows : List Row) → weight_in (put_in (row c w) rows) c ≡ w
put_same c w rows = weight_put c w rows c ∙ rw (eq-eqb c c refl)

put_other : (c w : ℕ) (rows : List Row) (p : ℕ) → c ≢ p → weight_in (put_in (row c w) rows) p ≡ weight_in rows p
put_other c w rows p d = weight_put c w rows p ∙ rw (ne_eqb c p d)

put_keeps : (c w : ℕ) (rows : List Row) (p : ℕ) → weight_in rows p ≡ w → weight_in (put_in (row c w) rows) p ≡ w
put_keeps c w rows p e = weight_put c w rows p ∙ go (eqb c p)
  where
    go : (b : Bool) → cond b w (weight_in rows p) ≡ w
    go true = refl
    go false = e

module _ (most : ℕ) (rows : List Row) where
  single_at : (k i : ℕ) → 0 < i → i < k → weight_in (with_singles most k rows) (2 ^ i) ≡ most
  unfolding with_singles
  single_at zero i p l = absurd (omega arith)
  single_at (suc zero) i p l = absurd (omega arith)
  single_at (suc (suc k)) i p l = go (dec_lt i (suc k)) (λ m. single_at (suc k) i p m)
    where
      go : Dec (i < suc k) → (i < suc k → weight_in (with_singles most (suc k) rows) (2 ^ i) ≡ most)
          → weight_in (put_in (row (2 ^ suc k) most) (with_singles most (suc k) rows)) (2 ^ i) ≡ most
      go (yes m) ih = put_keeps (2 ^ suc k) most (with_singles most (suc k) rows) (2 ^ i) (ih m)
      go (no m) ih =
          let e : suc k ≡ i = omega arith in
          subst (λ (j : ℕ). weight_in (put_in (row (2 ^ suc k) most) (with_singles most (suc k) rows)) (2 ^ j) ≡ most) e (put_same (2 ^ suc k) most (with_singles most (suc k) rows))

  single_other : (k p : ℕ) → ((i : ℕ) → i < k → p ≢ 2 ^ i) → weight_in (with_singles most k rows) p ≡ weight_in rows p
  unfolding with_singles
  single_other zero p d = refl
  single_other (suc zero) p d = refl
  single_other (suc (suc k)) p d =
      put_other (2 ^ suc k) most (with_singles most (suc k) rows) p (λ e. d (suc k) (omega arith) (sym e)) ∙ single_other (suc k) p (λ i l. d i (omega arith))

  pub trivial_weight : (k p : ℕ) → Split k p → T (trivial k p) → weight_in (with_trivial most k rows) p ≡ most
  unfolding with_trivial
  trivial_weight zero p s t = absurd (omega (arith, s.some, s.below))
  trivial_weight (suc zero) p s t = absurd (omega (arith, s.some, s.below, s.free, bit_zero p))
  trivial_weight (suc (suc k)) p s t = go (trivial_cases (suc (suc k)) p t)
    where
      go : (p + 2 ≡ 2 ^ suc (suc k)) ⊎ ((i : ℕ) × (i < suc (suc k)) × (p ≡ 2 ^ i))
          → weight_in (put_in (row (2 ^ suc (suc k) - 2) most) (with_singles most (suc (suc k)) rows)) p ≡ most
      go (inl e) =
          let q : 2 ^ suc (suc k) - 2 ≡ p = omega arith in
          ap (weight_in (put_in (row (2 ^ suc (suc k) - 2) most) (with_singles most (suc (suc k)) rows))) (sym q) ∙ put_same (2 ^ suc (suc k) - 2) most (with_singles most (suc (suc k)) rows)
      go (inr (zero, l, e)) = absurd (omega (arith, s.free, ap (λ (x : ℕ). bit x 0) e, pow_self 0))
      go (inr (suc i, l, e)) =
          put_keeps (2 ^ suc (suc k) - 2) most (with_singles most (suc (suc k)) rows) p
          (ap (weight_in (with_singles most (suc (suc k)) rows)) e ∙ single_at (suc (suc k)) (suc i) (omega arith) l)

  pub other_weight : (k p : ℕ) → trivial k p ≡ false → weight_in (with_trivial most k rows) p ≡ weight_in rows p
  unfolding with_trivial
  other_weight zero p e = refl
  other_weight (suc zero) p e = refl
  other_weight (suc (suc k)) p e =
      put_other (2 ^ suc (suc k) - 2) most (with_singles most (suc (suc k)) rows) p (λ q. subst T e (trivial_rest (suc (suc k)) p (omega (arith, pow_pos k))))
      ∙ single_other (suc (suc k)) p (λ i l q. subst T e (trivial_pow (suc (suc k)) p i l q))
