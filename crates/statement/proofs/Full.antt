-- The full answer for k taxa grows to that for k + 1, and is the only one. Assumes nothing.
use Prim.Native.Nat.{ℕ, suc, ◌+◌, ◌*◌, ◌%◌, ◌^◌, ◌≤◌, ◌<◌}
use native.Mathlib.Omega.{arith}
use native.Mathlib.Nat.{add-mod_left, mod-eq_of_lt, mod_self}
use mathlib.Core.Path.{◌≡◌, sym, ◌∙◌, ap, subst}
use mathlib.Core.Logic.{◌⊎◌, inl, inr, ◌↔◌}
use mathlib.Core.Bool.{Bool, false}
use mathlib.Core.List.{List, [], ◌∷◌, map}
use lib.Dec.{T, ltb, ltb→lt, lt→ltb}
use lib.Pow.{pow_pos}
use lib.ListN.{length, get_or}
use Rattle.statement.specs.Cluster.{bit, Out, Split, Conflict}
use Rattle.statement.proofs.Rule.{Rule, Laws, New, Supported, Weight, Kept, Parent, Value}
use Rattle.statement.specs.Rows.{Ascending, Mem}
use Rattle.statement.proofs.Answer.{Clean, Full, Weighed, keep_if, extensions}
use Rattle.statement.proofs.Bits.{bit_zero, bit_mod}
use Rattle.statement.proofs.Grow.{grow, mod_cases, alone_low}
use Rattle.statement.proofs.Weigh.{value_weight, value_kept, weight_supports}
use Rattle.statement.proofs.Clash.{step_mod, no_conflict, empty_left, empty_right}
use Rattle.statement.proofs.Laminar.{bound}
use Rattle.statement.proofs.Listed.{asc_append, asc_map, asc_keep, asc_lower, asc_mem, clean_split, mem_append, mem_map, mem_keep_of, mem_keep, asc_unique, mem_get_d, asc_get_d}

-- a candidate is the newcomer alone or has an old row for its remainder
pub candidate_of : (k : ℕ) (rows : List ℕ) → Ascending 1 (2 ^ k) rows → (c : ℕ) → Mem c (extensions k rows) → (c < 2 ^ suc k) × ((c ≡ 2 ^ k) ⊎ Mem (c % 2 ^ k) rows)
candidate_of k rows up c m = go ((mem_append c rows (2 ^ k ∷ map (λ d. 2 ^ k + d) rows)).0 m)
  where
    go : Mem c rows ⊎ ((c ≡ 2 ^ k) ⊎ Mem c (map (λ d. 2 ^ k + d) rows)) → (c < 2 ^ suc k) × ((c ≡ 2 ^ k) ⊎ Mem (c % 2 ^ k) rows)
    go (inl a) =
        let l = asc_mem 1 (2 ^ k) rows up c a in
        (omega (arith, l.1), inr (subst (λ (n : ℕ). Mem n rows) (sym (mod-eq_of_lt l.1)) a))
    go (inr (inl e)) = (omega (arith, pow_pos k), inl e)
    go (inr (inr b)) =
        let p = (mem_map (2 ^ k) c rows).0 b in
        let l = asc_mem 1 (2 ^ k) rows up p.0 p.1 in (
          omega (arith, l.1, p.2),
          inr (subst (λ (n : ℕ). Mem n rows) (sym (ap (λ (n : ℕ). n % 2 ^ k) p.2 ∙ add-mod_left (2 ^ k) p.0 ∙ mod-eq_of_lt l.1)) p.1),
        )

pub of_candidate : (k : ℕ) (rows : List ℕ) (c : ℕ) → c < 2 ^ suc k → (c ≡ 2 ^ k) ⊎ Mem (c % 2 ^ k) rows → Mem c (extensions k rows)
of_candidate k rows c l h = (mem_append c rows (2 ^ k ∷ map (λ d. 2 ^ k + d) rows)).1 (go h (mod_cases k c l))
  where
    go : (c ≡ 2 ^ k) ⊎ Mem (c % 2 ^ k) rows → (c % 2 ^ k ≡ c) ⊎ (2 ^ k + c % 2 ^ k ≡ c) → Mem c rows ⊎ ((c ≡ 2 ^ k) ⊎ Mem c (map (λ d. 2 ^ k + d) rows))
    go (inl e) q = inr (inl e)
    go (inr m) (inl e) = inl (subst (λ (n : ℕ). Mem n rows) e m)
    go (inr m) (inr e) = inr (inr ((mem_map (2 ^ k) c rows).1 (c % 2 ^ k, m, sym e)))

pub extensions_up : (k : ℕ) (rows : List ℕ) → Ascending 1 (2 ^ k) rows → Ascending 1 (2 ^ suc k) (extensions k rows)
extensions_up k rows up =
    asc_append 1 (2 ^ k) (2 ^ suc k) rows (2 ^ k ∷ map (λ d. 2 ^ k + d) rows) up (
      omega arith,
      subst (λ (n : ℕ). Ascending (suc (2 ^ k)) n (map (λ d. 2 ^ k + d) rows)) twice
          (asc_lower (suc (2 ^ k)) (2 ^ k + 1) (2 ^ k + 2 ^ k) (map (λ d. 2 ^ k + d) rows) (omega arith) (asc_map (2 ^ k) 1 (2 ^ k) rows up)),
    )
  where
    twice : 2 ^ k + 2 ^ k ≡ 2 ^ suc k
    twice = omega arith

module _ (r : Rule) (laws : Laws r) (k : ℕ) (fits : suc k ≤ r.taxa) (pk : 0 < k) where
  pub full_grow : (keep : ℕ → Bool) (parents : List ℕ) → Ascending 1 (2 ^ k) parents → ((p : ℕ) → Mem p parents ↔ Parent r k p)
      → ((c : ℕ) → Mem c (extensions k parents) → T (keep c) ↔ Kept r k c) → Full r (suc k) (keep_if keep (extensions k parents))
  full_grow keep parents up exact kept =
      record { up = asc_keep keep 1 (2 ^ suc k) (extensions k parents) (extensions_up k parents up); exact = λ c. (there c, back c) }
    where
      there : (c : ℕ) → Mem c (keep_if keep (extensions k parents)) → Supported r (suc k) c
      there c m =
          let p = mem_keep_of keep c (extensions k parents) m in
          let q = candidate_of k parents up c p.0 in
          (grow r laws k c fits pk).1
          (q.0, (kept c p.0).0 p.1, elim q.1 [ inl e ↦ inl e | inr n ↦ inr ((exact (c % 2 ^ k)).0 n) ])

      back : (c : ℕ) → Supported r (suc k) c → Mem c (keep_if keep (extensions k parents))
      back c s =
          let g = (grow r laws k c fits pk).0 s in
          let m = of_candidate k parents c g.0 (elim g.2 [ inl e ↦ inl e | inr n ↦ inr ((exact (c % 2 ^ k)).1 n) ]) in
          mem_keep keep c (extensions k parents) m ((kept c m).1 g.1)

  -- THE SECOND PROMISE, with weights: the full answer for k taxa grows to that for k + 1
  pub weighed_grow : (wt val : ℕ → ℕ) (parents : List ℕ) → Ascending 1 (2 ^ k) parents → ((p : ℕ) → Mem p parents ↔ Parent r k p)
      → ((p : ℕ) → Mem p parents → r.anew k p ≡ false → Weight r k p (wt p)) → ((c : ℕ) → Mem c (extensions k parents) → Value r k wt c (val c))
      → Weighed r (suc k) (keep_if (λ c. ltb 0 (val c)) (extensions k parents)) val
  weighed_grow wt val parents up exact held value =
      record {
        full = full_grow (λ c. ltb 0 (val c)) parents up exact (λ c m.
            let h = value_kept r laws k c (val c) wt fits pk (value c m) (cases c (candidate_of k parents up c m).1) in
            ((λ t. h.0 (ltb→lt 0 _ t)), (λ x. lt→ltb 0 _ (h.1 x))));
        weights = λ c n.
            let m = (mem_keep_of (λ c. ltb 0 (val c)) c (extensions k parents) n).0 in
            value_weight r laws k c (val c) wt fits pk (value c m) (weights c (candidate_of k parents up c m).1);
      }
    where
      weights : (c : ℕ) → (c ≡ 2 ^ k) ⊎ Mem (c % 2 ^ k) parents → (c ≡ 2 ^ k) ⊎ (Split k (c % 2 ^ k) × (r.anew k (c % 2 ^ k) ≡ false → Weight r k (c % 2 ^ k) (wt (c % 2 ^ k))))
      weights c (inl e) = inl e
      weights c (inr m) = inr (((exact (c % 2 ^ k)).0 m).split, held (c % 2 ^ k) m)

      cases : (c : ℕ) → (c ≡ 2 ^ k) ⊎ Mem (c % 2 ^ k) parents → (c ≡ 2 ^ k) ⊎ (Split k (c % 2 ^ k) × (r.anew k (c % 2 ^ k) ≡ false → 0 < wt (c % 2 ^ k)))
      cases c (inl e) = inl e
      cases c (inr m) =
          let p = (exact (c % 2 ^ k)).0 m in
          inr (p.split, λ e. (weight_supports r laws k (c % 2 ^ k) (wt (c % 2 ^ k)) (held (c % 2 ^ k) m e)).1 (elim p.held [ inl a ↦ absurd (subst T e a) | inr f ↦ f ]))

  pub well_grow : (keep : ℕ → Bool) (rows : List ℕ) → ((c : ℕ) → Mem c (extensions k rows) → T (keep c) → New r 1 k c) → Clean k rows
      → Clean (suc k) (keep_if keep (extensions k rows))
  well_grow keep rows kept w =
      record { up = asc_keep keep 1 (2 ^ suc k) (extensions k rows) (extensions_up k rows w.up); free = free; clean = clean }
    where
      of : (c : ℕ) → Mem c (keep_if keep (extensions k rows)) → (c < 2 ^ suc k) × ((c ≡ 2 ^ k) ⊎ Mem (c % 2 ^ k) rows) × New r 1 k c
      of c m =
          let p = mem_keep_of keep c (extensions k rows) m in
          let q = candidate_of k rows w.up c p.0 in
          (q.0, q.1, kept c p.0 p.1)

      free : (c : ℕ) → Mem c (keep_if keep (extensions k rows)) → Out c 0
      free c m = go (of c m).1
        where
          go : (c ≡ 2 ^ k) ⊎ Mem (c % 2 ^ k) rows → Out c 0
          go (inl e) = ap (λ (n : ℕ). bit n 0) e ∙ alone_low k 0 pk
          go (inr n) = sym (bit_mod c k 0 pk) ∙ w.free (c % 2 ^ k) n

      clean : (a b : ℕ) → Mem a (keep_if keep (extensions k rows)) → Mem b (keep_if keep (extensions k rows)) → Conflict (suc k) a b → ⊥
      clean a b ma mb = step_mod r laws k a b fits (of a ma).2 (of b mb).2 (go (of a ma).1 (of b mb).1)
        where
          alone : (c : ℕ) → c ≡ 2 ^ k → c % 2 ^ k ≡ 0
          alone c e = ap (λ (n : ℕ). n % 2 ^ k) e ∙ mod_self (2 ^ k)

          go : (a ≡ 2 ^ k) ⊎ Mem (a % 2 ^ k) rows → (b ≡ 2 ^ k) ⊎ Mem (b % 2 ^ k) rows → Conflict k (a % 2 ^ k) (b % 2 ^ k) → ⊥
          go (inl e) q x = empty_left k (b % 2 ^ k) (rw (alone a e) at x)
          go (inr m) (inl e) x = empty_right k (a % 2 ^ k) (rw (alone b e) at x)
          go (inr m) (inr n) x = w.clean (a % 2 ^ k) (b % 2 ^ k) m n x

pub full_unique : (r : Rule) (k : ℕ) (xs ys : List ℕ) → Full r k xs → Full r k ys → xs ≡ ys
full_unique r k xs ys f g =
    asc_unique 1 (2 ^ k) xs ys f.up g.up (λ c. ((λ m. (g.exact c).1 ((f.exact c).0 m)), (λ m. (f.exact c).1 ((g.exact c).0 m))))

pub full_one : (r : Rule) → Full r 1 []
full_one r =
    record {
      up = omega arith;
      exact = λ c. ((λ m. absurd m), (λ s. absurd (clash c s.split)));
    }
  where
    clash : (c : ℕ) → Split 1 c → ⊥
    clash c s = omega (arith, s.some, s.below, s.free, bit_zero c)

pub full_well : (r : Rule) → Laws r → (k : ℕ) → k ≤ r.taxa → (rows : List ℕ) → Full r k rows → Clean k rows
full_well r laws k fits rows f =
    record {
      up = f.up;
      free = λ c m. ((f.exact c).0 m).split.free;
      clean = λ a b ma mb. no_conflict r laws k a b fits ((f.exact a).0 ma).fours ((f.exact b).0 mb).fours;
    }

pub well_length : (k : ℕ) (rows : List ℕ) → 2 ≤ k → Clean k rows → length rows + 3 ≤ 2 * k
well_length k rows two w =
    bound k (length rows) (λ i. get_or rows i 0) two (asc_get_d 1 (2 ^ k) rows w.up)
    (λ i l. clean_split k rows w (get_or rows i 0) (mem_get_d rows i l))
    (λ i j li lj. w.clean (get_or rows i 0) (get_or rows j 0) (mem_get_d rows i li) (mem_get_d rows j lj))
