-- Ascending lists: parts, members, and that the members settle the list. Assumes nothing.
use Prim.Native.Nat.{ℕ, zero, suc, ◌+◌, ◌^◌, ◌≤◌, ◌<◌}
use native.Mathlib.Omega.{arith}
use native.Mathlib.Nat.{le_antisymm}
use mathlib.Core.Path.{◌≡◌, refl, sym, ◌∙◌, ap, ap₂, subst}
use mathlib.Core.Logic.{◌⊎◌, inl, inr, ◌↔◌}
use mathlib.Core.Bool.{Bool, true, false, cond}
use mathlib.Core.List.{List, [], ◌∷◌, ◌++◌, map}
use lib.Dec.{T}
use lib.ListN.{length, get_or}
use Rattle.statement.specs.Cluster.{Split}
use Rattle.statement.specs.Rows.{Ascending, Mem}
use Rattle.statement.proofs.Answer.{Clean, keep_if}

pub asc_le : (lo hi : ℕ) (xs : List ℕ) → Ascending lo hi xs → lo ≤ hi
asc_le lo hi [] h = h
asc_le lo hi (x ∷ xs) h = omega (arith, h.0, asc_le (suc x) hi xs h.1)

pub asc_lower : (lo lo' hi : ℕ) (xs : List ℕ) → lo ≤ lo' → Ascending lo' hi xs → Ascending lo hi xs
asc_lower lo lo' hi [] l h = omega arith
asc_lower lo lo' hi (x ∷ xs) l h = (omega (arith, h.0), h.1)

pub asc_append : (lo mid hi : ℕ) (xs ys : List ℕ) → Ascending lo mid xs → Ascending mid hi ys → Ascending lo hi (xs ++ ys)
asc_append lo mid hi [] ys h g = asc_lower lo mid hi ys h g
asc_append lo mid hi (x ∷ xs) ys h g = (h.0, asc_append (suc x) mid hi xs ys h.1 g)

pub asc_map : (m lo hi : ℕ) (xs : List ℕ) → Ascending lo hi xs → Ascending (m + lo) (m + hi) (map (λ c. m + c) xs)
asc_map m lo hi [] h = omega arith
asc_map m lo hi (x ∷ xs) h = (omega (arith, h.0), asc_lower (suc (m + x)) (m + suc x) (m + hi) (map (λ c. m + c) xs) (omega arith) (asc_map m (suc x) hi xs h.1))

pub asc_keep : (p : ℕ → Bool) (lo hi : ℕ) (xs : List ℕ) → Ascending lo hi xs → Ascending lo hi (keep_if p xs)
unfolding keep_if
asc_keep p lo hi [] h = h
asc_keep p lo hi (x ∷ xs) h = go (p x) (asc_keep p (suc x) hi xs h.1)
  where
    go : (s : Bool) → Ascending (suc x) hi (keep_if p xs) → Ascending lo hi (cond s (x ∷ keep_if p xs) (keep_if p xs))
    go true ih = (h.0, ih)
    go false ih = asc_lower lo (suc x) hi (keep_if p xs) (omega (arith, h.0)) ih

pub asc_mem : (lo hi : ℕ) (xs : List ℕ) → Ascending lo hi xs → (c : ℕ) → Mem c xs → (lo ≤ c) × (c < hi)
asc_mem lo hi [] h c x'' = elim x'' [ ]
asc_mem lo hi (x ∷ xs) h c (inl e) = (omega (arith, h.0), omega (arith, asc_le (suc x) hi xs h.1))
asc_mem lo hi (x ∷ xs) h c (inr m) = let p = asc_mem (suc x) hi xs h.1 c m in (omega (arith, h.0), p.1)

-- the clusters of a list are splits
pub clean_split : (k : ℕ) (cs : List ℕ) → Clean k cs → (c : ℕ) → Mem c cs → Split k c
clean_split k cs w c m = let b = asc_mem 1 (2 ^ k) cs w.up c m in record { some = b.0; below = b.1; free = w.free c m }

pub mem_append : (c : ℕ) (xs ys : List ℕ) → Mem c (xs ++ ys) ↔ (Mem c xs ⊎ Mem c ys)
mem_append c xs ys = (there xs, back xs)
  where
    there : (zs : List ℕ) → Mem c (zs ++ ys) → Mem c zs ⊎ Mem c ys
    there [] m = inr m
    there (z ∷ zs) (inl e) = inl (inl e)
    there (z ∷ zs) (inr m) = elim (there zs m) [ inl a ↦ inl (inr a) | inr b ↦ inr b ]

    back : (zs : List ℕ) → Mem c zs ⊎ Mem c ys → Mem c (zs ++ ys)
    back [] (inl x'') = elim x'' [ ]
    back [] (inr m) = m
    back (z ∷ zs) (inl (inl e)) = inl e
    back (z ∷ zs) (inl (inr m)) = inr (back zs (inl m))
    back (z ∷ zs) (inr m) = inr (back zs (inr m))

pub mem_map : (m c : ℕ) (xs : List ℕ) → Mem c (map (λ d. m + d) xs) ↔ ((d : ℕ) × Mem d xs × (c ≡ m + d))
mem_map m c xs = (there xs, back xs)
  where
    there : (zs : List ℕ) → Mem c (map (λ d. m + d) zs) → (d : ℕ) × Mem d zs × (c ≡ m + d)
    there [] x' = elim x' [ ]
    there (z ∷ zs) (inl e) = (z, inl refl, e)
    there (z ∷ zs) (inr n) = let p = there zs n in (p.0, inr p.1, p.2)

    back : (zs : List ℕ) → ((d : ℕ) × Mem d zs × (c ≡ m + d)) → Mem c (map (λ d. m + d) zs)
    back [] (d, m, q) = elim m [ ]
    back (z ∷ zs) (d, inl e, q) = inl (q ∙ ap (λ (n : ℕ). m + n) e)
    back (z ∷ zs) (d, inr n, q) = inr (back zs (d, n, q))

pub mem_keep_of : (p : ℕ → Bool) (c : ℕ) (xs : List ℕ) → Mem c (keep_if p xs) → Mem c xs × T (p c)
unfolding keep_if
mem_keep_of p c [] m = elim m [ ]
mem_keep_of p c (x ∷ xs) m = go (p x) refl m (λ n. mem_keep_of p c xs n)
  where
    go : (s : Bool) → p x ≡ s → Mem c (cond s (x ∷ keep_if p xs) (keep_if p xs)) → (Mem c (keep_if p xs) → Mem c xs × T (p c)) → ((c ≡ x) ⊎ Mem c xs) × T (p c)
    go true e (inl q) ih = (inl q, subst T (sym (ap p q ∙ e)) tt)
    go true e (inr n) ih = let r = ih n in (inr r.0, r.1)
    go false e n ih = let r = ih n in (inr r.0, r.1)

pub mem_keep : (p : ℕ → Bool) (c : ℕ) (xs : List ℕ) → Mem c xs → T (p c) → Mem c (keep_if p xs)
unfolding keep_if
mem_keep p c [] m t = elim m [ ]
mem_keep p c (x ∷ xs) m t = go (p x) refl m (λ n. mem_keep p c xs n t)
  where
    go : (s : Bool) → p x ≡ s → (c ≡ x) ⊎ Mem c xs → (Mem c xs → Mem c (keep_if p xs)) → Mem c (cond s (x ∷ keep_if p xs) (keep_if p xs))
    go true e (inl q) ih = inl q
    go true e (inr n) ih = inr (ih n)
    go false e (inl q) ih = absurd (subst T (ap p q ∙ e) t)
    go false e (inr n) ih = ih n

le_head : (hi x y : ℕ) (xs : List ℕ) → Ascending (suc x) hi xs → (y ≡ x) ⊎ Mem y xs → x ≤ y
le_head hi x y xs h (inl e) = omega arith
le_head hi x y xs h (inr m) = omega (arith, asc_mem (suc x) hi xs h y m)

tail_of : (hi x y c : ℕ) (xs ys : List ℕ) → x ≡ y → Ascending (suc x) hi xs → Mem c xs → (c ≡ y) ⊎ Mem c ys → Mem c ys
tail_of hi x y c xs ys e h m (inl q) = absurd (omega (arith, asc_mem (suc x) hi xs h c m))
tail_of hi x y c xs ys e h m (inr n) = n

pub asc_unique : (lo hi : ℕ) (xs ys : List ℕ) → Ascending lo hi xs → Ascending lo hi ys → ((c : ℕ) → Mem c xs ↔ Mem c ys) → xs ≡ ys
asc_unique lo hi [] [] h g e = refl
asc_unique lo hi [] (y ∷ ys) h g e = absurd ((e y).1 (inl refl))
asc_unique lo hi (x ∷ xs) [] h g e = absurd ((e x).0 (inl refl))
asc_unique lo hi (x ∷ xs) (y ∷ ys) h g e =
    let le : x ≤ y = le_head hi x y xs h.1 ((e y).1 (inl refl)) in
    let ge : y ≤ x = le_head hi y x ys g.1 ((e x).0 (inl refl)) in
    let q : x ≡ y = le_antisymm le ge in
    ap₂ ◌∷◌ q
    (asc_unique (suc x) hi xs ys h.1 (asc_lower (suc x) (suc y) hi ys (omega arith) g.1)
    (λ c. ((λ m. tail_of hi x y c xs ys q h.1 m ((e c).0 (inr m))), (λ m. tail_of hi y x c ys xs (sym q) g.1 m ((e c).1 (inr m))))))

pub mem_get_d : (xs : List ℕ) (i : ℕ) → i < length xs → Mem (get_or xs i 0) xs
mem_get_d [] i l = absurd (omega arith)
mem_get_d (x ∷ xs) zero l = inl refl
mem_get_d (x ∷ xs) (suc i) l = inr (mem_get_d xs i (omega arith))

pub asc_get_d : (lo hi : ℕ) (xs : List ℕ) → Ascending lo hi xs → (i j : ℕ) → i < j → j < length xs → get_or xs i 0 < get_or xs j 0
asc_get_d lo hi [] h i j p l = absurd (omega arith)
asc_get_d lo hi (x ∷ xs) h i zero p l = absurd (omega arith)
asc_get_d lo hi (x ∷ xs) h zero (suc j) p l = (asc_mem (suc x) hi xs h.1 (get_or xs j 0) (mem_get_d xs j (omega arith))).0
asc_get_d lo hi (x ∷ xs) h (suc i) (suc j) p l = asc_get_d (suc x) hi xs h.1 i j (omega arith) (omega arith)
