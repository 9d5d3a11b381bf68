-- Laws of `those_from`. Assumes nothing.
use Prim.Native.Nat.{ℕ, zero, suc, ◌+◌, ◌-◌, ◌≤◌, ◌<◌}
use native.Mathlib.Omega.{arith}
use native.Mathlib.Decide.{dec_lt}
use mathlib.Core.Path.{◌≡◌, refl, sym, ◌∙◌, ap, ap₂, subst}
use mathlib.Core.Logic.{inl, inr}
use mathlib.Core.Bool.{Bool, true, false, cond, true≢false}
use mathlib.Core.List.{List, [], ◌∷◌, map}
use Rattle.statement.specs.Rows.{Mem}
use Rattle.statement.specs.NewickText.{those_from}

pub those_same : (p q : ℕ → Bool) (i m : ℕ) → ((j : ℕ) → i ≤ j → j < i + m → p j ≡ q j) → those_from p i m ≡ those_from q i m
unfolding those_from
those_same p q i zero e = refl
those_same p q i (suc m) e =
    ap₂ (λ (b : Bool) (l : List ℕ). cond b (i ∷ l) l) (e i (omega arith) (omega arith)) (those_same p q (suc i) m (λ j a l. e j (omega arith) (omega arith)))

-- a function is asked only at those numbers
pub map_those : {A : Type 0} (f g : ℕ → A) (p : ℕ → Bool) (i m : ℕ) → ((j : ℕ) → i ≤ j → j < i + m → f j ≡ g j) → map f (those_from p i m) ≡ map g (those_from p i m)
unfolding those_from
map_those f g p i zero e = refl
map_those {A} f g p i (suc m) e = go (p i) (e i (omega arith) (omega arith)) (map_those f g p (suc i) m (λ j a l. e j (omega arith) (omega arith)))
  where
    go : (b : Bool) → f i ≡ g i → map f (those_from p (suc i) m) ≡ map g (those_from p (suc i) m)
        → map f (cond b (i ∷ those_from p (suc i) m) (those_from p (suc i) m)) ≡ map g (cond b (i ∷ those_from p (suc i) m) (those_from p (suc i) m))
    go true h k = ap₂ ◌∷◌ h k
    go false h k = k

-- from i to e: the next number
module _ (p : ℕ → Bool) (e i : ℕ) where
  pub those_end : e ≤ i → those_from p i (e - i) ≡ []
  unfolding those_from
  those_end h = ap (those_from p i) (let z : e - i ≡ 0 = omega arith in z)

  next : i < e → those_from p i (e - i) ≡ cond (p i) (i ∷ those_from p (i + 1) (e - (i + 1))) (those_from p (i + 1) (e - (i + 1)))
  unfolding those_from
  next h =
      let z : e - i ≡ suc (e - (i + 1)) = omega arith in
      let s : suc i ≡ i + 1 = omega arith in
      ap (those_from p i) z ∙ ap (λ (k : ℕ). cond (p i) (i ∷ those_from p k (e - (i + 1))) (those_from p k (e - (i + 1)))) s

  pub those_skip : i < e → p i ≡ false → those_from p i (e - i) ≡ those_from p (i + 1) (e - (i + 1))
  those_skip h f = next h ∙ rw f

  pub those_take : i < e → p i ≡ true → those_from p i (e - i) ≡ i ∷ those_from p (i + 1) (e - (i + 1))
  those_take h f = next h ∙ rw f

-- WHICH THEY ARE: the numbers within the range that pass the test
pub record Among (p : ℕ → Bool) (i m x : ℕ) : Type 0 where
  pub low : i ≤ x
  pub high : x < i + m
  pub test : p x ≡ true

pub those_of : (p : ℕ → Bool) (i m x : ℕ) → Mem x (those_from p i m) → Among p i m x
unfolding those_from
those_of p i zero x h = elim h [ ]
those_of p i (suc m) x h = go (p i) refl h (λ k. those_of p (suc i) m x k)
  where
    wider : Among p (suc i) m x → Among p i (suc m) x
    wider a = record { low = omega (arith, a.low); high = omega (arith, a.high); test = a.test }

    go : (b : Bool) → p i ≡ b → Mem x (cond b (i ∷ those_from p (suc i) m) (those_from p (suc i) m)) → (Mem x (those_from p (suc i) m) → Among p (suc i) m x)
        → Among p i (suc m) x
    go true e (inl q) ih = record { low = omega arith; high = omega arith; test = ap p q ∙ e }
    go true e (inr k) ih = wider (ih k)
    go false e k ih = wider (ih k)

pub those_are : (p : ℕ → Bool) (i m x : ℕ) → Among p i m x → Mem x (those_from p i m)
unfolding those_from
those_are p i zero x a = absurd (omega (arith, a.low, a.high))
those_are p i (suc m) x a = go (dec_lt i x) (p i) refl (λ b. those_are p (suc i) m x b)
  where
    go : Dec (i < x) → (b : Bool) → p i ≡ b → (Among p (suc i) m x → Mem x (those_from p (suc i) m))
        → Mem x (cond b (i ∷ those_from p (suc i) m) (those_from p (suc i) m))
    go (yes l) true e ih = inr (ih (record { low = l; high = omega (arith, a.high); test = a.test }))
    go (yes l) false e ih = ih (record { low = l; high = omega (arith, a.high); test = a.test })
    go (no l) true e ih = inl (omega (arith, a.low))
    go (no l) false e ih = absurd (true≢false (sym a.test ∙ ap p (let q : x ≡ i = omega (arith, a.low) in q) ∙ e))

pub those_head : (p : ℕ → Bool) (i m x : ℕ) (xs : List ℕ) → those_from p i m ≡ x ∷ xs → Among p i m x
those_head p i m x xs e = those_of p i m x (subst (Mem x) (sym e) (inl refl))
