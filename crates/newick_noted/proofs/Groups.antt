-- Numbers of groups: one taxon more, the other taxa, all of them. Assumes nothing.
use Prim.Native.Nat.{ℕ, zero, suc, ◌+◌, ◌-◌, ◌^◌, ◌<◌}
use native.Mathlib.Omega.{arith}
use native.Mathlib.Decide.{ℕ_discrete}
use mathlib.Core.Path.{◌≡◌, refl, ◌∙◌, ap, ap₂}
use mathlib.Core.Bool.{Bool, true, false, cond, not, ◌||◌}
use lib.Dec.{eqb}
use lib.Pow.{pow_pos}
use borrow.Author.Tests.{eq-eqb, ne_eqb}
use Rattle.statement.specs.Cluster.{bit, group_of}
use Rattle.statement.proofs.Groups.{group_below, group_bit}
use Rattle.newick_edges.proofs.Marking.{room}
use Rattle.newick_edges.specs.Marks.{side}

-- only the taxa below n matter
pub group_same : (p q : ℕ → Bool) (n : ℕ) → ((x : ℕ) → x < n → p x ≡ q x) → group_of p n ≡ group_of q n
unfolding group_of
group_same p q zero e = refl
group_same p q (suc n) e =
    ap₂ (λ (a : ℕ) (b : Bool). a + cond b (2 ^ n) 0) (group_same p q n (λ x l. e x (omega arith))) (e n (omega arith))

pub group_none : (n : ℕ) → group_of (λ x. false) n ≡ 0
unfolding group_of
group_none zero = refl
group_none (suc n) = rw (group_none n)

-- one taxon more
pub group_add : (p : ℕ → Bool) (n x : ℕ) → x < n → p x ≡ false → group_of (λ y. eqb y x || p y) n ≡ group_of p n + 2 ^ x
unfolding group_of
group_add p zero x l e = absurd (omega arith)
group_add p (suc n) x l e = go (ℕ_discrete n x) (λ h. group_add p n x h e)
  where
    go : Dec (n ≡ x) → (x < n → group_of (λ y. eqb y x || p y) n ≡ group_of p n + 2 ^ x)
        → group_of (λ y. eqb y x || p y) n + cond (eqb n x || p n) (2 ^ n) 0 ≡ group_of p n + cond (p n) (2 ^ n) 0 + 2 ^ x
    go (yes q) ih =
        let off : p n ≡ false = ap p q ∙ e in
        let below : group_of (λ y. eqb y x || p y) n ≡ group_of p n = group_same (λ y. eqb y x || p y) p n (λ y h. rw (ne_eqb y x (λ z. omega arith))) in
        rw (eq-eqb n x q, off) (omega (arith, below, ap (λ (k : ℕ). 2 ^ k) q))
    go (no q) ih = rw (ne_eqb n x q) (omega (arith, ih (omega (arith, q))))

-- the other taxa, and all of them
pub group_not : (p : ℕ → Bool) (n : ℕ) → group_of p n + group_of (λ x. not (p x)) n + 1 ≡ 2 ^ n
unfolding group_of
group_not p zero = refl
group_not p (suc n) = go (p n) (group_not p n)
  where
    go : (b : Bool) → group_of p n + group_of (λ x. not (p x)) n + 1 ≡ 2 ^ n
        → group_of p n + cond b (2 ^ n) 0 + (group_of (λ x. not (p x)) n + cond (not b) (2 ^ n) 0) + 1 ≡ 2 ^ suc n
    go true h = omega arith
    go false h = omega arith

pub group_all : (p : ℕ → Bool) (n : ℕ) → ((x : ℕ) → x < n → p x ≡ true) → group_of p n ≡ 2 ^ n - 1
group_all p n f =
    let z : group_of (λ x. not (p x)) n ≡ 0 = group_same (λ x. not (p x)) (λ x. false) n (λ x l. ap not (f x l)) ∙ group_none n in
    omega (arith, group_not p n)

pub group_some : (p : ℕ → Bool) (n x : ℕ) → x < n → p x ≡ false → group_of p n ≡ 2 ^ n - 1 → ⊥
group_some p n x l e q =
    omega (arith, room n x (group_of p n) l (group_below p n) (group_bit p n x l ∙ ap (λ (b : Bool). cond {A = ℕ} b 1 0) e), pow_pos x)

-- the side of an edge without taxon 0
pub side_group : (p : ℕ → Bool) (n : ℕ) → 0 < n → side n (group_of p n) ≡ group_of (λ x. cond (p 0) (not (p x)) (p x)) n
unfolding side
side_group p n l = go (p 0) refl
  where
    go : (b : Bool) → p 0 ≡ b → cond (eqb (bit (group_of p n) 0) 0) (group_of p n) (2 ^ n - 1 - group_of p n) ≡ group_of (λ x. cond b (not (p x)) (p x)) n
    go true e = rw (group_bit p n 0 l, e) (omega (arith, group_not p n))
    go false e = rw (group_bit p n 0 l, e)
