-- The walk up, in any tree: if it reaches the root at all, it is there after as many steps as there are edges. Assumes nothing.
use Prim.Native.Nat.{ℕ, zero, suc, ◌+◌, ◌-◌, ◌≤◌, ◌<◌}
use native.Mathlib.Omega.{arith}
use native.Mathlib.Nat.{zero-add, suc-add, le_refl}
use native.Mathlib.Decide.{dec_lt}
use mathlib.Core.Path.{◌≡◌, refl, sym, ◌∙◌, ap}
use mathlib.Core.Logic.{◌⊎◌, inl, inr, ◌↔◌}
use mathlib.Core.Bool.{Bool, true, false, cond}
use lib.Dec.{eqb}
use lib.ListN.{get_or-eq_default}
use borrow.Author.Tests.{eqb-true, eq-eqb}
use Rattle.statement.specs.Tree.{Tree, root, up, walk, on_walk}
use Rattle.statement.proofs.Lowest.{some_at, some_of}
use Rattle.statement.proofs.Tally.{tally}
use Rattle.tree_read.specs.Accepted.{Leads}
use Rattle.tree_read.proofs.Counting.{agree_or_more, all_one}

module _ (t : Tree) where
  pub up_root : up t (root t) ≡ root t
  up_root = get_or-eq_default t.links (root t) (le_refl (root t))

  pub walk_root : (s : ℕ) → walk t s (root t) ≡ root t
  unfolding walk
  walk_root zero = refl
  walk_root (suc s) = ap (walk t s) up_root ∙ walk_root s

  pub walk_add : (s r v : ℕ) → walk t (s + r) v ≡ walk t r (walk t s v)
  unfolding walk
  walk_add zero r v = ap (λ (k : ℕ). walk t k v) (zero-add r)
  walk_add (suc s) r v = ap (λ (k : ℕ). walk t k v) (suc-add s r) ∙ walk_add s r (up t v)

  -- at the root the walk stays
  pub stays : (s r v : ℕ) → s ≤ r → walk t s v ≡ root t → walk t r v ≡ root t
  stays s r v h e =
      let q : r ≡ s + (r - s) = omega arith in
      ap (λ (k : ℕ). walk t k v) q ∙ walk_add s (r - s) v ∙ ap (walk t (r - s)) e ∙ walk_root (r - s)

  -- 1 where the walk of s steps from v ends at the root
  arrived : ℕ → ℕ → ℕ
  arrived s v = cond (eqb (walk t s v) (root t)) 1 0

  arrived_at : (s v : ℕ) → walk t s v ≡ root t → arrived s v ≡ 1
  unfolding arrived
  arrived_at s v e = rw (eq-eqb (walk t s v) (root t) e)

  arrived_of : (s v : ℕ) → arrived s v ≡ 1 → walk t s v ≡ root t
  unfolding arrived
  arrived_of s v = go (eqb (walk t s v) (root t)) refl
    where
      go : (b : Bool) → eqb (walk t s v) (root t) ≡ b → ◌≡◌ {A = ℕ} (cond b 1 0) 1 → walk t s v ≡ root t
      go true e h = eqb-true (walk t s v) (root t) e
      go false e h = absurd (omega arith)

  arrived_le : (s v : ℕ) → arrived s v ≤ 1
  unfolding arrived
  arrived_le s v = go (eqb (walk t s v) (root t))
    where
      go : (b : Bool) → cond b 1 0 ≤ 1
      go true = omega arith
      go false = omega arith

  arrived_more : (s v : ℕ) → arrived s v ≤ arrived (suc s) v
  unfolding arrived
  arrived_more s v = go (eqb (walk t s v) (root t)) refl
    where
      go : (b : Bool) → eqb (walk t s v) (root t) ≡ b → cond b 1 0 ≤ arrived (suc s) v
      go true e = omega (arith, arrived_at (suc s) v (stays s (suc s) v (omega arith) (eqb-true (walk t s v) (root t) e)))
      go false e = omega arith

  -- one step more brings no vertex to the root that was not there
  Settled : ℕ → Type 0
  Settled s = (v : ℕ) → v < root t → arrived s v ≡ arrived (suc s) v

  module _ (linked : (v : ℕ) → v < root t → up t v ≤ root t) where
    settled_all : (s : ℕ) → Settled s → (r v : ℕ) → v ≤ root t → walk t r v ≡ root t → walk t s v ≡ root t
    unfolding walk Settled
    settled_all s settled zero v l e = ap (walk t s) e ∙ walk_root s
    settled_all s settled (suc r) v l e = go (dec_lt v (root t)) (λ h. settled_all s settled r (up t v) (linked v h) e)
      where
        go : Dec (v < root t) → (v < root t → walk t s (up t v) ≡ root t) → walk t s v ≡ root t
        go (yes h) ih = arrived_of s v (settled v h ∙ arrived_at (suc s) v (ih h))
        go (no h) ih = let q : v ≡ root t = omega arith in ap (walk t s) q ∙ walk_root s

    -- after each number of steps: settled by then, or as many vertices have arrived
    level : (s : ℕ) → ((r : ℕ) × (r ≤ s) × Settled r) ⊎ (s ≤ tally (arrived s) (root t))
    unfolding Settled
    level zero = inr (omega arith)
    level (suc s) = go (level s)
      where
        go : ((r : ℕ) × (r ≤ s) × Settled r) ⊎ (s ≤ tally (arrived s) (root t))
            → ((r : ℕ) × (r ≤ suc s) × Settled r) ⊎ (suc s ≤ tally (arrived (suc s)) (root t))
        go (inl (r, h, settled)) = inl (r, omega arith, settled)
        go (inr h) = more (agree_or_more (arrived s) (arrived (suc s)) (root t) (arrived_more s))
          where
            more : ((v : ℕ) → v < root t → arrived s v ≡ arrived (suc s) v) ⊎ (tally (arrived s) (root t) < tally (arrived (suc s)) (root t))
                → ((r : ℕ) × (r ≤ suc s) × Settled r) ⊎ (suc s ≤ tally (arrived (suc s)) (root t))
            more (inl all) = inl (s, omega arith, all)
            more (inr l) = inr (omega arith)

    -- A WALK THAT REACHES THE ROOT is there after as many steps as there are edges
    pub reaches_within : (v : ℕ) → v ≤ root t → Leads t v (root t) → walk t (root t) v ≡ root t
    reaches_within v l (s, e) = go (level (root t))
      where
        go : ((r : ℕ) × (r ≤ root t) × Settled r) ⊎ (root t ≤ tally (arrived (root t)) (root t)) → walk t (root t) v ≡ root t
        go (inl (r, h, settled)) = stays r (root t) v h (settled_all r settled s v l e)
        go (inr full) = at (dec_lt v (root t))
          where
            at : Dec (v < root t) → walk t (root t) v ≡ root t
            at (yes h) = arrived_of (root t) v (all_one (arrived (root t)) (root t) (arrived_le (root t)) full v h)
            at (no h) = let q : v ≡ root t = omega arith in ap (walk t (root t)) q ∙ walk_root (root t)

    -- so the test of refusal 10 says exactly that the walk reaches the root
    pub reaches_is : (v : ℕ) → v ≤ root t → (on_walk t v (root t) ≡ true) ↔ Leads t v (root t)
    reaches_is v l = (
      (λ e. let (s, h, q) = some_of (λ s. eqb (walk t s v) (root t)) (suc (root t)) e in (s, eqb-true (walk t s v) (root t) q)),
      (λ r. some_at (λ s. eqb (walk t s v) (root t)) (suc (root t)) (root t) (omega arith)
          (eq-eqb (walk t (root t) v) (root t) (reaches_within v l r))),
    )

  -- and on a walk that reaches the root the test for a vertex says exactly that it lies there
  pub on_walk_is : (a b : ℕ) → walk t (root t) a ≡ root t → (on_walk t a b ≡ true) ↔ Leads t a b
  on_walk_is a b ends = (
    (λ e. let (s, h, q) = some_of (λ s. eqb (walk t s a) b) (suc (root t)) e in (s, eqb-true (walk t s a) b q)),
    (λ r. back r.0 r.1 (dec_lt r.0 (suc (root t)))),
  )
    where
      back : (s : ℕ) → walk t s a ≡ b → Dec (s < suc (root t)) → on_walk t a b ≡ true
      back s e (yes h) = some_at (λ s. eqb (walk t s a) b) (suc (root t)) s h (eq-eqb (walk t s a) b e)
      back s e (no h) =
          some_at (λ s. eqb (walk t s a) b) (suc (root t)) (root t) (omega arith)
          (eq-eqb (walk t (root t) a) b (ends ∙ sym (stays (root t) s a (omega arith) ends) ∙ e))
