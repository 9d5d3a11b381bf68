-- The clusters of an accepted tree are splits, each two of them different and without conflict. Document 01, "The tree". Assumes nothing.
use Prim.Native.Nat.{ℕ, ◌+◌, ◌-◌, ◌≤◌, ◌<◌}
use native.Mathlib.Omega.{arith}
use native.Mathlib.Nat.{pos_of_ne-zero}
use native.Mathlib.Decide.{dec_lt}
use mathlib.Core.Path.{◌≡◌, refl, sym, ◌∙◌, ap}
use mathlib.Core.Logic.Iff
use mathlib.Core.Logic.{◌⊎◌, inl, inr, ◌↔◌}
use mathlib.Core.Bool.{Bool, true, false, cond, false≢true}
use Rattle.statement.specs.Cluster.{In, Out, Split, Conflict}
use Rattle.statement.specs.Tree.{Tree, root, walk, on_walk, cluster_of}
use Rattle.statement.proofs.Bits.{zero_or_one}
use Rattle.statement.proofs.Groups.{group_below, group_bit}
use Rattle.tree_read.specs.Accepted.{Leads, AcceptedTree, home_in}
use Rattle.tree_read.proofs.Reaches.{walk_root, walk_add, reaches_within, on_walk_is}

pub leads_on : (t : Tree) (a b c : ℕ) → Leads t a b → Leads t b c → Leads t a c
leads_on t a b c (s, e) (r, q) = (s + r, walk_add t s r a ∙ ap (walk t r) e ∙ q)

-- of two vertices on one walk, one leads to the other
fork : (t : Tree) (a b c : ℕ) → Leads t a b → Leads t a c → Leads t b c ⊎ Leads t c b
fork t a b c (s, e) (r, q) = go (dec_lt s r)
  where
    later : (x y i j : ℕ) → walk t i a ≡ x → walk t j a ≡ y → i ≤ j → Leads t x y
    later x y i j p q l = (j - i, ap (walk t (j - i)) (sym p) ∙ sym (walk_add t i (j - i) a) ∙ ap (λ (k : ℕ). walk t k a) (omega arith) ∙ q)

    go : Dec (s < r) → Leads t b c ⊎ Leads t c b
    go (yes l) = inl (later b c s r e q (omega arith))
    go (no l) = inr (later c b r s q e (omega arith))

one_is : (b : Bool) → (◌≡◌ {A = ℕ} (cond b 1 0) 1) ↔ (b ≡ true)
one_is true = ((λ e. refl), (λ e. refl))
one_is false = ((λ e. absurd (omega arith)), (λ e. absurd (false≢true e)))

module _ (n : ℕ) (t : Tree) (a : AcceptedTree n t) where
  abbrev cl : ℕ → ℕ
  cl v = cluster_of t v n

  pub ends : (v : ℕ) → v ≤ root t → walk t (root t) v ≡ root t
  ends v l = go (dec_lt v (root t))
    where
      go : Dec (v < root t) → walk t (root t) v ≡ root t
      go (yes h) = reaches_within t a.linked v l (a.rooted v h)
      go (no h) = let q : v ≡ root t = omega arith in ap (walk t (root t)) q ∙ walk_root t (root t)

  -- a taxon is in the cluster of a vertex exactly where its home leads there
  pub cluster_in : (v taxon : ℕ) → taxon < n → In (cl v) taxon ↔ Leads t (home_in t taxon) v
  unfolding cluster_of
  cluster_in v taxon l =
      let e = group_bit (λ i. on_walk t (home_in t i) v) n taxon l in
      let both = Iff.trans (one_is (on_walk t (home_in t taxon) v)) (on_walk_is t (home_in t taxon) v (ends (home_in t taxon) (a.housed taxon l))) in
      ((λ h. both.0 (sym e ∙ h)), (λ h. e ∙ both.1 h))

  pub cluster_split : (v : ℕ) → v < root t → Split n (cl v)
  unfolding cluster_of
  cluster_split v l =
      record {
        some = pos_of_ne-zero (a.some v l);
        below = group_below (λ i. on_walk t (home_in t i) v) n;
        free = free (zero_or_one (cluster_of t v n) 0);
      }
    where
      free : Out (cluster_of t v n) 0 ⊎ In (cluster_of t v n) 0 → Out (cluster_of t v n) 0
      free (inl o) = o
      free (inr i) =
          let (s, e) = (cluster_in v 0 (omega (arith, a.two))).0 i in
          absurd (omega (arith, sym e ∙ ap (walk t s) a.first ∙ walk_root t s))

  -- a vertex's cluster is part of that of each vertex above it
  pub part_above : (u v : ℕ) → Leads t u v → (i : ℕ) → i < n → In (cl u) i → In (cl v) i
  part_above u v h i l b = (cluster_in v i l).1 (leads_on t (home_in t i) u v ((cluster_in u i l).0 b) h)

  -- two clusters that share a taxon: one vertex leads to the other
  pub shared : (u v i : ℕ) → i < n → In (cl u) i → In (cl v) i → Leads t u v ⊎ Leads t v u
  shared u v i l x y = fork t (home_in t i) u v ((cluster_in u i l).0 x) ((cluster_in v i l).0 y)

  -- NO TWO CONFLICT
  pub no_conflict : (u v : ℕ) → Conflict n (cl u) (cl v) → ⊥
  no_conflict u v h =
      let (i, l, x, y) = h.ii in go (shared u v i l x y)
    where
      go : Leads t u v ⊎ Leads t v u → ⊥
      go (inl s) = let (i, l, x, y) = h.io in omega (arith, part_above u v s i l x)
      go (inr s) = let (i, l, x, y) = h.oi in omega (arith, part_above v u s i l y)
