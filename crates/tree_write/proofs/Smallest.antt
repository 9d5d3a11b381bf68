-- Links and homes as document 01 says, "The tree": the smallest listed cluster strictly containing that of a row, and the smallest listed
-- cluster containing a taxon. Of clusters without conflict that share a taxon, the one in the lower row is part of the other. Assumes nothing.
use Prim.Native.Nat.{ℕ, ◌≤◌, ◌<◌}
use native.Mathlib.Omega.{arith}
use native.Mathlib.Decide.{dec_lt}
use mathlib.Core.Path.{◌≡◌, sym, ◌∙◌, ap}
use mathlib.Core.Logic.{◌⊎◌, inl, inr, ◌↔◌}
use mathlib.Core.Bool.{Bool, true, true≢false}
use mathlib.Core.List.{List}
use lib.Dec.{eqb}
use lib.ListN.{length, length-map}
use Rattle.statement.specs.Cluster.{bit, In, Out}
use Rattle.statement.specs.Lowest.{lowest}
use Rattle.statement.specs.Rows.{Row, clusters, Listed}
use Rattle.statement.specs.Tree.{cluster_at, strictly_in, link_of, home_of}
use Rattle.statement.proofs.Bits.{zero_or_one, lt_bit}
use Rattle.statement.proofs.Listed.{mem_get_d}
use Rattle.statement.proofs.Lowest.{Lowest, lowest_is}
use Rattle.statement.proofs.Tests.{same_is}
use Rattle.statement.proofs.Groups.{Part, Strictly, strictly_is}
use Rattle.statement.proofs.Walks.{cluster_range, ascending}
use Rattle.statement.proofs.Answer.{Clean}

-- row r has THE SMALLEST LISTED CLUSTER that something holds of: it holds there, and every listed cluster that it holds of contains that one;
-- otherwise r is the root, and it holds of none. No lower row has such a cluster
pub record Smallest (n : ℕ) (rows : List Row) (Holds : ℕ → Type 0) (r : ℕ) : Type 0 where
  pub to : r ≤ length rows
  pub holds : r < length rows → Holds (cluster_at rows r)
  pub least : (j : ℕ) → j < length rows → Holds (cluster_at rows j) → Part n (cluster_at rows r) (cluster_at rows j)
  pub otherwise : r ≡ length rows → (j : ℕ) → j < length rows → Holds (cluster_at rows j) → ⊥
  pub lowest : (j : ℕ) → Holds (cluster_at rows j) → r ≤ j

abbrev pub LinkSmallest : ℕ → List Row → ℕ → Type 0
LinkSmallest n rows i = Smallest n rows (Strictly n (cluster_at rows i)) (link_of n rows i)

abbrev pub HomeSmallest : ℕ → List Row → ℕ → Type 0
HomeSmallest n rows taxon = Smallest n rows (λ c. In c taxon) (home_of rows taxon)

-- ROWS WITHOUT CONFLICT
module _ (n : ℕ) (rows : List Row) (clean : Clean n (clusters rows)) where
  listed : (i : ℕ) → i < length rows → Listed (cluster_at rows i) rows
  listed i l = mem_get_d (clusters rows) i (omega (arith, length-map rows (λ r. r.cluster)))

  pub free_at : (i : ℕ) → i < length rows → Out (cluster_at rows i) 0
  free_at i l = clean.free (cluster_at rows i) (listed i l)

  -- two clusters that share a taxon: the one in the lower row is part of the other
  pub nested : (a b t : ℕ) → a ≤ b → b < length rows → t < n → In (cluster_at rows a) t → In (cluster_at rows b) t → Part n (cluster_at rows a) (cluster_at rows b)
  nested a b t le lb lt ia ib i li h = at (zero_or_one (cluster_at rows b) i) (dec_lt a b)
    where
      at : Out (cluster_at rows b) i ⊎ In (cluster_at rows b) i → Dec (a < b) → In (cluster_at rows b) i
      at (inr k) d = k
      at (inl o) (no g) = let e : a ≡ b = omega arith in absurd (omega (arith, ap (λ (x : ℕ). bit (cluster_at rows x) i) e))
      at (inl o) (yes g) =
          let higher = ascending n rows clean.up a b g lb in
          let (j, lj, oj, ij) = lt_bit n (cluster_at rows a) (cluster_at rows b) higher (cluster_range n rows clean.up b lb).1 in
          absurd
          (clean.clean (cluster_at rows a) (cluster_at rows b) (listed a (omega arith)) (listed b lb)
          (record {
            ii = (t, lt, ia, ib);
            io = (i, li, h, o);
            oi = (j, lj, oj, ij);
            oo = (0, omega arith, free_at a (omega arith), free_at b lb);
          }))

  -- so the lowest row of those that share a taxon has the smallest cluster
  smallest_lowest : (Holds : ℕ → Type 0) (p : ℕ → Bool) (t : ℕ) → t < n → ((j : ℕ) → (p j ≡ true) ↔ Holds (cluster_at rows j))
      → ((c : ℕ) → Holds c → In c t) → Smallest n rows Holds (lowest p (length rows))
  smallest_lowest Holds p t l test shared =
      let r : ℕ = lowest p (length rows) in
      let low : Lowest p 0 (length rows) r = lowest_is p 0 (length rows) in
      let here : r < length rows → Holds (cluster_at rows r) = λ h. (test r).0 (low.hit (omega arith)) in
      record {
        to = omega (arith, low.to);
        holds = here;
        least = λ j lj h. let le = first j h (dec_lt j r) in nested r j t le lj l (shared _ (here (omega arith))) (shared _ h);
        otherwise = λ e j lj h. omega (arith, first j h (dec_lt j r));
        lowest = λ j h. first j h (dec_lt j r);
      }
    where
      first : (j : ℕ) → Holds (cluster_at rows j) → Dec (j < lowest p (length rows)) → lowest p (length rows) ≤ j
      first j h (yes g) = absurd (true≢false (sym ((test j).1 h) ∙ (lowest_is p 0 (length rows)).before j (omega arith) g))
      first j h (no g) = omega arith

  pub link_smallest : (i : ℕ) → i < length rows → LinkSmallest n rows i
  unfolding link_of
  link_smallest i l =
      let (some, below) = cluster_range n rows clean.up i l in
      let (t, lt, o, h) = lt_bit n 0 (cluster_at rows i) some below in
      smallest_lowest (Strictly n (cluster_at rows i)) (λ j. strictly_in n (cluster_at rows i) (cluster_at rows j)) t lt
      (λ j. strictly_is n (cluster_at rows i) (cluster_at rows j)) (λ c s. s.part t lt h)

  pub home_smallest : (taxon : ℕ) → taxon < n → HomeSmallest n rows taxon
  unfolding home_of
  home_smallest taxon l =
      smallest_lowest (λ c. In c taxon) (λ j. eqb (bit (cluster_at rows j) taxon) 1) taxon l
      (λ j. same_is (bit (cluster_at rows j) taxon) 1) (λ c h. h)
