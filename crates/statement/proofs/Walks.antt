-- Every walk up the tree of a list ends at its root. Assumes nothing.
use Prim.Native.Nat.{ℕ, zero, suc, ◌+◌, ◌^◌, ◌≤◌, ◌<◌}
use native.Mathlib.Omega.{arith}
use native.Mathlib.Decide.{dec_lt}
use mathlib.Core.Path.{◌≡◌, refl, sym, ◌∙◌, ap}
use mathlib.Core.Bool.{true}
use mathlib.Core.List.{List, map}
use lib.ListN.{length, get_or, length-map, get_or-eq_default}
use Rattle.statement.specs.Rows.{Row, clusters, Ascending}
use Rattle.statement.specs.Tree.{numbers, root, cluster_at, strictly_in, link_of, home_of, tree_of, up, walk}
use Rattle.statement.proofs.Listed.{asc_get_d, asc_mem, mem_get_d}
use Rattle.statement.proofs.Lowest.{Lowest, lowest_is}
use Rattle.statement.proofs.Groups.{Strictly, strictly_is, part_le}

-- the numbers from i on
pub numbers_length : (i m : ℕ) → length (numbers i m) ≡ m
unfolding numbers
numbers_length i zero = refl
numbers_length i (suc m) = ap suc (numbers_length (suc i) m)

pub numbers_at : (i m j : ℕ) → j < m → get_or (numbers i m) j 0 ≡ i + j
unfolding numbers
numbers_at i zero j l = absurd (omega arith)
numbers_at i (suc m) zero l = omega arith
numbers_at i (suc m) (suc j) l = omega (arith, numbers_at (suc i) m j (omega arith))

-- a list made from the numbers below m, at a place
pub map_at : (f : ℕ → ℕ) (i m j other : ℕ) → j < m → get_or (map f (numbers i m)) j other ≡ f (i + j)
unfolding numbers
map_at f i zero j other l = absurd (omega arith)
map_at f i (suc m) zero other l = ap f (omega arith)
map_at f i (suc m) (suc j) other l = map_at f (suc i) m j other (omega arith) ∙ ap f (omega arith)

-- the tree of a list has a vertex for each row and its root above them; a step up goes to the link
pub root_is : (n : ℕ) (rows : List Row) → root (tree_of n rows) ≡ length rows
unfolding tree_of
root_is n rows = length-map (numbers 0 (length rows)) (link_of n rows) ∙ numbers_length 0 (length rows)

pub link_is : (n : ℕ) (rows : List Row) (v other : ℕ) → v < length rows → get_or (tree_of n rows).links v other ≡ link_of n rows v
unfolding tree_of
link_is n rows v other l = map_at (link_of n rows) 0 (length rows) v other l ∙ ap (link_of n rows) (omega arith)

pub home_is : (n : ℕ) (rows : List Row) (taxon : ℕ) → taxon < n → get_or (tree_of n rows).homes taxon 0 ≡ home_of rows taxon
unfolding tree_of
home_is n rows taxon l = map_at (home_of rows) 0 n taxon 0 l ∙ ap (home_of rows) (omega arith)

pub up_is : (n : ℕ) (rows : List Row) (v : ℕ) → v < length rows → up (tree_of n rows) v ≡ link_of n rows v
up_is n rows v l = link_is n rows v (root (tree_of n rows)) l

pub up_root : (n : ℕ) (rows : List Row) (v : ℕ) → length rows ≤ v → up (tree_of n rows) v ≡ length rows
up_root n rows v l = get_or-eq_default (tree_of n rows).links (root (tree_of n rows)) (omega (arith, root_is n rows)) ∙ root_is n rows

module _ (n : ℕ) (rows : List Row) (asc : Ascending 1 (2 ^ n) (clusters rows)) where
  count : length (clusters rows) ≡ length rows
  count = length-map rows (λ r. r.cluster)

  pub cluster_range : (i : ℕ) → i < length rows → (1 ≤ cluster_at rows i) × (cluster_at rows i < 2 ^ n)
  cluster_range i l = asc_mem 1 (2 ^ n) (clusters rows) asc (cluster_at rows i) (mem_get_d (clusters rows) i (omega (arith, count)))

  pub ascending : (i j : ℕ) → i < j → j < length rows → cluster_at rows i < cluster_at rows j
  ascending i j l lj = asc_get_d 1 (2 ^ n) (clusters rows) asc i j l (omega (arith, count))

  -- a cluster strictly in another has a lower number, and so a lower row
  strictly_below : (i j : ℕ) → i < length rows → j < length rows → strictly_in n (cluster_at rows i) (cluster_at rows j) ≡ true → i < j
  strictly_below i j li lj e = go (dec_lt i j) (dec_lt j i)
    where
      inside : Strictly n (cluster_at rows i) (cluster_at rows j)
      inside = (strictly_is n (cluster_at rows i) (cluster_at rows j)).0 e

      le : cluster_at rows i ≤ cluster_at rows j
      le = part_le n (cluster_at rows i) (cluster_at rows j) (cluster_range i li).1 inside.part

      go : Dec (i < j) → Dec (j < i) → i < j
      go (yes l) d = l
      go (no l) (yes k) = absurd (omega (arith, ascending j i k li, le))
      go (no l) (no k) = let same : i ≡ j = omega arith in absurd (inside.other (ap (cluster_at rows) same))

  -- a link is the root or a later row
  pub link_later : (i : ℕ) → i < length rows → (i < link_of n rows i) × (link_of n rows i ≤ length rows)
  unfolding link_of
  link_later i l = (go (dec_lt (link_of n rows i) (length rows)), omega (arith, low.to))
    where
      low : Lowest (λ j. strictly_in n (cluster_at rows i) (cluster_at rows j)) 0 (length rows) (link_of n rows i)
      low = lowest_is (λ j. strictly_in n (cluster_at rows i) (cluster_at rows j)) 0 (length rows)

      go : Dec (link_of n rows i < length rows) → i < link_of n rows i
      go (yes h) = strictly_below i (link_of n rows i) l h (low.hit (omega arith))
      go (no h) = omega arith

  -- so a walk of as many steps as remain ends at the root
  walk_ends : (s v : ℕ) → v ≤ length rows → length rows ≤ s + v → walk (tree_of n rows) s v ≡ length rows
  unfolding walk
  walk_ends zero v l h = omega arith
  walk_ends (suc s) v l h = go (dec_lt v (length rows)) (λ u k. walk_ends s u k)
    where
      go : Dec (v < length rows) → ((u : ℕ) → u ≤ length rows → length rows ≤ s + u → walk (tree_of n rows) s u ≡ length rows)
          → walk (tree_of n rows) s (up (tree_of n rows) v) ≡ length rows
      go (yes k) ih =
          let q = link_later v k in
          ap (walk (tree_of n rows) s) (up_is n rows v k) ∙ ih (link_of n rows v) q.1 (omega (arith, q.0))
      go (no k) ih = ap (walk (tree_of n rows) s) (up_root n rows v (omega arith)) ∙ ih (length rows) (omega arith) (omega arith)

  -- EVERY WALK UP THE TREE OF A LIST ENDS AT ITS ROOT
  pub walks_end : (v : ℕ) → v ≤ length rows → walk (tree_of n rows) (length rows) v ≡ root (tree_of n rows)
  walks_end v l = walk_ends (length rows) v l (omega arith) ∙ sym (root_is n rows)
