-- A TAXON STANDS ONCE AT OR BELOW A VERTEX whose group holds it, and nowhere else: it is at home there, or in the group of exactly one child.
-- Assumes nothing.
use Prim.Native.Nat.{ℕ, zero, suc, ◌+◌, ◌^◌, ◌≤◌, ◌<◌}
use native.Mathlib.Omega.{arith}
use native.Mathlib.Decide.{dec_lt, ℕ_discrete}
use mathlib.Core.Path.{◌≡◌, refl, sym, ◌∙◌, ap, ap₂}
use mathlib.Core.Logic.{◌⊎◌, inl, inr, ◌≢◌}
use mathlib.Core.Bool.{Bool, true, cond}
use mathlib.Core.List.{List, [], ◌∷◌}
use lib.Dec.{ltb, eqb}
use lib.ListN.{length}
use borrow.Author.Tests.{eq-eqb, ne_eqb, lt-ltb, le-ltb}
use Rattle.statement.specs.Cluster.{bit, In, Out, group_of}
use Rattle.statement.specs.Rows.{Row, clusters}
use Rattle.statement.specs.Tree.{cluster_at, link_of, home_of}
use Rattle.statement.proofs.Answer.{Clean}
use Rattle.statement.proofs.Bits.{zero_or_one, lt_bit}
use Rattle.statement.proofs.Groups.{Strictly, group_below, group_bit}
use Rattle.statement.proofs.Walks.{cluster_range, ascending, link_later}
use Rattle.tree_write.proofs.Smallest.{link_smallest, home_smallest, nested}
use Rattle.statement.specs.NewickText.{Shape, shape_of, homed, children}
use Rattle.newick_list.proofs.Sums.{total, total_append, below, below_same}
use Rattle.newick_back.specs.Held.{mask}
use Rattle.newick_back.specs.Drawn.{gathered, taxa_in}
use Rattle.newick_back.proofs.Steps.{taxa_is}
use Rattle.newick_back.proofs.Counts.{below_none, below_one, one, count, count_those, total_zero, total_gathered, mask_total, mask_group}

-- the group at a vertex: its cluster, and all taxa at the root
abbrev pub group_at : ℕ → List Row → ℕ → ℕ
group_at n rows v = cond (ltb v (length rows)) (cluster_at rows v) (group_of (λ i. true) n)

-- sums over the taxa at and below a vertex
pub taxa_total : (t : Shape) (f : ℕ → ℕ) (v : ℕ) → total f (taxa_in t v) ≡ total f (homed t v) + total (λ c. total f (taxa_in t c)) (children t v)
taxa_total t f v =
    ap (total f) (taxa_is t v) ∙ total_append f (homed t v) (gathered (taxa_in t) (children t v))
    ∙ ap (λ (s : ℕ). total f (homed t v) + s) (total_gathered f (taxa_in t) (children t v))

-- only what is below n counts
pub taxa_same : (t : Shape) (f g : ℕ → ℕ) → ((i : ℕ) → i < t.taxa → f i ≡ g i) → (k v : ℕ) → v < k → total f (taxa_in t v) ≡ total g (taxa_in t v)
taxa_same t f g e zero v l = absurd (omega arith)
taxa_same t f g e (suc k) v l =
    taxa_total t f v
    ∙ ap₂ (λ (a b : ℕ). a + b)
    (below_same f g (λ i. eqb (t.home i) v) (λ i. eqb (t.home i) v) t.taxa (λ i h. ap (λ (x : ℕ). cond (eqb (t.home i) v) x 0) (e i h)))
    (below_same (λ c. total f (taxa_in t c)) (λ c. total g (taxa_in t c)) (λ c. eqb (t.link c) v) (λ c. eqb (t.link c) v) v
    (λ c h. ap (λ (x : ℕ). cond (eqb (t.link c) v) x 0) (taxa_same t f g e k c (omega arith))))
    ∙ sym (taxa_total t g v)

module _ (n : ℕ) (rows : List Row) (clean : Clean n (clusters rows)) where
  at_row : (v : ℕ) → v < length rows → group_at n rows v ≡ cluster_at rows v
  at_row v l = rw (lt-ltb v (length rows) l)

  at_root : (v : ℕ) → length rows ≤ v → group_at n rows v ≡ group_of (λ i. true) n
  at_root v l = rw (le-ltb v (length rows) l)

  pub group_range : (v : ℕ) → group_at n rows v < 2 ^ n
  group_range v = go (dec_lt v (length rows))
    where
      go : Dec (v < length rows) → group_at n rows v < 2 ^ n
      go (yes l) = omega (arith, at_row v l, (cluster_range n rows clean.up v l).1)
      go (no l) = omega (arith, at_root v (omega arith), group_below (λ i. true) n)

  module _ (i : ℕ) (li : i < n) where
    all_in : (v : ℕ) → length rows ≤ v → In (group_at n rows v) i
    all_in v l = ap (λ (c : ℕ). bit c i) (at_root v l) ∙ group_bit (λ j. true) n i li

    row_in : (v : ℕ) → v < length rows → bit (group_at n rows v) i ≡ bit (cluster_at rows v) i
    row_in v l = ap (λ (c : ℕ). bit c i) (at_row v l)

    -- what a child holds its link holds
    child_held : (c v : ℕ) → c < length rows → link_of n rows c ≡ v → In (cluster_at rows c) i → In (group_at n rows v) i
    child_held c v l e h = go (dec_lt v (length rows))
      where
        go : Dec (v < length rows) → In (group_at n rows v) i
        go (no k) = all_in v (omega arith)
        go (yes k) =
            let up = ((link_smallest n rows clean c l).holds (omega arith)).part i li h in
            omega (arith, row_in v k, up, ap (λ (x : ℕ). bit (cluster_at rows x) i) e)

    -- a lower vertex that holds the taxon has its link no higher
    link_close : (c v : ℕ) → c < v → v ≤ length rows → In (cluster_at rows c) i → In (group_at n rows v) i → link_of n rows c ≤ v
    link_close c v l lv hc hv = go (dec_lt v (length rows))
      where
        go : Dec (v < length rows) → link_of n rows c ≤ v
        go (no k) = omega (arith, (link_later n rows clean.up c (omega arith)).1)
        go (yes k) =
            let h : In (cluster_at rows v) i = sym (row_in v k) ∙ hv in
            let inside : Strictly n (cluster_at rows c) (cluster_at rows v) =
            record { part = nested n rows clean c v i (omega arith) k li hc h; other = λ e. omega (arith, ascending n rows clean.up c v l k) } in
            (link_smallest n rows clean c (omega arith)).lowest v inside

    -- the last vertex before j that holds the taxon
    last : (j : ℕ) → home_of rows i < j → j ≤ length rows
        → (c : ℕ) × (c < j) × In (cluster_at rows c) i × ((d : ℕ) → c < d → d < j → Out (cluster_at rows d) i)
    last zero l k = absurd (omega arith)
    last (suc j) l k = go (zero_or_one (cluster_at rows j) i) (dec_lt (home_of rows i) j) (λ q. last j q (omega arith))
      where
        go : Out (cluster_at rows j) i ⊎ In (cluster_at rows j) i → Dec (home_of rows i < j)
            → (home_of rows i < j → (c : ℕ) × (c < j) × In (cluster_at rows c) i × ((d : ℕ) → c < d → d < j → Out (cluster_at rows d) i))
            → (c : ℕ) × (c < suc j) × In (cluster_at rows c) i × ((d : ℕ) → c < d → d < suc j → Out (cluster_at rows d) i)
        go (inr h) q ih = (j, omega arith, h, λ d a b. absurd (omega arith))
        go (inl o) (no q) ih =
            let e : home_of rows i ≡ j = omega arith in
            absurd (omega (arith, (home_smallest n rows clean i li).holds (omega arith), ap (λ (x : ℕ). bit (cluster_at rows x) i) e))
        go (inl o) (yes q) ih = let (c, a, h, f) = ih q in (c, omega arith, h, λ d b k. later d b k (ℕ_discrete d j) f)
          where
            later : {c : ℕ} (d : ℕ) → c < d → d < suc j → Dec (d ≡ j) → ((d : ℕ) → c < d → d < j → Out (cluster_at rows d) i) → Out (cluster_at rows d) i
            later d b k (yes e) f = ap (λ (x : ℕ). bit (cluster_at rows x) i) e ∙ o
            later d b k (no e) f = f d b (omega (arith, e))

    abbrev holds : ℕ → ℕ
    holds c = bit (cluster_at rows c) i

    abbrev linked : ℕ → ℕ → Bool
    linked v c = eqb (link_of n rows c) v

    term_none : (v c : ℕ) → (link_of n rows c ≡ v → In (cluster_at rows c) i → ⊥) → cond (linked v c) (holds c) 0 ≡ 0
    term_none v c f = go (ℕ_discrete (link_of n rows c) v) (zero_or_one (cluster_at rows c) i)
      where
        go : Dec (link_of n rows c ≡ v) → Out (cluster_at rows c) i ⊎ In (cluster_at rows c) i → cond (linked v c) (holds c) 0 ≡ 0
        go (no o) h = rw (ne_eqb (link_of n rows c) v o)
        go (yes e) (inl o) = rw (eq-eqb (link_of n rows c) v e) o
        go (yes e) (inr h) = absurd (f e h)

    home_low : (v : ℕ) → v ≤ length rows → In (group_at n rows v) i → home_of rows i ≤ v
    home_low v lv h = go (dec_lt v (length rows))
      where
        go : Dec (v < length rows) → home_of rows i ≤ v
        go (yes k) = (home_smallest n rows clean i li).lowest v (sym (row_in v k) ∙ h)
        go (no k) = omega (arith, (home_smallest n rows clean i li).to)

    home_in_law : (v : ℕ) → home_of rows i ≡ v → In (group_at n rows v) i
    home_in_law v e = go (dec_lt v (length rows))
      where
        go : Dec (v < length rows) → In (group_at n rows v) i
        go (yes k) = row_in v k ∙ ap (λ (x : ℕ). bit (cluster_at rows x) i) (sym e) ∙ (home_smallest n rows clean i li).holds (omega arith)
        go (no k) = all_in v (omega arith)

    -- the last one before v is linked to v, and no other
    one_child : (v : ℕ) → v ≤ length rows → In (group_at n rows v) i → home_of rows i < v → below holds (linked v) v ≡ 1
    one_child v lv h l =
        let (c, lc, hc, f) = last v l lv in
        let near : link_of n rows c ≤ v = link_close c v lc lv hc h in
        let later = (link_later n rows clean.up c (omega arith)).0 in
        let up : link_of n rows c ≡ v = top c lc hc f near later (dec_lt (link_of n rows c) v) in
        below_one holds (linked v) v c 1 lc (rw (eq-eqb (link_of n rows c) v up) hc)
        (λ d ld o. term_none v d (λ e hd. other c lc hc f d ld o e hd (dec_lt d c)))
      where
        top : (c : ℕ) → c < v → In (cluster_at rows c) i → ((d : ℕ) → c < d → d < v → Out (cluster_at rows d) i) → link_of n rows c ≤ v → c < link_of n rows c
            → Dec (link_of n rows c < v) → link_of n rows c ≡ v
        top c lc hc f near later (no k) = omega arith
        top c lc hc f near later (yes k) =
            absurd (omega (arith, f (link_of n rows c) later k, child_held c (link_of n rows c) (omega arith) refl hc, row_in (link_of n rows c) (omega arith)))

        other : (c : ℕ) → c < v → In (cluster_at rows c) i → ((d : ℕ) → c < d → d < v → Out (cluster_at rows d) i) → (d : ℕ) → d < v → d ≢ c
            → link_of n rows d ≡ v → In (cluster_at rows d) i → Dec (d < c) → ⊥
        other c lc hc f d ld o e hd (yes k) = omega (arith, link_close d c k (omega arith) hd (row_in c (omega arith) ∙ hc))
        other c lc hc f d ld o e hd (no k) = omega (arith, f d (omega (arith, o, k)) ld)

    -- AT HOME, OR IN ONE CHILD
    pub once_below : (v : ℕ) → v ≤ length rows → cond (eqb (home_of rows i) v) 1 0 + below holds (linked v) v ≡ bit (group_at n rows v) i
    once_below v lv = go (zero_or_one (group_at n rows v) i) (ℕ_discrete (home_of rows i) v)
      where
        go : Out (group_at n rows v) i ⊎ In (group_at n rows v) i → Dec (home_of rows i ≡ v)
            → cond (eqb (home_of rows i) v) 1 0 + below holds (linked v) v ≡ bit (group_at n rows v) i
        go (inl o) (yes e) = absurd (omega (arith, home_in_law v e))
        go (inl o) (no e) =
            let none = below_none holds (linked v) v (λ c l. term_none v c (λ q h. omega (arith, child_held c v (omega arith) q h))) in
            rw (ne_eqb (home_of rows i) v e) (omega (arith, none, o))
        go (inr h) (yes e) =
            let none = below_none holds (linked v) v (λ c l. term_none v c (λ q k. omega (arith, (home_smallest n rows clean i li).lowest c k))) in
            rw (eq-eqb (home_of rows i) v e) (omega (arith, none, h))
        go (inr h) (no e) = rw (ne_eqb (home_of rows i) v e) (omega (arith, one_child v lv h (omega (arith, e, home_low v lv h)), h))

    pub counted : (k v : ℕ) → v < k → v ≤ length rows → count i (taxa_in (shape_of n rows) v) ≡ bit (group_at n rows v) i
    counted zero v l lv = absurd (omega arith)
    counted (suc k) v l lv =
        taxa_total (shape_of n rows) (one i) v
        ∙ ap₂ (λ (a b : ℕ). a + b) (count_those (λ j. eqb (home_of rows j) v) n i li)
        (below_same (λ c. count i (taxa_in (shape_of n rows) c)) holds (linked v) (linked v) v
        (λ c h. ap (λ (x : ℕ). cond (linked v c) x 0) (counted k c (omega arith) (omega arith) ∙ row_in c (omega arith))))
        ∙ once_below v lv

  -- THE TAXA AT AND BELOW A VERTEX are those of its group
  pub mask_below : (v : ℕ) → v ≤ length rows → mask (taxa_in (shape_of n rows) v) ≡ group_at n rows v
  mask_below v lv =
      mask_total (taxa_in (shape_of n rows) v)
      ∙ taxa_same (shape_of n rows) (λ x. 2 ^ x) (λ x. cond (ltb x n) (2 ^ x) 0) (λ i l. sym (rw (lt-ltb i n l))) (suc v) v (omega arith)
      ∙ mask_group n (group_at n rows v) (taxa_in (shape_of n rows) v) (group_range v) (λ i l. counted i l (suc v) v (omega arith) lv)

  pub mask_cluster : (v : ℕ) → v < length rows → mask (taxa_in (shape_of n rows) v) ≡ cluster_at rows v
  mask_cluster v l = mask_below v (omega arith) ∙ at_row v l

  -- THE WHOLE TEXT has each taxon below n once, and no other
  pub each_once : (i : ℕ) → count i (taxa_in (shape_of n rows) (length rows)) ≡ cond (ltb i n) 1 0
  each_once i = go (dec_lt i n)
    where
      none : (x : ℕ) → n ≤ i → x < n → one i x ≡ 0
      none x l h = rw (ne_eqb x i (λ e. omega arith))

      go : Dec (i < n) → count i (taxa_in (shape_of n rows) (length rows)) ≡ cond (ltb i n) 1 0
      go (yes l) = counted i l (suc (length rows)) (length rows) (omega arith) (omega arith) ∙ all_in i l (length rows) (omega arith) ∙ sym (rw (lt-ltb i n l))
      go (no l) =
          taxa_same (shape_of n rows) (one i) (λ x. 0) (λ x h. none x (omega arith) h) (suc (length rows)) (length rows) (omega arith)
          ∙ total_zero (taxa_in (shape_of n rows) (length rows)) ∙ sym (rw (le-ltb i n (let h : n ≤ i = omega arith in h)))

  -- every vertex has a taxon or a child
  pub full : 0 < n → (v : ℕ) → v ≤ length rows → 0 < length (homed (shape_of n rows) v) + length (children (shape_of n rows) v)
  unfolding total
  full some v lv = let (i, li, h) = member (dec_lt v (length rows)) in go i li h (homed (shape_of n rows) v) (children (shape_of n rows) v) refl refl
    where
      member : Dec (v < length rows) → (i : ℕ) × (i < n) × In (group_at n rows v) i
      member (yes l) =
          let (a, b) = cluster_range n rows clean.up v l in
          let (i, li, _, h) = lt_bit n 0 (cluster_at rows v) a b in
          (i, li, row_in i li v l ∙ h)
      member (no l) = (0, some, all_in 0 some v (omega arith))

      go : (i : ℕ) → i < n → In (group_at n rows v) i → (hs cs : List ℕ) → homed (shape_of n rows) v ≡ hs → children (shape_of n rows) v ≡ cs → 0 < length hs + length cs
      go i li h (x ∷ hs) cs p q = omega arith
      go i li h [] (x ∷ cs) p q = omega arith
      go i li h [] [] p q =
          let a = count_those (λ j. eqb (home_of rows j) v) n i li in
          absurd (omega (arith, once_below i li v lv, h, a, ap (count i) p, ap (total (holds i li)) q))
