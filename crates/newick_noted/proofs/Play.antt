-- THE WALK over the tokens of a list of children: the leaves are met and the edges entered, in their order. Assumes nothing.
use Prim.Native.Nat.{ℕ, zero, suc, ◌+◌, ◌-◌, ◌≤◌, ◌<◌}
use native.Mathlib.Omega.{arith}
use mathlib.Core.Path.{◌≡◌, refl, sym, ◌∙◌, ap, ap₂}
use mathlib.Core.List.{List, [], ◌∷◌, ◌++◌}
use lib.ListN.{length, get_or, set, length-set}
use lib.Seq.{get_or-set_same, get_or-set_other}
use Rattle.statement.specs.Sentence.{Numeral, Children, leaf, group, leaf_then, group_then, Fits, Leaf, width, size, past_leaf, past_group, leaves_at}
use Rattle.newick_edges.specs.declared.Met.{Met}
use Rattle.newick_edges.specs.Marks.{meet, mask_of, side}
use Rattle.newick_edges.specs.Table.{Table, enter}
use Rattle.newick_walk.specs.Machine.{Walk, passing, closing, leafing, weighing}
use Rattle.newick_walk.specs.Tokens.{Token, opens, closes, comma, taxon, weight, cut, step_by, play, tokens}
use Rattle.newick_walk.proofs.Steps.{opened_at, closed_at, opens_at, closes_at}
use Rattle.newick_noted.proofs.Taxa.{meet_all}
use Rattle.newick_meaning.proofs.Sizes.{size_leaf, size_node, size_leaf2, size_node2}

-- an edge as the walk enters it
pub record Entry : Type 0 where
  pub place : ℕ
  pub cluster : ℕ
  pub weight : ℕ

abbrev pub entry : ℕ → ℕ → ℕ → Entry
entry p c w = record { place = p; cluster = c; weight = w }

abbrev pub enter_all : List Entry → Table → Table
enter_all [] t = t
enter_all (e ∷ es) t = enter_all es (enter t e.place e.cluster e.weight)

pub enter_append : (xs ys : List Entry) (t : Table) → enter_all (xs ++ ys) t ≡ enter_all ys (enter_all xs t)
enter_append [] ys t = refl
enter_append (x ∷ xs) ys t = enter_append xs ys (enter t x.place x.cluster x.weight)

pub meet_append : (n : ℕ) (xs ys : List Leaf) (m : Met) → meet_all n (xs ++ ys) m ≡ meet_all n ys (meet_all n xs m)
meet_append n [] ys m = refl
meet_append n (x ∷ xs) ys m = meet_append n xs ys _

-- the edges of a list of children at p, where m was met before
unfoldable pub entries_at : ℕ → ℕ → Met → Children → List Entry
entries_at n p m (leaf x w) = entry (p + width x + 1) (side n (mask_of n m.seen (cut x))) (cut w) ∷ []
entries_at n p m (group f w) =
    entries_at n (p + 1) m f ++ (entry (p + 1 + size f + 1 + 1) (side n ((meet_all n (leaves_at (p + 1) f) m).seen - m.seen)) (cut w) ∷ [])
entries_at n p m (leaf_then x w r) =
    entry (p + width x + 1) (side n (mask_of n m.seen (cut x))) (cut w) ∷ entries_at n (past_leaf p x w) (meet n m p (cut x)) r
entries_at n p m (group_then f w r) =
    entries_at n (p + 1) m f
    ++ (entry (p + 1 + size f + 1 + 1) (side n ((meet_all n (leaves_at (p + 1) f) m).seen - m.seen)) (cut w)
    ∷ entries_at n (past_group p f w) (meet_all n (leaves_at (p + 1) f) m) r)

-- what the walk over f has made of u; what was opened before stays
pub record After (n p : ℕ) (m : Met) (t : Table) (f : Children) (u v : Walk) : Type 0 where
  pub at : v.at ≡ p + size f
  pub depth : v.depth ≡ u.depth
  pub room : length v.opened ≡ 131
  pub kept : (j : ℕ) → j < u.depth → get_or v.opened j 0 ≡ get_or u.opened j 0
  pub met : v.met ≡ meet_all n (leaves_at p f) m
  pub table : v.table ≡ enter_all (entries_at n p m f) t

-- before it
pub record Here (p : ℕ) (m : Met) (t : Table) (u : Walk) : Type 0 where
  pub at : u.at ≡ p
  pub room : length u.opened ≡ 131
  pub met : u.met ≡ m
  pub table : u.table ≡ t

module _ (n : ℕ) where
  -- the steps one by one
  leaf_step : (p : ℕ) (m : Met) (t : Table) (u : Walk) (x w : Numeral) → Here p m t u
      → (v : Walk) × ((ts : List Token) → play n (taxon x ∷ weight w ∷ ts) u ≡ play n ts v) × (v.depth ≡ u.depth) × (v.opened ≡ u.opened)
      × Here (p + width x + 1 + width w) (meet n m p (cut x)) (enter t (p + width x + 1) (side n (mask_of n m.seen (cut x))) (cut w)) v
  unfolding play step_by leafing weighing
  leaf_step p m t u x w h = (
    weighing n (leafing n u (cut x) (u.at + width x)) (cut w) (u.at + width x + 1 + width w),
    (λ ts. refl),
    refl,
    refl,
    record {
      at = ap (λ (k : ℕ). k + width x + 1 + width w) h.at;
      room = h.room;
      met = ap₂ (λ (k : Met) (q : ℕ). meet n k q (cut x)) h.met h.at;
      table = ap₂ (λ (k : Table) (q : ℕ). enter k (q + width x + 1) (side n (mask_of n u.met.seen (cut x))) (cut w)) h.table h.at
          ∙ ap (λ (k : Met). enter t (p + width x + 1) (side n (mask_of n k.seen (cut x))) (cut w)) h.met;
    },
  )

  comma_step : (p : ℕ) (m : Met) (t : Table) (u : Walk) → Here p m t u
      → (v : Walk) × ((ts : List Token) → play n (comma ∷ ts) u ≡ play n ts v) × (v.depth ≡ u.depth) × (v.opened ≡ u.opened) × Here (p + 1) m t v
  unfolding play step_by
  comma_step p m t u h =
      (passing u, (λ ts. refl), refl, refl, record { at = ap (λ (k : ℕ). k + 1) h.at; room = h.room; met = h.met; table = h.table })

  pub open_step : (p : ℕ) (m : Met) (t : Table) (u : Walk) → Here p m t u → u.depth < 131
      → (v : Walk) × ((ts : List Token) → play n (opens ∷ ts) u ≡ play n ts v) × (v.depth ≡ u.depth + 1) × (v.opened ≡ set u.opened u.depth m.seen) × Here (p + 1) m t v
  unfolding play step_by
  open_step p m t u h l = (
    opened_at u,
    (λ ts. ap (play n ts) (sym (opens_at u l))),
    refl,
    ap (λ (k : Met). set u.opened u.depth k.seen) h.met,
    record { at = ap (λ (k : ℕ). k + 1) h.at; room = length-set u.opened u.depth u.met.seen ∙ h.room; met = h.met; table = h.table },
  )

  close_step : (p : ℕ) (m : Met) (t : Table) (u : Walk) (d s : ℕ) (w : Numeral) → Here p m t u → u.depth ≡ d + 1 → d < 131 → get_or u.opened d 0 ≡ s
      → (v : Walk) × ((ts : List Token) → play n (closes ∷ weight w ∷ ts) u ≡ play n ts v) × (v.depth ≡ d) × (v.opened ≡ u.opened)
      × Here (p + 1 + 1 + width w) m (enter t (p + 1 + 1) (side n (m.seen - s)) (cut w)) v
  unfolding play step_by weighing
  close_step p m t u d s w h e l g =
      let d' : u.depth - 1 ≡ d = omega arith in
      let b : ℕ = u.met.seen - get_or u.opened (u.depth - 1) 0 in
      let c : closed_at u b ≡ closing u = closes_at u (λ z. omega arith) (omega arith) in
      let b' : b ≡ m.seen - s = ap (λ (k : ℕ). u.met.seen - get_or u.opened k 0) d' ∙ ap (λ (k : ℕ). u.met.seen - k) g ∙ ap (λ (k : Met). k.seen - s) h.met in (
        weighing n (closed_at u b) (cut w) (u.at + 1 + 1 + width w),
        (λ ts. ap (λ (k : Walk). play n ts (step_by n (weight w) k)) (sym c)),
        d',
        refl,
        record {
          at = ap (λ (k : ℕ). k + 1 + 1 + width w) h.at;
          room = h.room;
          met = h.met;
          table = ap₂ (λ (k : Table) (q : ℕ). enter k (q + 1 + 1) (side n b) (cut w)) h.table h.at ∙ ap (λ (k : ℕ). enter t (p + 1 + 1) (side n k) (cut w)) b';
        },
      )

  -- the walk over f, from any place with so much depth left
  unfoldable pub Ran : (f : Children) (l p : ℕ) (m : Met) (t : Table) → Type 0
  Ran f l p m t = (u : Walk) → u.depth + l ≤ 130 → Here p m t u → (v : Walk) × ((ts : List Token) → play n (tokens f ts) u ≡ play n ts v) × After n p m t f u v

  unfoldable pub Passed : (p : ℕ) (m : Met) (t : Table) (front : List Token → List Token) (u : Walk) → Type 0
  Passed p m t front u =
      (v : Walk) × ((ts : List Token) → play n (front ts) u ≡ play n ts v) × (v.depth ≡ u.depth) × ((j : ℕ) → j < u.depth → get_or v.opened j 0 ≡ get_or u.opened j 0)
      × Here p m t v

  node_part : (f : Children) (w : Numeral) (l p : ℕ) (m : Met) (t : Table) → Ran f l (p + 1) m t → (u : Walk) → u.depth + suc l ≤ 130 → Here p m t u
      → Passed (p + 1 + size f + 1 + 1 + width w) (meet_all n (leaves_at (p + 1) f) m)
      (enter (enter_all (entries_at n (p + 1) m f) t) (p + 1 + size f + 1 + 1) (side n ((meet_all n (leaves_at (p + 1) f) m).seen - m.seen)) (cut w))
      (λ ts. opens ∷ tokens f (closes ∷ weight w ∷ ts)) u
  unfolding Ran Passed
  node_part f w l p m t ih u d h =
      let o = open_step p m t u h (omega arith) in
      let a = ih o.0 (omega (arith, o.2)) o.4 in
      let b = a.2 in
      let first : get_or o.0.opened u.depth 0 ≡ m.seen = ap (λ (s : List ℕ). get_or s u.depth 0) o.3 ∙ get_or-set_same u.opened u.depth m.seen 0 (omega (arith, h.room)) in
      let c = close_step (p + 1 + size f) (meet_all n (leaves_at (p + 1) f) m) (enter_all (entries_at n (p + 1) m f) t) a.0 u.depth m.seen w
      (record { at = b.at; room = b.room; met = b.met; table = b.table })
      (b.depth ∙ o.2) (omega arith) (b.kept u.depth (omega (arith, o.2)) ∙ first) in (
        c.0,
        (λ ts. o.1 (tokens f (closes ∷ weight w ∷ ts)) ∙ a.1 (closes ∷ weight w ∷ ts) ∙ c.1 ts),
        c.2,
        (λ j l. ap (λ (s : List ℕ). get_or s j 0) c.3 ∙ b.kept j (omega (arith, o.2)) ∙ ap (λ (s : List ℕ). get_or s j 0) o.3 ∙ get_or-set_other u.opened u.depth j m.seen 0 (λ z. omega arith)),
        c.4,
      )

  leaf_part : (x w : Numeral) (p : ℕ) (m : Met) (t : Table) (u : Walk) → Here p m t u
      → Passed (p + width x + 1 + width w) (meet n m p (cut x)) (enter t (p + width x + 1) (side n (mask_of n m.seen (cut x))) (cut w)) (λ ts. taxon x ∷ weight w ∷ ts) u
  unfolding Passed
  leaf_part x w p m t u h = let a = leaf_step p m t u x w h in (a.0, a.1, a.2, (λ j l. ap (λ (s : List ℕ). get_or s j 0) a.3), a.4)

  -- a child and what comes after it
  then_rest : (front : List Token → List Token) (r : Children) (l p : ℕ) (m : Met) (t : Table) (u : Walk) → u.depth + l ≤ 130 → Passed p m t front u → Ran r l (p + 1) m t
      → (v : Walk) × ((ts : List Token) → play n (front (comma ∷ tokens r ts)) u ≡ play n ts v) × (v.depth ≡ u.depth)
      × ((j : ℕ) → j < u.depth → get_or v.opened j 0 ≡ get_or u.opened j 0)
      × Here (p + 1 + size r) (meet_all n (leaves_at (p + 1) r) m) (enter_all (entries_at n (p + 1) m r) t) v
  unfolding Passed Ran
  then_rest front r l p m t u d a ih =
      let c = comma_step p m t a.0 a.4 in
      let b = ih c.0 (omega (arith, c.2, a.2)) c.4 in
      let k = b.2 in (
        b.0,
        (λ ts. a.1 (comma ∷ tokens r ts) ∙ c.1 (tokens r ts) ∙ b.1 ts),
        k.depth ∙ c.2 ∙ a.2,
        (λ j l. k.kept j (omega (arith, c.2, a.2)) ∙ ap (λ (s : List ℕ). get_or s j 0) c.3 ∙ a.3 j l),
        record { at = k.at; room = k.room; met = k.met; table = k.table },
      )

  pub kids_play : (f : Children) (l p : ℕ) (m : Met) (t : Table) → Fits f l → Ran f l p m t
  unfolding Ran Passed tokens leaves_at entries_at
  kids_play (leaf x w) l p m t i u d h =
      let a = leaf_part x w p m t u h in let k = a.4 in
      (a.0, a.1, record { at = omega (arith, k.at, size_leaf x w); depth = a.2; room = k.room; kept = a.3; met = k.met; table = k.table })
  kids_play (group f w) zero p m t i u d h = absurd i
  kids_play (group f w) (suc l) p m t i u d h =
      let a = node_part f w l p m t (kids_play f l (p + 1) m t i) u d h in let k = a.4 in (
        a.0,
        a.1,
        record {
          at = omega (arith, k.at, size_node f w);
          depth = a.2;
          room = k.room;
          kept = a.3;
          met = k.met;
          table = k.table ∙ sym (enter_append (entries_at n (p + 1) m f) _ t);
        },
      )
  kids_play (leaf_then x w r) l p m t i u d h =
      let a = then_rest (λ ts. taxon x ∷ weight w ∷ ts) r l (p + width x + 1 + width w) _ _ u d (leaf_part x w p m t u h) (kids_play r l _ _ _ i) in let k = a.4 in
      (a.0, a.1, record { at = omega (arith, k.at, size_leaf2 x w r); depth = a.2; room = k.room; kept = a.3; met = k.met; table = k.table })
  kids_play (group_then f w r) zero p m t i u d h = absurd i
  kids_play (group_then f w r) (suc l) p m t i u d h =
      let a = then_rest (λ ts. opens ∷ tokens f (closes ∷ weight w ∷ ts)) r (suc l) (p + 1 + size f + 1 + 1 + width w) _ _ u d
      (node_part f w l p m t (kids_play f l (p + 1) m t i.0) u d h) (kids_play r (suc l) _ _ _ i.1) in let k = a.4 in (
        a.0,
        a.1,
        record {
          at = omega (arith, k.at, size_node2 f w r);
          depth = a.2;
          room = k.room;
          kept = a.3;
          met = k.met ∙ sym (meet_append n (leaves_at (p + 1) f) _ m);
          table = k.table ∙ sym (enter_append (entries_at n (p + 1) m f) _ t);
        },
      )
