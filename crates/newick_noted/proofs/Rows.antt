-- The table as a list of rows: an edge entered is a row more, or a row marked. Assumes nothing.
use Rattle.std.specs.Prelude.{Option, None}
use Rattle.std.specs.Option.{option_or}
use Prim.Native.Nat.{ℕ, zero, suc, ◌+◌, ◌-◌, ◌≤◌, ◌<◌}
use native.Mathlib.Omega.{arith}
use mathlib.Core.Path.{◌≡◌, refl, sym, ◌∙◌, ap, ap₂}
use mathlib.Core.Logic.{◌⊎◌, inl, inr}
use mathlib.Core.Bool.{Bool, true, false, cond}
use mathlib.Core.List.{List, [], ◌∷◌, ◌++◌, map, append_assoc, map-append}
use lib.Dec.{ltb, eqb}
use lib.ListN.{length, get_or, set, replicate, length-map, length-append, get_or-append}
use lib.Seq.{set_at}
use borrow.Author.Tests.{lt-ltb, ltb-true, ltb-false}
use Rattle.statement.specs.Lowest.{lowest_from, lowest}
use Rattle.statement.specs.Matrix.{weight_limit}
use Rattle.statement.specs.Rows.{filled}
use Rattle.statement.proofs.Lowest.{lowest_same}
use Rattle.newick_edges.specs.Marks.{first_of}
use Rattle.newick_edges.specs.Table.{Table, with_heavy, with_bare, note_heavy, note_bare, found, added, enter, no_table}
use Rattle.newick_noted.proofs.Taxa.{head, first_none, first_kept, both}
use Rattle.newick_noted.proofs.Play.{Entry, entry, enter_all}

-- a row of the table
pub record Held : Type 0 where
  pub cluster : ℕ
  pub weight : ℕ
  pub place : ℕ
  pub many : ℕ

abbrev pub held : Entry → Held
held e = record { cluster = e.cluster; weight = e.weight; place = e.place; many = 0 }

abbrev pub again : Held → Held
again r = record { cluster = r.cluster; weight = r.weight; place = r.place; many = 1 }

abbrev pub table_of : Option ℕ → Option ℕ → List Held → Table
table_of h b R = record {
  heavy = h;
  bare = b;
  rows = length R;
  clusters = filled (map (λ r. r.cluster) R);
  weights = filled (map (λ r. r.weight) R);
  places = filled (map (λ r. r.place) R);
  many = filled (map (λ r. r.many) R);
}

pub no_table_law : no_table ≡ table_of None None []
unfolding filled
no_table_law = refl

unfoldable pub add_to : List Held → Entry → List Held
add_to [] e = held e ∷ []
add_to (r ∷ rs) e = cond (eqb r.cluster e.cluster) (again r ∷ rs) (r ∷ add_to rs e)

-- WHERE a cluster is
abbrev pub pos_of : ℕ → List ℕ → ℕ
pos_of c [] = 0
pos_of c (x ∷ xs) = cond (eqb x c) 0 (suc (pos_of c xs))

lowest_suc : (p : ℕ → Bool) (i m : ℕ) → lowest_from p (suc i) m ≡ suc (lowest_from (λ j. p (suc j)) i m)
unfolding lowest_from
lowest_suc p i zero = refl
lowest_suc p i (suc m) = go (p (suc i)) (lowest_suc p (suc i) m)
  where
    go : (b : Bool) → lowest_from p (suc (suc i)) m ≡ suc (lowest_from (λ j. p (suc j)) (suc i) m)
        → cond b (suc i) (lowest_from p (suc (suc i)) m) ≡ suc (cond b i (lowest_from (λ j. p (suc j)) (suc i) m))
    go true e = refl
    go false e = e

-- the lowest place of a list that passes a test
abbrev pub pos_by : (ℕ → Bool) → List ℕ → ℕ
pos_by p [] = 0
pos_by p (x ∷ xs) = cond (p x) 0 (suc (pos_by p xs))

pos_lowest : (p : ℕ → Bool) (xs : List ℕ) → lowest (λ j. p (get_or xs j 0)) (length xs) ≡ pos_by p xs
unfolding lowest_from
pos_lowest p [] = refl
pos_lowest p (x ∷ xs) = ap (λ (k : ℕ). cond (p x) 0 k) (lowest_suc (λ j. p (get_or (x ∷ xs) j 0)) 0 (length xs) ∙ ap suc (pos_lowest p xs))

pub pos_filled : (p : ℕ → Bool) (xs : List ℕ) → lowest (λ j. p (get_or (filled xs) j 0)) (length xs) ≡ pos_by p xs
unfolding filled
pos_filled p xs =
    lowest_same (λ j. p (get_or (filled xs) j 0)) (λ j. p (get_or xs j 0)) 0 (length xs)
    (λ j a l. ap p (get_or-append xs (replicate (125 - length xs) 0) 0 j (omega arith)))
    ∙ pos_lowest p xs

-- STORES
pub filled_push : (xs : List ℕ) (v : ℕ) → length xs < 125 → set (filled xs) (length xs) v ≡ filled (xs ++ (v ∷ []))
unfolding filled
filled_push xs v h =
    let spare = 125 - length (xs ++ (v ∷ [])) in
    let more : 125 - length xs ≡ suc spare = omega (arith, length-append xs (v ∷ [])) in
    ap (λ (m : ℕ). set (xs ++ replicate m 0) (length xs) v) more
    ∙ set_at xs 0 (replicate spare 0) v (length xs) refl
    ∙ sym (append_assoc xs (v ∷ []) (replicate spare 0))

filled_zero : (xs : List ℕ) → length xs < 125 → filled xs ≡ filled (xs ++ (0 ∷ []))
unfolding filled
filled_zero xs h =
    let spare = 125 - length (xs ++ (0 ∷ [])) in
    let more : 125 - length xs ≡ suc spare = omega (arith, length-append xs (0 ∷ [])) in
    ap (λ (m : ℕ). xs ++ replicate m 0) more ∙ sym (append_assoc xs (0 ∷ []) (replicate spare 0))

-- a store below the length
set_front : (xs ys : List ℕ) (j v : ℕ) → j < length xs → set (xs ++ ys) j v ≡ set xs j v ++ ys
set_front [] ys j v h = absurd (omega arith)
set_front (x ∷ xs) ys zero v h = refl
set_front (x ∷ xs) ys (suc j) v h = ap (λ (s : List ℕ). x ∷ s) (set_front xs ys j v (omega arith))

length_set' : (xs : List ℕ) (j v : ℕ) → length (set xs j v) ≡ length xs
length_set' [] j v = refl
length_set' (x ∷ xs) zero v = refl
length_set' (x ∷ xs) (suc j) v = ap suc (length_set' xs j v)

filled_set : (xs : List ℕ) (j v : ℕ) → j < length xs → set (filled xs) j v ≡ filled (set xs j v)
unfolding filled
filled_set xs j v h =
    set_front xs (replicate (125 - length xs) 0) j v h ∙ ap (λ (k : ℕ). set xs j v ++ replicate (125 - k) 0) (sym (length_set' xs j v))

-- THE TWO WAYS of adding
module _ (e : Entry) where
  abbrev at : List Held → ℕ
  at R = pos_by (λ x. eqb x e.cluster) (map (λ r. r.cluster) R)

  -- it is there
  pub record Marked (R : List Held) : Type 0 where
    pub count : length (add_to R e) ≡ length R
    pub clusters : map (λ r. r.cluster) (add_to R e) ≡ map (λ r. r.cluster) R
    pub weights : map (λ r. r.weight) (add_to R e) ≡ map (λ r. r.weight) R
    pub places : map (λ r. r.place) (add_to R e) ≡ map (λ r. r.place) R
    pub many : map (λ r. r.many) (add_to R e) ≡ set (map (λ r. r.many) R) (at R) 1

  found_there : (R : List Held) → at R < length R → Marked R
  unfolding add_to
  found_there [] h = absurd (omega arith)
  found_there (r ∷ R) h =
      let g = go (eqb r.cluster e.cluster) h (λ k. found_there R k) in
      record { count = g.0; clusters = g.1; weights = g.2; places = g.3; many = g.4 }
    where
      go : (b : Bool) → cond b 0 (suc (at R)) < suc (length R) → (at R < length R → Marked R)
          → (length (cond b (again r ∷ R) (r ∷ add_to R e)) ≡ suc (length R))
          × (map (λ r. r.cluster) (cond b (again r ∷ R) (r ∷ add_to R e)) ≡ r.cluster ∷ map (λ r. r.cluster) R)
          × (map (λ r. r.weight) (cond b (again r ∷ R) (r ∷ add_to R e)) ≡ r.weight ∷ map (λ r. r.weight) R)
          × (map (λ r. r.place) (cond b (again r ∷ R) (r ∷ add_to R e)) ≡ r.place ∷ map (λ r. r.place) R)
          × (map (λ r. r.many) (cond b (again r ∷ R) (r ∷ add_to R e)) ≡ set (r.many ∷ map (λ r. r.many) R) (cond b 0 (suc (at R))) 1)
      go true h ih = (refl, refl, refl, refl, refl)
      go false h ih = let k = ih (omega arith) in (
        ap suc k.count,
        ap (λ (s : List ℕ). r.cluster ∷ s) k.clusters,
        ap (λ (s : List ℕ). r.weight ∷ s) k.weights,
        ap (λ (s : List ℕ). r.place ∷ s) k.places,
        ap (λ (s : List ℕ). r.many ∷ s) k.many,
      )

  -- it is not
  pub not_there : (R : List Held) → length R ≤ at R → add_to R e ≡ R ++ (held e ∷ [])
  unfolding add_to
  not_there [] h = refl
  not_there (r ∷ R) h = go (eqb r.cluster e.cluster) h (λ k. not_there R k)
    where
      go : (b : Bool) → suc (length R) ≤ cond b 0 (suc (at R)) → (length R ≤ at R → add_to R e ≡ R ++ (held e ∷ []))
          → cond b (again r ∷ R) (r ∷ add_to R e) ≡ r ∷ (R ++ (held e ∷ []))
      go true h ih = absurd (omega arith)
      go false h ih = ap (λ (s : List Held). r ∷ s) (ih (omega arith))

  at_most : (R : List Held) → at R ≤ length R
  at_most [] = omega arith
  at_most (r ∷ R) = go (eqb r.cluster e.cluster) (at_most R)
    where
      go : (b : Bool) → at R ≤ length R → cond b 0 (suc (at R)) ≤ suc (length R)
      go true h = omega arith
      go false h = omega arith

  pub longer : (R : List Held) → length R ≤ length (add_to R e)
  unfolding add_to
  longer [] = omega arith
  longer (r ∷ R) = go (eqb r.cluster e.cluster) (longer R)
    where
      go : (b : Bool) → length R ≤ length (add_to R e) → suc (length R) ≤ length (cond b (again r ∷ R) (r ∷ add_to R e))
      go true h = omega arith
      go false h = omega arith

-- two tables with equal fields
tables : (h b : Option ℕ) (m m' : ℕ) (cs cs' ws ws' ps ps' ms ms' : List ℕ) → m ≡ m' → cs ≡ cs' → ws ≡ ws' → ps ≡ ps' → ms ≡ ms'
    → ◌≡◌ {A = Table} (record { heavy = h; bare = b; rows = m; clusters = cs; weights = ws; places = ps; many = ms })
    (record { heavy = h; bare = b; rows = m'; clusters = cs'; weights = ws'; places = ps'; many = ms' })
tables h b m m' cs cs' ws ws' ps ps' ms ms' em ec ew ep es = λ i. record { heavy = h; bare = b; rows = em i; clusters = ec i; weights = ew i; places = ep i; many = es i }

module _ (h b : Option ℕ) (R : List Held) (p c w : ℕ) where
  found_is : found (table_of h b R) c ≡ pos_by (λ x. eqb x c) (map (λ r. r.cluster) R)
  found_is =
      ap (lowest (λ j. eqb (get_or (filled (map (λ r. r.cluster) R)) j 0) c)) (sym (length-map R (λ r. r.cluster)))
      ∙ pos_filled (λ x. eqb x c) (map (λ r. r.cluster) R)

  -- ADDED
  pub added_is : length (add_to R (entry p c w)) ≤ 125 → added (table_of h b R) p c w ≡ table_of h b (add_to R (entry p c w))
  unfolding added
  added_is few = go (both (ltb (found (table_of h b R) c) (length R)))
    where
      j : ℕ
      j = found (table_of h b R) c

      go : (ltb (found (table_of h b R) c) (length R) ≡ true) ⊎ (ltb (found (table_of h b R) c) (length R) ≡ false) → added (table_of h b R) p c w ≡ table_of h b (add_to R (entry p c w))
      go (inl e) =
          let l = ltb-true (found (table_of h b R) c) (length R) e in
          let k = found_there (entry p c w) R (omega (arith, found_is)) in
          rw e (tables h b (length R) (length (add_to R (entry p c w))) _ _ _ _ _ _ _ _ (sym k.count) (ap filled (sym k.clusters)) (ap filled (sym k.weights)) (ap filled (sym k.places))
          (ap (λ (i : ℕ). set (filled (map (λ r. r.many) R)) i 1) found_is
          ∙ filled_set (map (λ r. r.many) R) (pos_by (λ x. eqb x c) (map (λ r. r.cluster) R)) 1 (omega (arith, found_is, length-map R (λ r. r.many)))
          ∙ ap filled (sym k.many)))
      go (inr e) =
          let l = ltb-false (found (table_of h b R) c) (length R) e in
          let q = not_there (entry p c w) R (omega (arith, found_is)) in
          let len : length (add_to R (entry p c w)) ≡ length R + 1 = ap length q ∙ length-append R (held (entry p c w) ∷ []) in
          let room : length R < 125 = omega arith in
          rw (e, lt-ltb (length R) 125 room)
          (tables h b (length R + 1) (length (add_to R (entry p c w))) _ _ _ _ _ _ _ _ (sym len)
          (col (λ r. r.cluster) c room refl ∙ ap (λ (s : List Held). filled (map (λ r. r.cluster) s)) (sym q))
          (col (λ r. r.weight) w room refl ∙ ap (λ (s : List Held). filled (map (λ r. r.weight) s)) (sym q))
          (col (λ r. r.place) p room refl ∙ ap (λ (s : List Held). filled (map (λ r. r.place) s)) (sym q))
          (filled_zero (map (λ r. r.many) R) (omega (arith, length-map R (λ r. r.many))) ∙ ap filled (sym (map-append (λ r. r.many) R (held (entry p c w) ∷ []))) ∙ ap (λ (s : List Held). filled (map (λ r. r.many) s)) (sym q)))
        where
          col : (g : Held → ℕ) (v : ℕ) → length R < 125 → g (held (entry p c w)) ≡ v → set (filled (map g R)) (length R) v ≡ filled (map g (R ++ (held (entry p c w) ∷ [])))
          col g v room e =
              ap (λ (i : ℕ). set (filled (map g R)) i v) (sym (length-map R g)) ∙ filled_push (map g R) v (omega (arith, length-map R g))
              ∙ ap (λ (x : ℕ). filled (map g R ++ (x ∷ []))) (sym e) ∙ ap filled (sym (map-append g R (held (entry p c w) ∷ [])))

  -- ENTERED
  abbrev pub heavy1 : Option ℕ
  heavy1 = cond (eqb w 0) h (cond (ltb weight_limit w) (first_of h p) h)

  abbrev pub bare1 : Option ℕ
  bare1 = cond (eqb w 0) b (cond (eqb c 0) (first_of b p) b)

  abbrev pub rows1 : List Held
  rows1 = cond (eqb w 0) R (cond (eqb c 0) R (add_to R (entry p c w)))

heavy_is : (h b : Option ℕ) (R : List Held) (p w : ℕ) → note_heavy (table_of h b R) p w ≡ table_of (cond (ltb weight_limit w) (first_of h p) h) b R
unfolding note_heavy
heavy_is h b R p w = go (ltb weight_limit w)
  where
    go : (k : Bool) → cond k (with_heavy (table_of h b R) (first_of h p)) (table_of h b R) ≡ table_of (cond k (first_of h p) h) b R
    go true = refl
    go false = refl

pub enter_one : (h b : Option ℕ) (R : List Held) (p c w : ℕ) → length (rows1 h b R p c w) ≤ 125
    → enter (table_of h b R) p c w ≡ table_of (heavy1 h b R p c w) (bare1 h b R p c w) (rows1 h b R p c w)
unfolding enter note_bare
enter_one h b R p c w few = go (eqb w 0) (eqb c 0) few
  where
    go : (x y : Bool) → length (cond x R (cond y R (add_to R (entry p c w)))) ≤ 125
        → cond x (table_of h b R) (cond y (note_bare (note_heavy (table_of h b R) p w) p) (added (note_heavy (table_of h b R) p w) p c w))
        ≡ table_of (cond x h (cond (ltb weight_limit w) (first_of h p) h)) (cond x b (cond y (first_of b p) b)) (cond x R (cond y R (add_to R (entry p c w))))
    go true y few = refl
    go false true few = ap (λ (t : Table). with_bare t (first_of t.bare p)) (heavy_is h b R p w)
    go false false few = ap (λ (t : Table). added t p c w) (heavy_is h b R p w) ∙ added_is (cond (ltb weight_limit w) (first_of h p) h) b R p c w few

-- ALL OF THEM
unfoldable pub heavies : List Entry → List ℕ
heavies [] = []
heavies (e ∷ es) = cond (eqb e.weight 0) (heavies es) (cond (ltb weight_limit e.weight) (e.place ∷ heavies es) (heavies es))

unfoldable pub bares : List Entry → List ℕ
bares [] = []
bares (e ∷ es) = cond (eqb e.weight 0) (bares es) (cond (eqb e.cluster 0) (e.place ∷ bares es) (bares es))

-- those with a cluster that is not empty
unfoldable pub solid : List Entry → List Entry
solid [] = []
solid (e ∷ es) = cond (eqb e.weight 0) (solid es) (cond (eqb e.cluster 0) (solid es) (e ∷ solid es))

unfoldable pub add_all : List Held → List Entry → List Held
add_all R [] = R
add_all R (e ∷ es) = add_all (add_to R e) es

pub all_longer : (es : List Entry) (R : List Held) → length R ≤ length (add_all R es)
unfolding add_all
all_longer [] R = omega arith
all_longer (e ∷ es) R = omega (arith, longer e R, all_longer es (add_to R e))

abbrev pub Placed : List Entry → Type 0
Placed [] = Unit {0}
Placed (e ∷ es) = (0 < e.place) × Placed es

first_step : (h : Option ℕ) (p : ℕ) (x y : Bool) (ps : List ℕ)
    → option_or (cond x h (cond y (first_of h p) h)) (head ps) ≡ option_or h (head (cond x ps (cond y (p ∷ ps) ps)))
unfolding head
first_step h p true y ps = refl
first_step h p false true ps = first_kept h p (head ps)
first_step h p false false ps = refl

pub enter_all_law : (es : List Entry) (h b : Option ℕ) (R : List Held) → length (add_all R (solid es)) ≤ 125
    → enter_all es (table_of h b R) ≡ table_of (option_or h (head (heavies es))) (option_or b (head (bares es))) (add_all R (solid es))
unfolding heavies bares solid add_all head
enter_all_law [] h b R few = ap₂ (λ (x y : Option ℕ). table_of x y R) (sym (first_none h)) (sym (first_none b))
enter_all_law (e ∷ es) h b R few =
    let p = e.place in let c = e.cluster in let w = e.weight in
    let r = rows_step (eqb w 0) (eqb c 0) in
    let few' : length (add_all (rows1 h b R p c w) (solid es)) ≤ 125 = omega (arith, ap length r) in
    ap (enter_all es) (enter_one h b R p c w (omega (arith, all_longer (solid es) (rows1 h b R p c w))))
    ∙ enter_all_law es (heavy1 h b R p c w) (bare1 h b R p c w) (rows1 h b R p c w) few'
    ∙ three (first_step h p (eqb w 0) (ltb weight_limit w) (heavies es)) (first_step b p (eqb w 0) (eqb c 0) (bares es)) r
  where
    rows_step : (x y : Bool) → add_all (cond x R (cond y R (add_to R (entry e.place e.cluster e.weight)))) (solid es) ≡ add_all R (cond x (solid es) (cond y (solid es) (e ∷ solid es)))
    rows_step true y = refl
    rows_step false true = refl
    rows_step false false = refl

    three : {a a' k k' : Option ℕ} {r r' : List Held} → a ≡ a' → k ≡ k' → r ≡ r' → table_of a k r ≡ table_of a' k' r'
    three {a} {a'} {k} {k'} {r} {r'} p q s = ap₂ (λ (x y : Option ℕ). table_of x y r) p q ∙ ap (table_of a' k') s
