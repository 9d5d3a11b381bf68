-- The taxa and the rows of a tree in another order, or with another root. Assumes nothing.
use Prim.Native.Nat.{ℕ, ◌+◌, ◌<◌}
use mathlib.Core.Path.{◌≡◌, refl, sym, ◌∙◌, ap, ap₂}
use mathlib.Core.Bool.{Bool, true, false, cond, not, ◌||◌}
use mathlib.Core.List.{List, [], ◌∷◌, ◌++◌, map, append_assoc, map-append}
use lib.Dec.{eqb}
use Rattle.statement.specs.Cluster.{group_of}
use Rattle.statement.specs.Rows.{Row, row}
use Rattle.statement.specs.Sentence.{Numeral, Children, leaf, group, leaf_then, group_then, Edge, edge_at, value, size, among, beyond, taxa_of, edges_at, split_made, kept_edges, past_leaf, past_group, row_of}
use Rattle.newick_noted.proofs.Groups.{group_same}
use Rattle.newick_noted.proofs.Taxa.{Good, good_disjoint, among_append}
use Rattle.statement.specs.Moves.{Child, single, inner, only, with, join, Ordered, same, swap_last, swap, inside, first, later, then}
use Rattle.newick_moves.proofs.Shuffle as sh
use Rattle.newick_moves.proofs.Shuffle.{Shuffle, still, equal, front, behind, cross, raise, turn, among_same}

unfoldable pub cluster_for : ℕ → List ℕ → ℕ
cluster_for n xs = group_of (beyond xs) n

pub cluster_same : (n : ℕ) {xs ys : List ℕ} → Shuffle xs ys → cluster_for n xs ≡ cluster_for n ys
unfolding cluster_for
cluster_same n {xs} {ys} s = group_same (beyond xs) (beyond ys) n (λ x l. ap₂ (λ (a b : Bool). cond a (not b) b) (among_same 0 s) (among_same x s))

-- the rows of all the edges, those of length 0 too
unfoldable pub raw_rows : ℕ → Children → List Row
raw_rows n (leaf x w) = row (cluster_for n (value x ∷ [])) (value w) ∷ []
raw_rows n (group f w) = raw_rows n f ++ (row (cluster_for n (taxa_of f)) (value w) ∷ [])
raw_rows n (leaf_then x w r) = row (cluster_for n (value x ∷ [])) (value w) ∷ raw_rows n r
raw_rows n (group_then f w r) = raw_rows n f ++ (row (cluster_for n (taxa_of f)) (value w) ∷ raw_rows n r)

pub raw_rows_law : (n p : ℕ) (f : Children) → map (row_of n) (edges_at p f) ≡ raw_rows n f
unfolding raw_rows edges_at split_made cluster_for
raw_rows_law n p (leaf x w) = refl
raw_rows_law n p (group f w) =
    map-append (row_of n) (edges_at (p + 1) f) (edge_at (p + 1 + size f + 1 + 1) (taxa_of f) w ∷ []) ∙ ap (λ (s : List Row). s ++ (row (cluster_for n (taxa_of f)) (value w) ∷ [])) (raw_rows_law n (p + 1) f)
raw_rows_law n p (leaf_then x w r) = ap (λ (s : List Row). row (cluster_for n (value x ∷ [])) (value w) ∷ s) (raw_rows_law n (past_leaf p x w) r)
raw_rows_law n p (group_then f w r) =
    map-append (row_of n) (edges_at (p + 1) f) (edge_at (p + 1 + size f + 1 + 1) (taxa_of f) w ∷ edges_at (past_group p f w) r)
    ∙ ap₂ (λ (s t : List Row). s ++ (row (cluster_for n (taxa_of f)) (value w) ∷ t)) (raw_rows_law n (p + 1) f) (raw_rows_law n (past_group p f w) r)

-- without those of length 0
unfoldable pub kept_rows : List Row → List Row
kept_rows [] = []
kept_rows (r ∷ rs) = cond (eqb r.weight 0) (kept_rows rs) (r ∷ kept_rows rs)

pub kept_rows_law : (n : ℕ) (es : List Edge) → map (row_of n) (kept_edges es) ≡ kept_rows (map (row_of n) es)
unfolding kept_edges kept_rows
kept_rows_law n [] = refl
kept_rows_law n (e ∷ es) = go (eqb e.weight 0) (kept_rows_law n es)
  where
    go : (b : Bool) → map (row_of n) (kept_edges es) ≡ kept_rows (map (row_of n) es)
        → map (row_of n) (cond b (kept_edges es) (e ∷ kept_edges es)) ≡ cond b (kept_rows (map (row_of n) es)) (row_of n e ∷ kept_rows (map (row_of n) es))
    go true h = h
    go false h = ap (λ (s : List Row). row_of n e ∷ s) h

pub kept_same : {xs ys : List Row} → Shuffle xs ys → Shuffle (kept_rows xs) (kept_rows ys)
unfolding kept_rows
kept_same sh.none = sh.none
kept_same (sh.keep x {xs} {ys} s) = go (eqb x.weight 0) (kept_same s)
  where
    go : (b : Bool) → Shuffle (kept_rows xs) (kept_rows ys) → Shuffle (cond b (kept_rows xs) (x ∷ kept_rows xs)) (cond b (kept_rows ys) (x ∷ kept_rows ys))
    go true k = k
    go false k = sh.keep x k
kept_same (sh.swap x y xs) = go (eqb x.weight 0) (eqb y.weight 0)
  where
    go : (a b : Bool) → let k = kept_rows xs in Shuffle (cond a (cond b k (y ∷ k)) (x ∷ cond b k (y ∷ k))) (cond b (cond a k (x ∷ k)) (y ∷ cond a k (x ∷ k)))
    go true true = still _
    go true false = still _
    go false true = still _
    go false false = sh.swap x y (kept_rows xs)
kept_same (sh.then s t) = sh.then (kept_same s) (kept_same t)

-- A CHILD's taxa and rows
abbrev taxa_c : Child → List ℕ
taxa_c (single x w) = value x ∷ []
taxa_c (inner f w) = taxa_of f

rows_c : ℕ → Child → List Row
rows_c n (single x w) = row (cluster_for n (value x ∷ [])) (value w) ∷ []
rows_c n (inner f w) = raw_rows n f ++ (row (cluster_for n (taxa_of f)) (value w) ∷ [])

taxa_only : (a : Child) → taxa_of (only a) ≡ taxa_c a
unfolding taxa_of
taxa_only (single x w) = refl
taxa_only (inner f w) = refl

taxa_with : (a : Child) (r : Children) → taxa_of (with a r) ≡ taxa_c a ++ taxa_of r
unfolding taxa_of
taxa_with (single x w) r = refl
taxa_with (inner f w) r = refl

rows_only : (n : ℕ) (a : Child) → raw_rows n (only a) ≡ rows_c n a
unfolding raw_rows rows_c
rows_only n (single x w) = refl
rows_only n (inner f w) = refl

rows_with : (n : ℕ) (a : Child) (r : Children) → raw_rows n (with a r) ≡ rows_c n a ++ raw_rows n r
unfolding raw_rows rows_c
rows_with n (single x w) r = refl
rows_with n (inner f w) r = sym (append_assoc (raw_rows n f) (row (cluster_for n (taxa_of f)) (value w) ∷ []) (raw_rows n r))

exchange : {A : Type 0} (a b c : List A) → Shuffle (a ++ (b ++ c)) (b ++ (a ++ c))
exchange a b c = sh.then (equal (sym (append_assoc a b c))) (sh.then (behind c (cross a b)) (equal (append_assoc b a c)))

pub ordered_taxa : {f g : Children} → Ordered f g → Shuffle (taxa_of f) (taxa_of g)
unfolding taxa_of
ordered_taxa (same {f}) = still (taxa_of f)
ordered_taxa (swap_last a b) =
    sh.then (equal (taxa_with a (only b) ∙ ap (λ (s : List ℕ). taxa_c a ++ s) (taxa_only b)))
    (sh.then (cross (taxa_c a) (taxa_c b)) (equal (sym (taxa_with b (only a) ∙ ap (λ (s : List ℕ). taxa_c b ++ s) (taxa_only a)))))
ordered_taxa (swap a b r) =
    sh.then (equal (taxa_with a (with b r) ∙ ap (λ (s : List ℕ). taxa_c a ++ s) (taxa_with b r)))
    (sh.then (exchange (taxa_c a) (taxa_c b) (taxa_of r)) (equal (sym (taxa_with b (with a r) ∙ ap (λ (s : List ℕ). taxa_c b ++ s) (taxa_with a r)))))
ordered_taxa (inside w o) = ordered_taxa o
ordered_taxa (first w r o) = behind (taxa_of r) (ordered_taxa o)
ordered_taxa (later a {r} {s} o) = sh.then (equal (taxa_with a r)) (sh.then (front (taxa_c a) (ordered_taxa o)) (equal (sym (taxa_with a s))))
ordered_taxa (then o p) = sh.then (ordered_taxa o) (ordered_taxa p)

pub ordered_rows : (n : ℕ) {f g : Children} → Ordered f g → Shuffle (raw_rows n f) (raw_rows n g)
unfolding raw_rows
ordered_rows n (same {f}) = still (raw_rows n f)
ordered_rows n (swap_last a b) =
    sh.then (equal (rows_with n a (only b) ∙ ap (λ (s : List Row). rows_c n a ++ s) (rows_only n b)))
    (sh.then (cross (rows_c n a) (rows_c n b)) (equal (sym (rows_with n b (only a) ∙ ap (λ (s : List Row). rows_c n b ++ s) (rows_only n a)))))
ordered_rows n (swap a b r) =
    sh.then (equal (rows_with n a (with b r) ∙ ap (λ (s : List Row). rows_c n a ++ s) (rows_with n b r)))
    (sh.then (exchange (rows_c n a) (rows_c n b) (raw_rows n r)) (equal (sym (rows_with n b (with a r) ∙ ap (λ (s : List Row). rows_c n b ++ s) (rows_with n a r)))))
ordered_rows n (inside {f} {g} w o) =
    sh.then (behind (row (cluster_for n (taxa_of f)) (value w) ∷ []) (ordered_rows n o))
    (equal (ap (λ (c : ℕ). raw_rows n g ++ (row c (value w) ∷ [])) (cluster_same n (ordered_taxa o))))
ordered_rows n (first {f} {g} w r o) =
    sh.then (behind (row (cluster_for n (taxa_of f)) (value w) ∷ raw_rows n r) (ordered_rows n o))
    (equal (ap (λ (c : ℕ). raw_rows n g ++ (row c (value w) ∷ raw_rows n r)) (cluster_same n (ordered_taxa o))))
ordered_rows n (later a {r} {s} o) = sh.then (equal (rows_with n a r)) (sh.then (front (rows_c n a) (ordered_rows n o)) (equal (sym (rows_with n a s))))
ordered_rows n (then o p) = sh.then (ordered_rows n o) (ordered_rows n p)

pub join_rows : (n : ℕ) (f s : Children) → raw_rows n (join f s) ≡ raw_rows n f ++ raw_rows n s
unfolding join raw_rows
join_rows n (leaf x w) s = refl
join_rows n (group f w) s = sym (append_assoc (raw_rows n f) (row (cluster_for n (taxa_of f)) (value w) ∷ []) (raw_rows n s))
join_rows n (leaf_then x w r) s = ap (λ (t : List Row). row (cluster_for n (value x ∷ [])) (value w) ∷ t) (join_rows n r s)
join_rows n (group_then f w r) s =
    ap (λ (t : List Row). raw_rows n f ++ (row (cluster_for n (taxa_of f)) (value w) ∷ t)) (join_rows n r s)
    ∙ sym (append_assoc (raw_rows n f) (row (cluster_for n (taxa_of f)) (value w) ∷ raw_rows n r) (raw_rows n s))

-- the two sides of an edge that all n taxa stand at have one cluster
pub two_sides : (n : ℕ) → 0 < n → (xs ys : List ℕ) → Good n [] (xs ++ ys) → ((x : ℕ) → x < n → among x (xs ++ ys) ≡ true) → cluster_for n xs ≡ cluster_for n ys
unfolding cluster_for
two_sides n some xs ys g all = group_same (beyond xs) (beyond ys) n (λ x l. go (among 0 xs) (among x xs) (among 0 ys) (among x ys) (other 0 some) (other x l))
  where
    one : (a b : Bool) → (a || b) ≡ true → (a ≡ true → b ≡ false) → b ≡ not a
    one true b e f = f refl
    one false b e f = e

    other : (x : ℕ) → x < n → among x ys ≡ not (among x xs)
    other x l = one (among x xs) (among x ys) (sym (among_append x xs ys) ∙ all x l) (λ e. good_disjoint n [] xs ys x g e)

    twice : (b : Bool) → not (not b) ≡ b
    twice true = refl
    twice false = refl

    go : (a b c d : Bool) → c ≡ not a → d ≡ not b → cond a (not b) b ≡ cond c (not d) d
    go true b c d p q = rw (p, q)
    go false b c d p q = rw (p, q) (sym (twice b))

pub rooted_rows : (n : ℕ) → 0 < n → (f : Children) (w : Numeral) (r : Children) → Good n [] (taxa_of f ++ taxa_of r) → ((x : ℕ) → x < n → among x (taxa_of f ++ taxa_of r) ≡ true)
    → Shuffle (raw_rows n (group_then f w r)) (raw_rows n (join f (group r w)))
unfolding raw_rows
rooted_rows n some f w r g all =
    sh.then (equal (ap (λ (c : ℕ). raw_rows n f ++ (row c (value w) ∷ raw_rows n r)) (two_sides n some (taxa_of f) (taxa_of r) g all)))
    (sh.then (front (raw_rows n f) (turn (sh.then (raise (row (cluster_for n (taxa_of r)) (value w)) (raw_rows n r) []) (equal (ap (λ (s : List Row). row (cluster_for n (taxa_of r)) (value w) ∷ s) (append_none (raw_rows n r)))))))
    (equal (sym (join_rows n f (group r w)))))
  where
    append_none : (s : List Row) → s ++ [] ≡ s
    append_none [] = refl
    append_none (x ∷ s) = ap (λ (t : List Row). x ∷ t) (append_none s)
