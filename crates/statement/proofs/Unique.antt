-- FULL ANSWERS ARE UNIQUE: two full answers of a matrix, or of a table, are the same rows. Assumes nothing.
use Prim.Native.Nat.{ℕ, suc, ◌^◌, ◌≤◌}
use native.Mathlib.Omega.{arith}
use native.Mathlib.Nat.{le_antisymm}
use mathlib.Core.Path.{◌≡◌, refl, sym, ◌∙◌, ap, ap₂, subst}
use mathlib.Core.Logic.{inl, inr}
use mathlib.Core.List.{List, [], ◌∷◌, map}
use lib.Dec.{T, leb→le}
use lib.IntN.{ℤ, pos}
use lib.Signed.{le_z}
use borrow.Author.Tests.{ne_eqb, eq-eqb}
use Rattle.statement.specs.Cluster.{Across}
use Rattle.statement.specs.Matrix.{distance, Asked, LeastScore}
use Rattle.statement.specs.Rows.{Row, row, clusters, Mem, weight_in, Ascending, FullAnswer}
use Rattle.statement.specs.Growing.{MatrixAnswer, TableAnswer, RepeatAnswer}
use Rattle.statement.proofs.Listed.{asc_unique}

-- ascending rows are their clusters with their weights
rows_by_weight : (low high : ℕ) (all rows : List Row) → Ascending low high (clusters rows) → ((c : ℕ) → low ≤ c → weight_in all c ≡ weight_in rows c)
    → rows ≡ map (λ c. row c (weight_in all c)) (clusters rows)
rows_by_weight low high all [] up same = refl
rows_by_weight low high all (r ∷ rs) up same =
    let own : r.weight ≡ weight_in all r.cluster = sym (same r.cluster up.0 ∙ rw (eq-eqb r.cluster r.cluster refl)) in
    ap₂ (λ (x : Row) (l : List Row). x ∷ l) (ap (row r.cluster) own)
    (rows_by_weight (suc r.cluster) high all rs up.1 (λ c l. same c (omega (arith, up.0)) ∙ rw (ne_eqb r.cluster c (λ e. omega arith))))

same_map : (f g : ℕ → Row) (cs : List ℕ) → ((c : ℕ) → Mem c cs → f c ≡ g c) → map f cs ≡ map g cs
same_map f g [] h = refl
same_map f g (c ∷ cs) h = ap₂ (λ (x : Row) (l : List Row). x ∷ l) (h c (inl refl)) (same_map f g cs (λ b m. h b (inr m)))

-- where a split has one weight
answer_unique : (Supported : ℕ → Type 0) (Weighs : ℕ → ℕ → Type 0) (k : ℕ) → ((c v w : ℕ) → Weighs c v → Weighs c w → v ≡ w)
    → (xs ys : List Row) → FullAnswer Supported Weighs k xs → FullAnswer Supported Weighs k ys → xs ≡ ys
answer_unique Supported Weighs k one xs ys f g =
    let same : clusters xs ≡ clusters ys =
    asc_unique 1 (2 ^ k) (clusters xs) (clusters ys) f.up g.up (λ c. ((λ m. (g.exact c).1 ((f.exact c).0 m)), (λ m. (f.exact c).1 ((g.exact c).0 m)))) in
    rows_by_weight 1 (2 ^ k) xs xs f.up (λ c l. refl)
    ∙ same_map (λ c. row c (weight_in xs c)) (λ c. row c (weight_in ys c)) (clusters xs)
    (λ c m. ap (row c) (one c (weight_in xs c) (weight_in ys c) (f.weigh c m) (g.weigh c (subst (Mem c) same m))))
    ∙ ap (map (λ c. row c (weight_in ys c))) same ∙ sym (rows_by_weight 1 (2 ^ k) ys ys g.up (λ c l. refl))

-- two least scores of the same fours
least_one : (d : ℕ → ℕ → ℕ) (Four : ℕ → ℕ → ℕ → ℕ → Type 0) (v w : ℕ) → LeastScore d Four (pos v) → LeastScore d Four (pos w) → v ≡ w
least_one d Four v w x y = le_antisymm (low v w x y) (low w v y x)
  where
    low : (v w : ℕ) → LeastScore d Four (pos v) → LeastScore d Four (pos w) → v ≤ w
    low v w x y = let (a, a', b, b', z, e) = y.reached in leb→le v w (subst (λ (s : ℤ). T (le_z (pos v) s)) e (x.least a a' b b' z).le)

pub matrix_unique : (n : ℕ) (entries : List ℕ) (k : ℕ) (xs ys : List Row) → MatrixAnswer n entries k xs → MatrixAnswer n entries k ys → xs ≡ ys
matrix_unique n entries k = answer_unique _ _ k (λ c v w x y. least_one (distance n entries) (Asked k c) v w x y)

pub repeat_unique : (n : ℕ) (entries : List ℕ) (k : ℕ) (xs ys : List Row) → RepeatAnswer n entries k xs → RepeatAnswer n entries k ys → xs ≡ ys
repeat_unique n entries k = answer_unique _ _ k (λ c v w x y. least_one (distance n entries) (Across k c) v w x y)

pub table_unique : (bytes : List ℕ) (k : ℕ) (xs ys : List Row) → TableAnswer bytes k xs → TableAnswer bytes k ys → xs ≡ ys
table_unique bytes k = answer_unique _ _ k (λ c v w x y. x ∙ sym y)
