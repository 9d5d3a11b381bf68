-- A body that passes the checks holds an accepted tree. Assumes nothing.
use Prim.Native.Nat.{ℕ, ◌+◌, ◌*◌, ◌-◌, ◌≤◌, ◌<◌}
use native.Mathlib.Omega.{arith}
use native.Mathlib.Nat.{pos_of_ne-zero}
use native.Mathlib.Decide.{ℕ_discrete}
use mathlib.Core.Path.{◌≡◌, ap}
use mathlib.Core.Bool.{true, not, ◌&&◌}
use mathlib.Core.List.{List}
use lib.Dec.{ltb, eqb}
use lib.ListN.{length, get_or}
use borrow.Author.Tests.{ne_eqb, eqb-false}
use Rattle.statement.specs.Matrix.{weight_limit}
use Rattle.statement.specs.Tree.{Tree, root, up, cluster_of}
use Rattle.statement.specs.Bytes.{tree_in, tree_length}
use Rattle.statement.specs.Refusals.{AllPassed, Passed, taxa_off, length_off, tree_fits, tree_off, weight_off, twin_off, tree_checks}
use Rattle.statement.proofs.Lowest.{some_of}
use Rattle.statement.proofs.Tests.{same_is, not_less_is, neither_is, not_is, fails_is, none_is, unless_is}
use Rattle.statement.proofs.Accepted.{taxa_passed}
use Rattle.tree_body.proofs.Body.{root_is, link_at, home_at}
use Rattle.tree_read.specs.Accepted.{AcceptedTree, home_in, weight_at}
use Rattle.tree_read.proofs.Reaches.{reaches_is}

-- what each of the checks 9 and 11 to 14 says
shape_passed : (n : ℕ) (body : List ℕ) → Passed (tree_off n body)
    → (length body ≡ tree_length n (get_or body 0 0)) × ((i : ℕ) → i < get_or body 0 0 + n → get_or body (1 + i) 0 ≤ get_or body 0 0)
shape_passed n body p =
    let m = get_or body 0 0 in
    (neither_is (not_is (same_is (length body) (tree_length n m)))
    (none_is (λ i. ltb m (get_or body (1 + i) 0)) (m + n) (λ i. not_less_is m (get_or body (1 + i) 0)))
    ).0 (p 0 (omega arith))

weight_passed : (t : Tree) → Passed (weight_off t) → (v : ℕ) → v < root t → (1 ≤ weight_at t v) × (weight_at t v ≤ weight_limit)
weight_passed t p v l =
    let w = weight_at t v in
    let (positive, most) = (neither_is (eqb-false w 0, ne_eqb w 0) (not_less_is weight_limit w)).0 (p v l) in
    (pos_of_ne-zero positive, most)

twin_passed : (n : ℕ) (t : Tree) → Passed (twin_off n t) → (u v : ℕ) → u < root t → v < root t → cluster_of t u n ≡ cluster_of t v n → u ≡ v
twin_passed n t p u v lu lv e = go (ℕ_discrete u v)
  where
    other : (w : ℕ) → not (eqb u w) ≡ true → cluster_of t u n ≡ cluster_of t w n → w < root t → ⊥
    other w d q l =
        (none_is (λ w. not (eqb u w) && eqb (cluster_of t u n) (cluster_of t w n)) (root t)
        (λ w. unless_is (not (eqb u w)) (fails_is (same_is (cluster_of t u n) (cluster_of t w n))))).0 (p u lu) w l d q

    go : Dec (u ≡ v) → u ≡ v
    go (yes q) = q
    go (no d) = absurd (other v (ap not (ne_eqb u v d)) e lv)

-- what the checks 1, 2 and 9 say together
pub record Shape (n : ℕ) (body : List ℕ) : Type 0 where
  pub two : 2 ≤ n
  pub few : n ≤ 64
  pub sized : length body ≡ tree_length n (get_or body 0 0)
  pub edges : get_or body 0 0 + 3 ≤ 2 * n
  pub low : (i : ℕ) → i < get_or body 0 0 + n → get_or body (1 + i) 0 ≤ get_or body 0 0

pub shape_of : (n : ℕ) (body : List ℕ) → Passed (taxa_off n) → Passed (length_off (tree_fits n (length body))) → Passed (tree_off n body) → Shape n body
shape_of n body p1 p2 p9 =
    let (two, few) = (taxa_passed n).0 p1 in
    let (sized, low) = shape_passed n body p9 in
    let fits : tree_fits n (length body) ≡ true = (not_is ((λ e. e), (λ e. e))).0 (p2 0 (omega arith)) in
    let (m, l, e) = some_of (λ m. eqb (length body) (tree_length n m)) (2 * n - 2) fits in
    record { two = two; few = few; sized = sized; edges = omega (arith, (same_is (length body) (tree_length n m)).0 e); low = low }

-- THE CHECKS PASSED
pub tree_accepted : (n : ℕ) (body : List ℕ) → AllPassed (tree_checks n body) → AcceptedTree n (tree_in n body)
tree_accepted n body (p1, (p2, (p9, (p14, (p10, (p11, (p12, (p13, u)))))))) =
    record {
      two = shape.two;
      few = shape.few;
      edges = omega (arith, edges, shape.edges);
      linked = linked;
      housed = λ i l.
          omega (arith, edges, home_at n body shape.sized i l, shape.low (get_or body 0 0 + i) (omega arith), ap (λ (k : ℕ). get_or body k 0) (places i));
      weighed = weight_passed (tree_in n body) p14;
      rooted = λ v l. (not_is (reaches_is (tree_in n body) linked v (omega arith))).0 (p10 v l);
      first = (not_is (same_is (home_in (tree_in n body) 0) (root (tree_in n body)))).0 (p11 0 (omega arith));
      some = λ v l. (fails_is (same_is (cluster_of (tree_in n body) v n) 0)).0 (p12 v l);
      apart = twin_passed n (tree_in n body) p13;
    }
  where
    shape : Shape n body
    shape = shape_of n body p1 p2 p9

    edges : root (tree_in n body) ≡ get_or body 0 0
    edges = root_is n body shape.sized

    places : (i : ℕ) → 1 + (get_or body 0 0 + i) ≡ 1 + get_or body 0 0 + i
    places i = omega arith

    linked : (v : ℕ) → v < root (tree_in n body) → up (tree_in n body) v ≤ root (tree_in n body)
    linked v l =
        let h : v < get_or body 0 0 = omega (arith, edges) in
        omega (arith, edges, link_at n body shape.sized v h, shape.low v (omega arith))
