-- Laws of C(p,q), and that the places of the fours of n taxa are below C(n,4). Assumes nothing.
use Prim.Native.Nat.{ℕ, zero, suc, ◌+◌, ◌*◌, ◌-◌, ◌/◌, ◌^◌, ◌≤◌, ◌<◌}
use native.Mathlib.Numerals.{add-one}
use native.Mathlib.Omega.{arith}
use native.Mathlib.Decide.{dec_lt, le_ind}
use native.Mathlib.Nat.{zero-mul, add-mul, mul-add, suc-mul, mul-suc, mul-le-mul, div-eq_of_eq-mul_right, pow-suc, suc-sub-suc, pow-le-pow_right, le_trans}
use mathlib.Core.Path.{◌≡◌, refl, sym, ap}
use Rattle.statement.specs.Table.{choose, place}

pub choose_none : (p q : ℕ) → p < q → choose p q ≡ 0
unfolding choose
choose_none p zero h = absurd (omega arith)
choose_none zero (suc q) h = refl
choose_none (suc p) (suc q) h = omega (arith, choose_none p q (omega arith), choose_none p (suc q) (omega arith))

one_more : (x p q : ℕ) → (p < suc q → x ≡ 0) → x + x * (p - suc q) ≡ x * (p - q)
one_more x p q none = go (dec_lt q p)
  where
    go : Dec (q < p) → x + x * (p - suc q) ≡ x * (p - q)
    go (yes h) = let d : p - q ≡ suc (p - suc q) = omega arith in rw d (omega (arith, mul-suc x (p - suc q)))
    go (no h) = rw (none (omega arith)) (omega (arith, zero-mul (p - suc q), zero-mul (p - q)))

-- (q + 1) C(p,q+1) = C(p,q) (p - q)
pub absorb : (p q : ℕ) → suc q * choose p (suc q) ≡ choose p q * (p - q)
unfolding choose
absorb zero zero = refl
absorb zero (suc q) = omega arith
absorb (suc p) zero = omega (arith, absorb p zero)
absorb (suc p) (suc q) =
    let x = choose p (suc q) in
    let y = choose p (suc (suc q)) in
    let e : suc (suc q) * (x + y) ≡ (choose p q + x) * (p - q) =
    omega (
      arith,
      absorb p q,
      absorb p (suc q),
      mul-add (suc (suc q)) x y,
      add-mul (choose p q) x (p - q),
      suc-mul (suc q) x,
      one_more x p q (choose_none p (suc q)),
    ) in
    rw suc-sub-suc e

-- C(p,q+1) from C(p,q), as a program works it out
pub choose_next : (p q : ℕ) → choose p q * (p - q) / suc q ≡ choose p (suc q)
choose_next p q = div-eq_of_eq-mul_right (omega arith) (sym (absorb p q))

choose_most : (p q : ℕ) → p ≤ 64 → choose p q ≤ 64 ^ q
unfolding choose
choose_most p zero h = omega arith
choose_most p (suc q) h =
    omega (arith, absorb p q, suc-mul q (choose p (suc q)), mul-le-mul (choose_most p q h) (let d : p - q ≤ 64 = omega arith in d), pow-suc 64 q)

-- what it divides fits
pub choose_fits : (p q : ℕ) → p ≤ 64 → q ≤ 4 → choose p q * (p - q) ≤ 64 ^ 5
choose_fits p q h l =
    let d : p - q ≤ 64 = omega arith in mul-le-mul (le_trans (choose_most p q h) (pow-le-pow_right (omega arith) l)) d

choose_grows : (p q : ℕ) → choose p q ≤ choose (suc p) q
unfolding choose
choose_grows p zero = omega arith
choose_grows p (suc q) = omega arith

-- a number below C(p,q), moved on by C(p,q+1), is below C(n,q+1) for any n above p
moved : (t p q n : ℕ) → t < choose p q → p < n → t + choose p (suc q) < choose n (suc q)
unfolding choose
moved t p q n h l =
    omega (arith, le_ind (λ m. choose (suc p) (suc q) ≤ choose m (suc q)) (omega arith) (λ m g e. omega (arith, choose_grows m (suc q))) n l)

pub choose_one : (p : ℕ) → choose p 1 ≡ p
unfolding choose
choose_one zero = refl
choose_one (suc p) = omega (arith, choose_one p)

-- document 01, "Table rule": each four of n taxa has its place in a table of C(n,4) bytes
pub place_below : (a b c d n : ℕ) → a < b → b < c → c < d → d < n → place a b c d < choose n 4
place_below a b c d n ab bc cd dn =
    moved (a + choose b 2 + choose c 3) d 3 n (moved (a + choose b 2) c 2 d (moved a b 1 c (omega (arith, choose_one b)) bc) cd) dn

pub choose_more : (p q : ℕ) → choose (p + 1) (suc q) ≡ choose p q + choose p (suc q)
unfolding choose
choose_more p q = rw add-one

-- THE PLACES OF PAIRS p<q, at C(q,2) + p
pub pair_under : (p q m : ℕ) → p < q → q < m → choose q 2 + p < choose m 2
pair_under p q m pq qm = omega (arith, moved p q 1 m (omega (arith, choose_one q)) qm)

all_pairs : choose 64 2 ≡ 2016
unfolding choose
all_pairs = refl

pub pair_below : (p q : ℕ) → p < q → q < 64 → choose q 2 + p < 2016
pair_below p q pq top = omega (arith, pair_under p q 64 pq top, all_pairs)

-- tell the pairs
pub pair_is : (p q r s : ℕ) → p < q → r < s → choose q 2 + p ≡ choose s 2 + r → (q ≡ s) × (p ≡ r)
pair_is p q r s pq rs e = go (dec_lt q s) (dec_lt s q)
  where
    go : Dec (q < s) → Dec (s < q) → (q ≡ s) × (p ≡ r)
    go (yes h) _ = absurd (omega (arith, pair_under p q s pq h))
    go (no h) (yes g) = absurd (omega (arith, pair_under r s q rs g))
    go (no h) (no g) = let same : q ≡ s = omega arith in (same, omega (arith, ap (λ (m : ℕ). choose m 2) same))
