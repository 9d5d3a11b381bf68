-- The places that hold a number, and the taxon that stands for a vertex without brackets. Assumes nothing.
use Prim.Native.Nat.{ℕ, zero, suc, ◌+◌, ◌-◌, ◌≤◌, ◌<◌}
use native.Mathlib.Omega.{arith}
use mathlib.Core.Path.{◌≡◌, sym, ◌∙◌, ap}
use mathlib.Core.Bool.{Bool, true, false}
use mathlib.Core.List.{List, [], ◌∷◌}
use lib.Dec.{eqb}
use lib.ListN.{length, get_or}
use Rattle.std.proofs.Common.{min, take, drop}
use Rattle.std.proofs.lemmas.List.{get_or-take, get_or-drop, length-take, length-drop}
use Rattle.statement.proofs.Tests.{fails_is}
use Rattle.statement.specs.Rows.{Mem}
use Rattle.statement.specs.NewickText.{those_from, homed, children}
use Rattle.newick_list.proofs.Room.{alone_is}
use Rattle.newick_list.proofs.Those.{those_skip, those_take, those_end, those_are}
use Rattle.newick_vertex.specs.declared.Arrays.{Arrays}
use Rattle.newick_vertex.specs.Arrays.{having, Lone}
use Rattle.newick_vertex.specs.Held.{held}

pub having_all : (xs : List ℕ) (x e : ℕ) → having xs x 0 e ≡ those_from (λ j. eqb (get_or xs j 0) x) 0 e
having_all xs x e = ap (those_from (λ j. eqb (get_or xs j 0) x) 0) (let z : e - 0 ≡ e = omega arith in z)

-- d numbers that fail are passed over
those_past : (p : ℕ → Bool) (e i d : ℕ) → i + d ≤ e → ((j : ℕ) → i ≤ j → j < i + d → p j ≡ false) → those_from p i (e - i) ≡ those_from p (i + d) (e - (i + d))
those_past p e i zero h f = ap (λ (k : ℕ). those_from p k (e - k)) (let z : i ≡ i + 0 = omega arith in z)
those_past p e i (suc d) h f =
    those_skip p e i (omega arith) (f i (omega arith) (omega arith)) ∙ those_past p e (i + 1) d (omega arith) (λ j a l. f j (omega arith) (omega arith))
    ∙ ap (λ (k : ℕ). those_from p k (e - k)) (let z : i + 1 + d ≡ i + suc d = omega arith in z)

long : (x : ℕ) (xs : List ℕ) → Mem x xs → 0 < length xs
long x [] h = elim h [ ]
long x (y ∷ xs) h = omega arith

module _ (xs : List ℕ) (x : ℕ) where
  -- nothing from i on; something; and the first of all
  none_from : (i e : ℕ) → i ≤ e → ((j : ℕ) → i ≤ j → j < e → eqb (get_or xs j 0) x ≡ false) → having xs x i e ≡ []
  none_from i e h f =
      let d : i + (e - i) ≡ e = omega arith in
      those_past (λ j. eqb (get_or xs j 0) x) e i (e - i) (omega arith) (λ j a l. f j a (omega arith)) ∙ those_end (λ j. eqb (get_or xs j 0) x) e (i + (e - i)) (omega arith)

  some_from : (i e j : ℕ) → i ≤ j → j < e → eqb (get_or xs j 0) x ≡ true → 0 < length (having xs x i e)
  some_from i e j a l h = long j _ (those_are (λ k. eqb (get_or xs k 0) x) i (e - i) j (record { low = a; high = omega arith; test = h }))

  first_of : (i e : ℕ) → i < e → eqb (get_or xs i 0) x ≡ true → ((j : ℕ) → j < i → eqb (get_or xs j 0) x ≡ false) → having xs x 0 e ≡ i ∷ having xs x (i + 1) e
  first_of i e l h f =
      those_past (λ j. eqb (get_or xs j 0) x) e 0 i (omega arith) (λ j _ k. f j (omega arith))
      ∙ ap (λ (k : ℕ). those_from (λ j. eqb (get_or xs j 0) x) k (e - k)) (let z : 0 + i ≡ i = omega arith in z)
      ∙ those_take (λ j. eqb (get_or xs j 0) x) e i l h

-- among a list's first places, and behind some
pub in_front : (xs : List ℕ) (v c : ℕ) → c < length (take v xs) → (c < v) × (get_or (take v xs) c 0 ≡ get_or xs c 0)
in_front xs v c l = let k : c < v = omega (arith, l, length-take v xs) in (k, get_or-take v xs c 0 k)

module _ (xs : List ℕ) (i k : ℕ) where
  pub behind : i + k < length xs → get_or (take (length xs - i) (drop i xs)) k 0 ≡ get_or xs (i + k) 0
  behind l = get_or-take (length xs - i) (drop i xs) k 0 (omega arith) ∙ get_or-drop i xs k 0

  pub behind_length : length (take (length xs - i) (drop i xs)) ≡ length xs - i
  behind_length = length-take (length xs - i) (drop i xs) ∙ (let e : min (length xs - i) (length (drop i xs)) ≡ length xs - i = omega (arith, length-drop i xs) in e)

module _ (a : Arrays) (v : ℕ) where
  abbrev n : ℕ
  n = length a.homes.now

  abbrev at_home : ℕ → Bool
  at_home i = eqb (get_or a.homes.now i 0) v

  abbrev below : ℕ → Bool
  below c = eqb (get_or a.links.now c 0) v

  off : (((v < length a.links.now) × (length (homed (held a) v) ≡ 1)) × (length (children (held a) v) ≡ 0) → ⊥) → Lone (held a) v n
  off f = record { bare = λ h. absurd (omega arith); brackets = λ _. (fails_is (alone_is (held a) v)).1 f }

  pub lone_root : v ≡ length a.links.now → Lone (held a) v n
  lone_root e = off (λ h. omega (arith, h.0.0))

  pub lone_child : (c : ℕ) → c < v → below c ≡ true → Lone (held a) v n
  lone_child c l h = off (λ k. omega (arith, k.1, ap length (having_all a.links.now v v), some_from a.links.now v 0 v c (omega arith) l h))

  pub lone_none : ((i : ℕ) → i < n → at_home i ≡ false) → Lone (held a) v n
  lone_none f = off (λ k. omega (arith, k.0.1, ap length (having_all a.homes.now v n), ap length (none_from a.homes.now v 0 n (omega arith) (λ i _ l. f i l))))

  module _ (i : ℕ) (l : i < n) (here : at_home i ≡ true) (first : (j : ℕ) → j < i → at_home j ≡ false) where
    pub lone_two : (j : ℕ) → i < j → j < n → at_home j ≡ true → Lone (held a) v n
    lone_two j up k h =
        off (λ q. omega (arith, q.0.1, ap length (having_all a.homes.now v n), ap length (first_of a.homes.now v i n l here first), some_from a.homes.now v (i + 1) n j (omega arith) k h))

    pub lone_one : v < length a.links.now → ((c : ℕ) → c < v → below c ≡ false) → ((j : ℕ) → i < j → j < n → at_home j ≡ false) → Lone (held a) v i
    lone_one k kids last =
        let one : homed (held a) v ≡ i ∷ [] = sym (having_all a.homes.now v n) ∙ first_of a.homes.now v i n l here first
        ∙ ap (λ (xs : List ℕ). i ∷ xs) (none_from a.homes.now v (i + 1) n (omega arith) (λ j u w. last j (omega arith) w)) in
        let none : length (children (held a) v) ≡ 0 = ap length (sym (having_all a.links.now v v) ∙ none_from a.links.now v 0 v (omega arith) (λ c _ w. kids c w)) in
        record {
          bare = λ h. ((alone_is (held a) v).1 ((k, ap length one), none), ap (λ (xs : List ℕ). get_or xs 0 0) one);
          brackets = λ h. absurd (omega arith);
        }
