-- The pairing of document 01's table, found by putting each pair and then the pairs in order, is the one that ranks give. Assumes nothing.
use Prim.Native.Nat.{ℕ, zero, suc, ◌+◌, ◌≤◌, ◌<◌}
use native.Mathlib.Omega.{arith}
use native.Mathlib.Decide.{dec_lt}
use mathlib.Core.Path.{◌≡◌, refl, sym, ◌∙◌, ap, ap₂}
use mathlib.Core.Logic.{◌≢◌}
use borrow.Author.Tests.{lt-ltb, le-ltb}
use Rattle.statement.specs.Table.{choose, Pairing, ordered, lower_first, pairing}
use Rattle.statement.specs.Table
use Rattle.statement.proofs.Rule.{Distinct}
use Rattle.statement.proofs.Instances.{less, rank, least, code, placed}
use Rattle.statement.proofs.Table.{less_yes, less_no, partner_w, code_swap, code_flip, place_swap, place_flip, distinct_swap, distinct_flip}

-- the pairing that ranks give
abbrev ranked : ℕ → ℕ → ℕ → ℕ → Pairing
ranked w x y z = record { place = placed w x y z; byte = code w x y z }

same_pairing : (p q b c : ℕ) → p ≡ q → b ≡ c → ◌≡◌ {A = Pairing} (record { place = p; byte = b }) (record { place = q; byte = c })
same_pairing p q b c e f = ap₂ (λ (i j : ℕ). record { place = i; byte = j }) e f

choose_one : (p : ℕ) → choose p 1 ≡ p
unfolding choose
choose_one zero = refl
choose_one (suc p) = omega (arith, choose_one p)

-- how many of the four are under t
rank_is : (w x y z t a b c d : ℕ) → less w t ≡ a → less x t ≡ b → less y t ≡ c → less z t ≡ d → rank w x y z t ≡ a + b + c + d
rank_is w x y z t a b c d p q r s = omega arith

-- the three cases of an ordered pairing
pub first : (w x y z : ℕ) → x < y → ordered w x y z ≡ record { place = Table.place w x y z; byte = 1 }
unfolding ordered
first w x y z l = rw (lt-ltb x y l)

pub second : (w x y z : ℕ) → y ≤ x → x < z → ordered w x y z ≡ record { place = Table.place w y x z; byte = 2 }
unfolding ordered
second w x y z l m = rw (le-ltb x y l, lt-ltb x z m)

pub third : (w x y z : ℕ) → y ≤ x → z ≤ x → ordered w x y z ≡ record { place = Table.place w y z x; byte = 3 }
unfolding ordered
third w x y z l m = rw (le-ltb x y l, le-ltb x z m)

-- of a pairing whose first taxon is the least
module _ (w x y z : ℕ) (wx : w < x) (wy : w < y) (yz : y < z) where
  rank_w : rank w x y z w ≡ 0
  rank_w = rank_is w x y z w 0 0 0 0 (less_no w w (omega arith)) (less_no x w (omega arith)) (less_no y w (omega arith)) (less_no z w (omega arith))

  code_is : (r : ℕ) → rank w x y z x ≡ r → code w x y z ≡ r
  code_is r e = partner_w (rank w x y z) (least w x y z) w x y z (omega arith) ∙ e

  placed_is : (p q r : ℕ) → rank w x y z x ≡ p → rank w x y z y ≡ q → rank w x y z z ≡ r
      → placed w x y z ≡ w + choose x (suc p) + choose y (suc q) + choose z (suc r)
  placed_is p q r ep eq er =
      let a : choose w (suc (rank w x y z w)) ≡ w = ap (λ (m : ℕ). choose w (suc m)) rank_w ∙ choose_one w in
      let b : choose x (suc (rank w x y z x)) ≡ choose x (suc p) = ap (λ (m : ℕ). choose x (suc m)) ep in
      let c : choose y (suc (rank w x y z y)) ≡ choose y (suc q) = ap (λ (m : ℕ). choose y (suc m)) eq in
      let d : choose z (suc (rank w x y z z)) ≡ choose z (suc r) = ap (λ (m : ℕ). choose z (suc m)) er in
      omega arith

  -- the ranks of the other three, by what stands between x, y and z
  ranks : (p q r s : ℕ) → less x y ≡ p → less x z ≡ q → less y x ≡ r → less z x ≡ s
      → (rank w x y z x ≡ 1 + r + s) × (rank w x y z y ≡ 1 + p) × (rank w x y z z ≡ 2 + q)
  ranks p q r s ep eq er es = (
    omega (arith, less_yes w x wx, less_no x x (omega arith)),
    omega (arith, less_yes w y wy, less_no y y (omega arith), less_no z y (omega arith)),
    omega (arith, less_yes w z (omega arith), less_yes y z yz, less_no z z (omega arith)),
  )

  ordered_is : x ≢ y → x ≢ z → ordered w x y z ≡ ranked w x y z
  ordered_is xy xz = go (dec_lt x y) (dec_lt x z)
    where
      go : Dec (x < y) → Dec (x < z) → ordered w x y z ≡ ranked w x y z
      go (yes l) m =
          let h = ranks 1 1 0 0 (less_yes x y l) (less_yes x z (omega arith)) (less_no y x (omega arith)) (less_no z x (omega arith)) in
          first w x y z l ∙ same_pairing _ _ _ _ (omega (arith, placed_is 1 2 3 h.0 h.1 h.2)) (sym (code_is 1 h.0))
      go (no l) (yes m) =
          let h = ranks 0 1 1 0 (less_no x y (omega arith)) (less_yes x z m) (less_yes y x (omega arith)) (less_no z x (omega arith)) in
          second w x y z (omega arith) m ∙ same_pairing _ _ _ _ (omega (arith, placed_is 2 1 3 h.0 h.1 h.2)) (sym (code_is 2 h.0))
      go (no l) (no m) =
          let h = ranks 0 0 1 1 (less_no x y (omega arith)) (less_no x z (omega arith)) (less_yes y x (omega arith)) (less_yes z x (omega arith)) in
          third w x y z (omega arith) (omega arith) ∙ same_pairing _ _ _ _ (omega (arith, placed_is 3 1 2 h.0 h.1 h.2)) (sym (code_is 3 h.0))

ranked_flip : (w x y z : ℕ) → Distinct w x y z → ranked y z w x ≡ ranked w x y z
ranked_flip w x y z d = same_pairing _ _ _ _ (place_flip w x y z) (code_flip w x y z d)

ranked_swap : (w x y z : ℕ) → Distinct w x y z → ranked x w y z ≡ ranked w x y z
ranked_swap w x y z d = same_pairing _ _ _ _ (place_swap w x y z) (code_swap w x y z d)

ranked_swap_last : (w x y z : ℕ) → Distinct w x y z → ranked w x z y ≡ ranked w x y z
ranked_swap_last w x y z d =
    ranked_flip z y w x (distinct_swap (distinct_flip d)) ∙ ranked_swap y z w x (distinct_flip d) ∙ ranked_flip w x y z d

-- and the two of the pairs
pub first_lower : (a b c d : ℕ) → a < c → lower_first a b c d ≡ ordered a b c d
unfolding lower_first
first_lower a b c d l = rw (lt-ltb a c l)

pub last_lower : (a b c d : ℕ) → c ≤ a → lower_first a b c d ≡ ordered c d a b
unfolding lower_first
last_lower a b c d l = rw (le-ltb a c l)

lower_first_is : (a b c d : ℕ) → a < b → c < d → Distinct a b c d → lower_first a b c d ≡ ranked a b c d
lower_first_is a b c d ab cd dis = go (dec_lt a c)
  where
    go : Dec (a < c) → lower_first a b c d ≡ ranked a b c d
    go (yes l) = first_lower a b c d l ∙ ordered_is a b c d ab l cd dis.xy dis.xz
    go (no l) =
        let ca : c < a = let ne = dis.wy in omega arith in
        last_lower a b c d (omega arith) ∙ ordered_is c d a b cd ca ab (λ e. dis.wz (sym e)) (λ e. dis.xz (sym e)) ∙ ranked_flip a b c d dis

-- THE TIE: document 01's pairing is the ranked one
pub pairing_is : (w x y z : ℕ) → Distinct w x y z → pairing w x y z ≡ ranked w x y z
pairing_is w x y z d = go (dec_lt w x) (dec_lt y z)
  where
    lf : (a b p q s t : ℕ) → a ≡ p → b ≡ q → (c e : ℕ) → c ≡ s → e ≡ t → lower_first a b c e ≡ lower_first p q s t
    lf a b p q s t i j c e k l = ap₂ (λ (m n : ℕ). lower_first m n c e) i j ∙ ap₂ (λ (m n : ℕ). lower_first p q m n) k l

    go : Dec (w < x) → Dec (y < z) → pairing w x y z ≡ ranked w x y z
    go (yes l) (yes m) = lf _ _ w x y z (omega arith) (omega arith) _ _ (omega arith) (omega arith) ∙ lower_first_is w x y z l m d
    go (no l) (yes m) =
        let ne = d.wx in
        lf _ _ x w y z (omega arith) (omega arith) _ _ (omega arith) (omega arith) ∙ lower_first_is x w y z (omega arith) m (distinct_swap d) ∙ ranked_swap w x y z d
    go (yes l) (no m) =
        let ne = d.yz in
        let e = distinct_flip (distinct_swap (distinct_flip d)) in
        lf _ _ w x z y (omega arith) (omega arith) _ _ (omega arith) (omega arith) ∙ lower_first_is w x z y l (omega arith) e ∙ ranked_swap_last w x y z d
    go (no l) (no m) =
        let ne = d.wx in
        let me = d.yz in
        let e = distinct_flip (distinct_swap (distinct_flip (distinct_swap d))) in
        lf _ _ x w z y (omega arith) (omega arith) _ _ (omega arith) (omega arith) ∙ lower_first_is x w z y (omega arith) (omega arith) e
        ∙ ranked_swap_last x w y z (distinct_swap d) ∙ ranked_swap w x y z d
