-- The table rule keeps the laws of a rule. Assumes nothing.
use Prim.Native.Nat.{ℕ, suc, ◌%◌, ◌^◌, ◌≤◌, ◌<◌}
use native.Mathlib.Omega.{arith}
use native.Mathlib.Decide.{dec_lt, ℕ_discrete}
use mathlib.Core.Path.{◌≡◌, refl, sym, ◌∙◌, ap, ap₂, fun_ext, subst}
use mathlib.Core.Logic.{◌≢◌}
use mathlib.Core.Bool.{Bool, true, false, cond}
use mathlib.Core.List.{List}
use lib.Dec.{T, ltb, eqb}
use lib.ListN.{get_or}
use lib.IntN.{ℤ, pos}
use lib.Signed.{◌≤ℤ◌, le_z}
use borrow.Author.Tests.{lt-ltb, le-ltb, eqb-true, eq-eqb, ne_eqb}
use Rattle.statement.specs.Cluster.{Split}
use Rattle.statement.proofs.Rule.{Laws, Distinct}
use Rattle.statement.proofs.Instances.{less, rank, least, partner, code, place_by, placed, four_rule, table_at, table_rule}

pub less_yes : (a b : ℕ) → a < b → less a b ≡ 1
less_yes a b h = rw (lt-ltb a b h)

pub less_no : (a b : ℕ) → b ≤ a → less a b ≡ 0
less_no a b h = rw (le-ltb a b h)

less_mono : (t a b : ℕ) → a < b → less t a ≤ less t b
less_mono t a b h = go (dec_lt t a) (dec_lt t b)
  where
    go : Dec (t < a) → Dec (t < b) → less t a ≤ less t b
    go (yes p) q = omega (arith, less_yes t a p, less_yes t b (omega arith))
    go (no p) q = omega (arith, less_no t a (omega arith))

-- different taxa of the four have different ranks
rank_first : (w x y z b : ℕ) → w < b → rank w x y z w < rank w x y z b
rank_first w x y z b h =
    omega (arith, less_no w w (omega arith), less_yes w b h, less_mono x w b h, less_mono y w b h, less_mono z w b h)

rank_differ : (w x y z : ℕ) → w ≢ x → rank w x y z w ≢ rank w x y z x
rank_differ w x y z d e = go (dec_lt w x)
  where
    go : Dec (w < x) → ⊥
    go (yes h) = omega (arith, rank_first w x y z x h)
    go (no h) = omega (arith, rank_first x w y z w (omega arith))

-- which of the four is the least
data Which (m w x y z : ℕ) : Type 0 where
  is_w : w ≡ m → Which m w x y z
  is_x : w ≢ m → x ≡ m → Which m w x y z
  is_y : w ≢ m → x ≢ m → y ≡ m → Which m w x y z
  is_z : w ≢ m → x ≢ m → y ≢ m → z ≡ m → Which m w x y z

which : (w x y z : ℕ) → Which (least w x y z) w x y z
which w x y z = go (ℕ_discrete w (least w x y z)) (ℕ_discrete x (least w x y z)) (ℕ_discrete y (least w x y z))
  where
    go : Dec (w ≡ least w x y z) → Dec (x ≡ least w x y z) → Dec (y ≡ least w x y z) → Which (least w x y z) w x y z
    go (yes p) q r = is_w p
    go (no p) (yes q) r = is_x p q
    go (no p) (no q) (yes r) = is_y p q r
    go (no p) (no q) (no r) = is_z p q r (omega arith)

module _ (f : ℕ → ℕ) (m w x y z : ℕ) where
  pub partner_w : w ≡ m → partner f m w x y z ≡ f x
  unfolding partner
  partner_w p = rw (eq-eqb w m p)

  partner_x : w ≢ m → x ≡ m → partner f m w x y z ≡ f w
  unfolding partner
  partner_x p q = rw (ne_eqb w m p, eq-eqb x m q)

  partner_y : w ≢ m → x ≢ m → y ≡ m → partner f m w x y z ≡ f z
  unfolding partner
  partner_y p q r = rw (ne_eqb w m p, ne_eqb x m q, eq-eqb y m r)

  partner_z : w ≢ m → x ≢ m → y ≢ m → partner f m w x y z ≡ f y
  unfolding partner
  partner_z p q r = rw (ne_eqb w m p, ne_eqb x m q, ne_eqb y m r)

other : {a b m : ℕ} → a ≢ b → a ≡ m → b ≢ m
other d p q = d (p ∙ sym q)

partner_swap : (f : ℕ → ℕ) (m w x y z : ℕ) → Distinct w x y z → Which m w x y z → partner f m x w y z ≡ partner f m w x y z
partner_swap f m w x y z d (is_w p) = partner_x f m x w y z (other d.wx p) p ∙ sym (partner_w f m w x y z p)
partner_swap f m w x y z d (is_x p q) = partner_w f m x w y z q ∙ sym (partner_x f m w x y z p q)
partner_swap f m w x y z d (is_y p q r) = partner_y f m x w y z q p r ∙ sym (partner_y f m w x y z p q r)
partner_swap f m w x y z d (is_z p q r s) = partner_z f m x w y z q p r ∙ sym (partner_z f m w x y z p q r)

partner_flip : (f : ℕ → ℕ) (m w x y z : ℕ) → Distinct w x y z → Which m w x y z → partner f m y z w x ≡ partner f m w x y z
partner_flip f m w x y z d (is_w p) = partner_y f m y z w x (other d.wy p) (other d.wz p) p ∙ sym (partner_w f m w x y z p)
partner_flip f m w x y z d (is_x p q) = partner_z f m y z w x (other d.xy q) (other d.xz q) p ∙ sym (partner_x f m w x y z p q)
partner_flip f m w x y z d (is_y p q r) = partner_w f m y z w x r ∙ sym (partner_y f m w x y z p q r)
partner_flip f m w x y z d (is_z p q r s) = partner_x f m y z w x r s ∙ sym (partner_z f m w x y z p q r)

partner_cross : (f : ℕ → ℕ) (m w x y z : ℕ) → Distinct w x y z → f x ≢ f y → f w ≢ f z → Which m w x y z → partner f m w x y z ≢ partner f m w y x z
partner_cross f m w x y z d a b (is_w p) e = a (sym (partner_w f m w x y z p) ∙ e ∙ partner_w f m w y x z p)
partner_cross f m w x y z d a b (is_x p q) e = b (sym (partner_x f m w x y z p q) ∙ e ∙ partner_y f m w y x z p (other d.xy q) q)
partner_cross f m w x y z d a b (is_y p q r) e = b (sym (sym (partner_y f m w x y z p q r) ∙ e ∙ partner_x f m w y x z p r))
partner_cross f m w x y z d a b (is_z p q r s) e = a (sym (sym (partner_z f m w x y z p q r) ∙ e ∙ partner_z f m w y x z p r q))

-- the four taken in another order
rank_swap : (w x y z : ℕ) → rank x w y z ≡ rank w x y z
rank_swap w x y z = fun_ext (λ t. omega arith)

rank_flip : (w x y z : ℕ) → rank y z w x ≡ rank w x y z
rank_flip w x y z = fun_ext (λ t. omega arith)

rank_cross : (w x y z : ℕ) → rank w y x z ≡ rank w x y z
rank_cross w x y z = fun_ext (λ t. omega arith)

pub code_swap : (w x y z : ℕ) → Distinct w x y z → code x w y z ≡ code w x y z
code_swap w x y z d =
    ap₂ (λ (f : ℕ → ℕ) (m : ℕ). partner f m x w y z) (rank_swap w x y z) (omega arith) ∙ partner_swap (rank w x y z) (least w x y z) w x y z d (which w x y z)

pub code_flip : (w x y z : ℕ) → Distinct w x y z → code y z w x ≡ code w x y z
code_flip w x y z d =
    ap₂ (λ (f : ℕ → ℕ) (m : ℕ). partner f m y z w x) (rank_flip w x y z) (omega arith) ∙ partner_flip (rank w x y z) (least w x y z) w x y z d (which w x y z)

code_cross : (w x y z : ℕ) → Distinct w x y z → code w x y z ≢ code w y x z
code_cross w x y z d e =
    partner_cross (rank w x y z) (least w x y z) w x y z d
    (λ q. rank_differ x y w z d.xy (omega arith))
    (λ q. rank_differ w z x y d.wz (omega arith))
    (which w x y z)
    (e ∙ ap₂ (λ (f : ℕ → ℕ) (m : ℕ). partner f m w y x z) (rank_cross w x y z) (omega arith))

-- a code is 1, 2 or 3
rank_most : (w x y z : ℕ) → rank w x y z x ≤ 3
rank_most w x y z = omega (arith, less_no x x (omega arith), less_le w x, less_le y x, less_le z x)
  where
    less_le : (a b : ℕ) → less a b ≤ 1
    less_le a b = go (ltb a b)
      where
        go : (s : Bool) → cond s 1 0 ≤ 1
        go true = omega arith
        go false = omega arith

under : (m a b : ℕ) → a ≡ m → m ≤ b → a ≢ b → a < b
under m a b e l d = omega arith

least_low : (w x y z : ℕ) → (least w x y z ≤ w) × (least w x y z ≤ x) × (least w x y z ≤ y) × (least w x y z ≤ z)
least_low w x y z = (omega arith, omega arith, omega arith, omega arith)

pub code_range : (w x y z : ℕ) → Distinct w x y z → (1 ≤ code w x y z) × (code w x y z ≤ 3)
code_range w x y z d = go (which w x y z)
  where
    go : Which (least w x y z) w x y z → (1 ≤ code w x y z) × (code w x y z ≤ 3)
    go (is_w p) =
        let e = partner_w (rank w x y z) (least w x y z) w x y z p in
        let ne : w < x = under (least w x y z) w x p (least_low w x y z).1 d.wx in
        (omega (arith, e, rank_first w x y z x ne), omega (arith, e, rank_most w x y z))
    go (is_x p q) =
        let e = partner_x (rank w x y z) (least w x y z) w x y z p q in
        let ne : x < w = under (least w x y z) x w q (least_low w x y z).0 (λ e. d.wx (sym e)) in
        (omega (arith, e, rank_first x w y z w ne), omega (arith, e, rank_most x w y z))
    go (is_y p q r) =
        let e = partner_y (rank w x y z) (least w x y z) w x y z p q r in
        let ne : y < z = under (least w x y z) y z r (least_low w x y z).3 d.yz in
        (omega (arith, e, rank_first y z w x z ne), omega (arith, e, rank_most y z w x))
    go (is_z p q r s) =
        let e = partner_z (rank w x y z) (least w x y z) w x y z p q r in
        let ne : z < y = under (least w x y z) z y s (least_low w x y z).2 (λ e. d.yz (sym e)) in
        (omega (arith, e, rank_first z y w x y ne), omega (arith, e, rank_most z y w x))

pub place_swap : (w x y z : ℕ) → placed x w y z ≡ placed w x y z
place_swap w x y z = ap (λ (f : ℕ → ℕ). place_by f x w y z) (rank_swap w x y z) ∙ omega arith

pub place_flip : (w x y z : ℕ) → placed y z w x ≡ placed w x y z
place_flip w x y z = ap (λ (f : ℕ → ℕ). place_by f y z w x) (rank_flip w x y z) ∙ omega arith

place_cross : (w x y z : ℕ) → placed w y x z ≡ placed w x y z
place_cross w x y z = ap (λ (f : ℕ → ℕ). place_by f w y x z) (rank_cross w x y z) ∙ omega arith

pub distinct_swap : {w x y z : ℕ} → Distinct w x y z → Distinct x w y z
distinct_swap a = record { wx = λ e. a.wx (sym e); wy = a.xy; wz = a.xz; xy = a.wy; xz = a.wz; yz = a.yz }

pub distinct_flip : {w x y z : ℕ} → Distinct w x y z → Distinct y z w x
distinct_flip a = record { wx = a.yz; wy = λ e. a.wy (sym e); wz = λ e. a.xy (sym e); xy = λ e. a.wz (sym e); xz = λ e. a.xz (sym e); yz = a.wx }

-- every rule by fours keeps the laws, where at most one code of a placed is above zero
pub four_laws : (n : ℕ) (f : ℕ → ℕ → ℤ) (cap : ℕ → ℕ → ℕ) (anew : ℕ → ℕ → Bool) → ((p a b : ℕ) → a ≢ b → pos 1 ≤ℤ f p a → pos 1 ≤ℤ f p b → ⊥)
    → ((k c : ℕ) → 1 ≤ cap k c) → ((k c : ℕ) → 0 < k → Split k (c % 2 ^ k) → anew k (c % 2 ^ k) ≡ false → cap k (c % 2 ^ k) ≡ cap (suc k) c) → Laws (four_rule n f cap anew)
four_laws n f cap anew one caps same =
    record {
      swap = λ k c w x y z lw lx ly lz a. (distinct_swap a, ap₂ f (place_swap w x y z) (code_swap w x y z a));
      flip = λ k c w x y z lw lx ly lz a. (distinct_flip a, ap₂ f (place_flip w x y z) (code_flip w x y z a));
      all = λ k c w x y z dis. dis;
      one = λ w x y z lw lx ly lz d g h.
          one (placed w x y z) (code w x y z) (code w y x z) (code_cross w x y z d) g
          (subst (λ (p : ℕ). pos 1 ≤ℤ f p (code w y x z)) (place_cross w x y z) h);
      cap = caps;
      carried = λ k c pk p e. record { same = λ w x y z lw lx ly lz. ((λ a. a), (λ a. a)); cap = same k c pk p e };
    }

resolved : (tab : List ℕ) (p c : ℕ) → pos 1 ≤ℤ table_at tab p c → get_or tab p 0 ≡ c
resolved tab p c h = go (eqb (get_or tab p 0) c) refl h.le
  where
    go : (s : Bool) → eqb (get_or tab p 0) c ≡ s → T (le_z (pos 1) (pos (cond s 1 0))) → get_or tab p 0 ≡ c
    go true e g = eqb-true _ _ e
    go false e g = absurd g

pub table_laws : (n : ℕ) (tab : List ℕ) → Laws (table_rule n tab)
table_laws n tab = four_laws n (table_at tab) (λ k c. 1) (λ k p. false) (λ p a b d g h. d (sym (resolved tab p a g) ∙ resolved tab p b h)) (λ k c. omega arith) (λ k c pk p e. refl)
