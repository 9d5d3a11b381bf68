-- No two supported splits conflict. Assumes nothing.
use Prim.Native.Nat.{ℕ, suc, ◌%◌, ◌^◌, ◌≤◌, ◌<◌}
use native.Mathlib.Omega.{arith}
use native.Mathlib.Decide.{dec_lt}
use mathlib.Core.Path.{◌≡◌, sym, ◌∙◌, ap}
use mathlib.Core.Logic.{◌≢◌}
use Rattle.statement.specs.Cluster.{bit, In, Out, Conflict}
use Rattle.statement.proofs.Rule.{Rule, Laws, Ok, Distinct, Fours, New}
use Rattle.statement.proofs.Bits.{bit_mod, bit_none}
use Rattle.statement.proofs.Grow.{new_at}

apart : (c i j : ℕ) → bit c i ≢ bit c j → i ≢ j
apart c i j d e = d (ap (bit c) e)

crossing : {w x y z : ℕ} → Distinct w x y z → Distinct w y x z
crossing d = record { wx = d.wy; wy = d.wx; wz = d.wz; xy = λ e. d.xy (sym e); xz = d.yz; yz = d.xz }

-- two splits that part n, x, y, z as nx|yz and ny|xz
crossed : (r : Rule) → Laws r → (k a b n x y z : ℕ) → n < r.taxa → x < r.taxa → y < r.taxa → z < r.taxa
    → bit a x ≡ bit a n → bit a y ≢ bit a n → bit a z ≢ bit a n → bit b y ≡ bit b n → bit b x ≢ bit b n → bit b z ≢ bit b n
    → Ok r 1 k a n x y z → Ok r 1 k b n y x z → ⊥
crossed r laws k a b n x y z ln lx ly lz ax ay az yb xb zb f g =
    let dis : Distinct n x y z =
    record {
      wx = apart b n x (λ e. xb (sym e));
      wy = apart a n y (λ e. ay (sym e));
      wz = apart a n z (λ e. az (sym e));
      xy = apart a x y (λ e. ay (sym e ∙ ax));
      xz = apart a x z (λ e. az (sym e ∙ ax));
      yz = apart b y z (λ e. zb (sym e ∙ yb));
    } in
    laws.one n x y z ln lx ly lz dis (f (laws.all k a n x y z dis)) (g (laws.all k b n y x z (crossing dis)))

pub no_conflict : (r : Rule) → Laws r → (k a b : ℕ) → k ≤ r.taxa → Fours r 1 k a → Fours r 1 k b → Conflict k a b → ⊥
no_conflict r laws k a b fits f g h =
    let (s, ls, sa, sb) = h.oo in
    let (x, lx, xa, xb) = h.oi in
    let (y, ly, ya, yb) = h.io in
    let (z, lz, za, zb) = h.ii in
    crossed r laws k a b s x y z (omega arith) (omega arith) (omega arith) (omega arith)
    (xa ∙ sym sa) (omega arith) (omega arith) (yb ∙ sym sb) (omega arith) (omega arith)
    (f s x y z ls lx ly lz sa xa ya za) (g s y x z ls ly lx lz sb yb xb zb)

-- the same, of new fours: n is the newcomer, x shares its side in a, y in b, z in neither
crossed_new : (r : Rule) → Laws r → (k a b : ℕ) → suc k ≤ r.taxa → New r 1 k a → New r 1 k b → (n x y z : ℕ) → n ≡ k → x < suc k → y < suc k → z < suc k
    → bit a x ≡ bit a n → bit a y ≢ bit a n → bit a z ≢ bit a n → bit b y ≡ bit b n → bit b x ≢ bit b n → bit b z ≢ bit b n → ⊥
crossed_new r laws k a b fits f g n x y z e lx ly lz ax ay az yb xb zb =
    crossed r laws (suc k) a b n x y z (omega arith) (omega arith) (omega arith) (omega arith) ax ay az yb xb zb
    (new_at r 1 k a f n x y z e lx ly lz ax ay az) (new_at r 1 k b g n y x z e ly lx lz yb xb zb)

-- THE STEP: what does not conflict on k taxa does not on k + 1, where both keep the newcomer's fours
pub step : (r : Rule) → Laws r → (k a b : ℕ) → suc k ≤ r.taxa → New r 1 k a → New r 1 k b → (Conflict k a b → ⊥) → Conflict (suc k) a b → ⊥
step r laws k a b fits f g old h =
    let (s, ls, sa, sb) = h.oo in
    let (x, lx, xa, xb) = h.oi in
    let (y, ly, ya, yb) = h.io in
    let (z, lz, za, zb) = h.ii in
    go s x y z ls lx ly lz sa sb xa xb ya yb za zb (dec_lt s k) (dec_lt x k) (dec_lt y k) (dec_lt z k)
  where
    go : (s x y z : ℕ) → s < suc k → x < suc k → y < suc k → z < suc k → Out a s → Out b s → Out a x → In b x → In a y → Out b y → In a z → In b z
        → Dec (s < k) → Dec (x < k) → Dec (y < k) → Dec (z < k) → ⊥
    go s x y z ls lx ly lz sa sb xa xb ya yb za zb (yes p) (yes q) (yes u) (yes v) =
        old (record { ii = (z, v, za, zb); io = (y, u, ya, yb); oi = (x, q, xa, xb); oo = (s, p, sa, sb) })
    go s x y z ls lx ly lz sa sb xa xb ya yb za zb (no p) q u v =
        crossed_new r laws k a b fits f g s x y z (omega arith) lx ly lz
        (omega arith) (omega arith) (omega arith) (omega arith) (omega arith) (omega arith)
    go s x y z ls lx ly lz sa sb xa xb ya yb za zb (yes p) (no q) u v =
        crossed_new r laws k a b fits f g x s z y (omega arith) ls lz ly
        (omega arith) (omega arith) (omega arith) (omega arith) (omega arith) (omega arith)
    go s x y z ls lx ly lz sa sb xa xb ya yb za zb (yes p) (yes q) (no u) v =
        crossed_new r laws k a b fits f g y z s x (omega arith) lz ls lx
        (omega arith) (omega arith) (omega arith) (omega arith) (omega arith) (omega arith)
    go s x y z ls lx ly lz sa sb xa xb ya yb za zb (yes p) (yes q) (yes u) (no v) =
        crossed_new r laws k a b fits f g z y x s (omega arith) ly lx ls
        (omega arith) (omega arith) (omega arith) (omega arith) (omega arith) (omega arith)

-- conflict looks at the first k bits only
pub conflict_same : (k a b c d : ℕ) → ((i : ℕ) → i < k → bit a i ≡ bit c i) → ((i : ℕ) → i < k → bit b i ≡ bit d i) → Conflict k a b → Conflict k c d
conflict_same k a b c d e f h =
    record {
      ii = (h.ii.0, h.ii.1, sym (e _ h.ii.1) ∙ h.ii.2, sym (f _ h.ii.1) ∙ h.ii.3);
      io = (h.io.0, h.io.1, sym (e _ h.io.1) ∙ h.io.2, sym (f _ h.io.1) ∙ h.io.3);
      oi = (h.oi.0, h.oi.1, sym (e _ h.oi.1) ∙ h.oi.2, sym (f _ h.oi.1) ∙ h.oi.3);
      oo = (h.oo.0, h.oo.1, sym (e _ h.oo.1) ∙ h.oo.2, sym (f _ h.oo.1) ∙ h.oo.3);
    }

-- the step, for extensions: extensions a and b of old rows (or of 0, for the newcomer alone)
pub step_mod : (r : Rule) → Laws r → (k a b : ℕ) → suc k ≤ r.taxa → New r 1 k a → New r 1 k b → (Conflict k (a % 2 ^ k) (b % 2 ^ k) → ⊥) → Conflict (suc k) a b → ⊥
step_mod r laws k a b fits f g old =
    step r laws k a b fits f g
    (λ h. old (conflict_same k a b (a % 2 ^ k) (b % 2 ^ k) (λ i l. sym (bit_mod a k i l)) (λ i l. sym (bit_mod b k i l)) h))

pub empty_left : (k b : ℕ) → Conflict k 0 b → ⊥
empty_left k b h = omega (arith, bit_none h.ii.0, h.ii.2)

pub empty_right : (k a : ℕ) → Conflict k a 0 → ⊥
empty_right k a h = omega (arith, bit_none h.ii.0, h.ii.3)
