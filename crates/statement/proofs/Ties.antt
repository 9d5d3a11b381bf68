-- THE TIES: a matrix, and a table, by document 01's plain words are instances of the generic rule. Assumes nothing.
use Prim.Native.Nat.{ℕ, suc, ◌≤◌, ◌<◌}
use native.Mathlib.Omega.{arith}
use native.Mathlib.Nat.{le_refl}
use mathlib.Core.Path.{◌≡◌, refl, sym, ap, subst}
use mathlib.Core.Logic.{◌≢◌, ◌⊎◌, inl, inr, ◌↔◌}
use mathlib.Core.Bool.{Bool, true, false, cond}
use mathlib.Core.List.{List}
use lib.Dec.{T, leb→le}
use lib.IntN.{ℤ, pos}
use lib.Signed.{◌≤ℤ◌, le_z}
use Rattle.statement.specs.Cluster.{bit, In, Out, Split, Across, Pair}
use Rattle.statement.specs.Matrix.{distance, weight_limit, AcceptedMatrix, score, Asked, LeastScore, AllAbove, MatrixWeight, MatrixSupported}
use Rattle.statement.specs.Table.{stands, TableSupported, table_weight}
use Rattle.statement.specs.Rows.{Row, weight_in, FullAnswer}
use Rattle.statement.specs.Growing.{repeat_trial, table_trial, by_matrix, by_table, by_repeats, MatrixAnswer, TableAnswer, RepeatAnswer}
use Rattle.statement.proofs.Rule.{Rule, Laws, Distinct, Fours, Supported, Weight, WeightOf, Caps, Reached, Bare}
use Rattle.statement.proofs.Instances.{trivial, matrix_rule, repeat_rule, table_rule}
use Rattle.statement.proofs.Bits.{lt_bit}
use Rattle.statement.proofs.Matrix.{repeat_laws, above_zero, of_score}
use Rattle.statement.proofs.Table.{table_laws}
use Rattle.statement.proofs.Weigh.{of_weight, weight_supports}
use Rattle.statement.proofs.Reached.{weight_of_law}
use Rattle.statement.proofs.Trial.{new_trial, repeat_trial_law, table_trial_law, stands_one}
use Rattle.statement.proofs.Enlarged.{Plain, plain_sound, Sound, FullRows}
use Rattle.statement.proofs.Single.{some_four, dec_pair}
use Rattle.statement.proofs.Pairs.{matrix_sound}

-- a four across a split, as a record
pub across : (k c u u' v v' : ℕ) → u < k → u' < k → v < k → v' < k → Out c u → Out c u' → In c v → In c v' → Across k c u u' v v'
across k c u u' v v' lu lu' lv lv' ou ou' iv iv' =
    record { u_below = lu; u'_below = lu'; v_below = lv; v'_below = lv'; u_out = ou; u'_out = ou'; v_in = iv; v'_in = iv' }

-- and the two sides are different taxa
pub apart : (k c u u' v v' : ℕ) → Across k c u u' v v' → u ≢ u' → v ≢ v' → Distinct u u' v v'
apart k c u u' v v' x uu vv =
    record { wx = uu; wy = sides u v x.u_out x.v_in; wz = sides u v' x.u_out x.v'_in; xy = sides u' v x.u'_out x.v_in; xz = sides u' v' x.u'_out x.v'_in; yz = vv }
  where
    sides : (i j : ℕ) → Out c i → In c j → i ≢ j
    sides i j o n e = omega (arith, ap (bit c) e)

-- A MATRIX, by which fours are asked; Four says it in the documents' words
module _ (n : ℕ) (entries : List ℕ) (accepted : AcceptedMatrix n entries) (asked : ℕ → ℕ → ℕ → ℕ → ℕ → ℕ → Type 0) (anew : ℕ → ℕ → Bool)
    (Four : ℕ → ℕ → ℕ → ℕ → ℕ → ℕ → Type 0)
    (is : (k c u u' v v' : ℕ) → Four k c u u' v v' ↔ (Across k c u u' v v' × asked k c u u' v v'))
    (dec : (k c u u' v v' : ℕ) → Dec (asked k c u u' v v'))
    (some : (k c : ℕ) → 0 < k → Split k c → (u u' v v' : ℕ) × Four k c u u' v v') where
  abbrev d : ℕ → ℕ → ℕ
  d = distance n entries

  abbrev rule : Rule
  rule = record { taxa = n; score = score (distance n entries); asked = asked; cap = λ k c. weight_limit; anew = anew }

  by_supported : (k c : ℕ) → AllAbove d (Four k c) k c ↔ Supported rule k c
  by_supported k c = (
    (λ s. record {
      split = s.split;
      fours = λ u u' v v' lu lu' lv lv' ou ou' iv iv' a.
          (above_zero (score d u u' v v')).1 (s.fours u u' v v' ((is k c u u' v v').1 (across k c u u' v v' lu lu' lv lv' ou ou' iv iv', a)));
    }),
    (λ s. record {
      split = s.split;
      fours = λ u u' v v' f.
          let (x, a) = (is k c u u' v v').0 f in
          (above_zero (score d u u' v v')).0
          (s.fours u u' v v' x.u_below x.u'_below x.v_below x.v'_below x.u_out x.u'_out x.v_in x.v'_in a);
    }),
  )

  -- a split has a four, and no score passes the limit
  by_caps : (k c : ℕ) → 0 < k → k ≤ n → Split k c → Caps rule k c
  by_caps k c pk fits sp =
      record {
        bare = λ b. absurd (bare b);
        high = λ u u' v v' lu lu' lv lv' ou ou' iv iv' a h.
            omega (
              arith,
              of_score d (suc weight_limit) u u' v v' h,
              accepted.limit u v (omega arith) (omega arith),
              accepted.limit u' v' (omega arith) (omega arith),
            );
      }
    where
      bare : Bare rule k c → ⊥
      bare b =
          let (u, u', v, v', f) = some k c pk sp in
          let (x, a) = (is k c u u' v v').0 f in
          b u u' v v' x.u_below x.u'_below x.v_below x.v'_below x.u_out x.u'_out x.v_in x.v'_in a

  -- the weight, in the document's words, is the weight by thresholds
  pub by_weight : (k c w : ℕ) → 0 < k → k ≤ n → Split k c → 0 < w → Weight rule k c w ↔ LeastScore d (Four k c) (pos w)
  by_weight k c w pk fits sp pw = (there, back)
    where
      there : Weight rule k c w → LeastScore d (Four k c) (pos w)
      there x = go (weight_of_law rule dec k c w (by_caps k c pk fits sp) pw x)
        where
          reached : (Bare rule k c × (w ≡ 1)) ⊎ Reached rule k c w → (u u' v v' : ℕ) × Four k c u u' v v' × (score d u u' v v' ≡ pos w)
          reached (inl (b, e)) =
              let (u, u', v, v', f) = some k c pk sp in
              let (y, a) = (is k c u u' v v').0 f in
              absurd (b u u' v v' y.u_below y.u'_below y.v_below y.v'_below y.u_out y.u'_out y.v_in y.v'_in a)
          reached (inr (u, u', v, v', lu, lu', lv, lv', ou, ou', iv, iv', a, e)) =
              (u, u', v, v', (is k c u u' v v').1 (across k c u u' v v' lu lu' lv lv' ou ou' iv iv', a), e)

          go : WeightOf rule k c w → LeastScore d (Four k c) (pos w)
          go y =
              record {
                least = λ u u' v v' f.
                    let (x, a) = (is k c u u' v v').0 f in
                    y.over u u' v v' x.u_below x.u'_below x.v_below x.v'_below x.u_out x.u'_out x.v_in x.v'_in a;
                reached = reached y.reached;
              }

      back : LeastScore d (Four k c) (pos w) → Weight rule k c w
      back y =
          let (u, u', v, v', f, e) = y.reached in
          let (x, a) = (is k c u u' v v').0 f in
          of_weight rule k c w (by_caps k c pk fits sp)
          (record {
            over = λ a a' b b' la la' lb lb' oa oa' ib ib' asked. y.least a a' b b' ((is k c a a' b b').1 (across k c a a' b b' la la' lb lb' oa oa' ib ib', asked));
            reached = inr (u, u', v, v', x.u_below, x.u'_below, x.v_below, x.v'_below, x.u_out, x.u'_out, x.v_in, x.v'_in, a, e);
          })

  -- THE FULL ANSWER
  pub by_answer : Laws rule → (k : ℕ) (rows : List Row) → 0 < k → k ≤ n
      → FullRows rule k rows ↔ FullAnswer (λ c. AllAbove d (Four k c) k c) (λ c w. LeastScore d (Four k c) (pos w)) k rows
  by_answer laws k rows pk fits = (
    (λ f. record {
      up = f.full.up;
      exact = λ c. ((λ m. (by_supported k c).1 ((f.full.exact c).0 m)), (λ s. (f.full.exact c).1 ((by_supported k c).0 s)));
      weigh = λ c m.
          let s = (f.full.exact c).0 m in
          let x = f.weights c m in
          (by_weight k c (weight_in rows c) pk fits s.split ((weight_supports rule laws k c (weight_in rows c) x).1 s.fours)).0 x;
    }),
    (λ f. record {
      full = record {
        up = f.up;
        exact = λ c. ((λ m. (by_supported k c).0 ((f.exact c).0 m)), (λ s. (f.exact c).1 ((by_supported k c).1 s)));
      };
      weights = λ c m. let s = (f.exact c).0 m in (by_weight k c (weight_in rows c) pk fits s.split (positive c s (f.weigh c m))).1 (f.weigh c m);
    }),
  )
    where
      positive : (c : ℕ) {w : ℕ} → AllAbove d (Four k c) k c → LeastScore d (Four k c) (pos w) → 0 < w
      positive c {w} s y =
          let (u, u', v, v', x, e) = y.reached in
          leb→le 1 w (subst (λ (z : ℤ). T (le_z (pos 1) z)) e ((above_zero (score d u u' v v')).1 (s.fours u u' v v' x)).le)

-- THE MATRIX
abbrev pub the_matrix : ℕ → List ℕ → Rule
the_matrix n entries = matrix_rule n (distance n entries)

pub asked_is : (k c u u' v v' : ℕ) → Asked k c u u' v v' ↔ (Across k c u u' v v' × (Pair k c u u' × Pair k c v v'))
asked_is k c u u' v v' = ((λ a. (a.across, (a.pair, a.pair'))), (λ p. record { across = p.0; pair = p.1.0; pair' = p.1.1 }))

pub asked_dec : (k c u u' v v' : ℕ) → Dec (Pair k c u u' × Pair k c v v')
asked_dec k c u u' v v' = go (dec_pair k c u u') (dec_pair k c v v')
  where
    go : Dec (Pair k c u u') → Dec (Pair k c v v') → Dec (Pair k c u u' × Pair k c v v')
    go (no p) q = no (λ a. p a.0)
    go (yes p) (no q) = no (λ a. q a.1)
    go (yes p) (yes q) = yes (p, q)

asked_some : (k c : ℕ) → 0 < k → Split k c → (u u' v v' : ℕ) × Asked k c u u' v v'
asked_some k c pk s =
    let (u, u', v, v', lu, lu', lv, lv', ou, ou', iv, iv', p, q) = some_four k c pk s in
    (u, u', v, v', record { across = across k c u u' v v' lu lu' lv lv' ou ou' iv iv'; pair = p; pair' = q })

module _ (n : ℕ) (entries : List ℕ) (accepted : AcceptedMatrix n entries) where
  pub the_matrix_law : Sound (the_matrix n entries) (by_matrix (distance n entries))
  the_matrix_law = matrix_sound n (distance n entries) accepted.same

  pub matrix_supported : (k c : ℕ) → MatrixSupported (distance n entries) k c ↔ Supported (the_matrix n entries) k c
  matrix_supported = by_supported n entries accepted _ trivial Asked asked_is asked_dec asked_some

  pub matrix_weight : (k c w : ℕ) → 0 < k → k ≤ n → Split k c → 0 < w → Weight (the_matrix n entries) k c w ↔ MatrixWeight (distance n entries) k c (pos w)
  matrix_weight = by_weight n entries accepted _ trivial Asked asked_is asked_dec asked_some

  pub matrix_answer : (k : ℕ) (rows : List Row) → 0 < k → k ≤ n → FullRows (the_matrix n entries) k rows ↔ MatrixAnswer n entries k rows
  matrix_answer = by_answer n entries accepted _ trivial Asked asked_is asked_dec asked_some the_matrix_law.laws

-- BEFORE §7
abbrev pub the_repeats : ℕ → List ℕ → Rule
the_repeats n entries = repeat_rule n (distance n entries)

module _ (n : ℕ) (entries : List ℕ) (accepted : AcceptedMatrix n entries) where
  pub repeat_plain : Plain (the_repeats n entries) weight_limit (repeat_trial (distance n entries))
  repeat_plain =
      record {
        laws = repeat_laws n (distance n entries) accepted.same;
        never = λ k p. refl;
        caps = λ k c. refl;
        tries = λ k c w. new_trial (the_repeats n entries) k c w _ (repeat_trial_law n (distance n entries) (suc k) k c w);
      }

  pub the_repeats_law : Sound (the_repeats n entries) (by_repeats (distance n entries))
  the_repeats_law = plain_sound (the_repeats n entries) weight_limit (repeat_trial (distance n entries)) repeat_plain

  pub repeat_answer : (k : ℕ) (rows : List Row) → 0 < k → k ≤ n → FullRows (the_repeats n entries) k rows ↔ RepeatAnswer n entries k rows
  repeat_answer =
      by_answer n entries accepted (λ k c w x y z. Unit {0}) (λ k p. false) Across (λ k c u u' v v'. ((λ x. (x, tt)), (λ p. p.0))) (λ k c u u' v v'. yes tt)
      (λ k c pk sp. let (v, lv, z, o) = lt_bit k 0 c sp.some sp.below in (0, 0, v, v, across k c 0 0 v v pk pk lv lv sp.free sp.free o o))
      repeat_plain.laws

-- THE TABLE
abbrev pub the_table : ℕ → List ℕ → Rule
the_table n bytes = table_rule n bytes

module _ (n : ℕ) (bytes : List ℕ) where
  pub table_plain : Plain (the_table n bytes) table_weight (table_trial bytes)
  table_plain =
      record {
        laws = table_laws n bytes;
        never = λ k p. refl;
        caps = λ k c. refl;
        tries = λ k c w. new_trial (the_table n bytes) k c w _ (table_trial_law n bytes (suc k) k c w);
      }

  pub the_table_law : Sound (the_table n bytes) (by_table bytes)
  the_table_law = plain_sound (the_table n bytes) table_weight (table_trial bytes) table_plain

  -- a four of different taxa scores above zero where it stands in the table
  pub stands_above : (w x y z : ℕ) → Distinct w x y z → (stands bytes w x y z ≡ true) ↔ (pos 1 ≤ℤ (the_table n bytes).score w x y z)
  stands_above w x y z dis = subst (λ (s : ℤ). (stands bytes w x y z ≡ true) ↔ (pos 1 ≤ℤ s)) (sym (stands_one bytes w x y z dis)) (go (stands bytes w x y z))
    where
      go : (b : Bool) → (b ≡ true) ↔ (pos 1 ≤ℤ pos (cond b table_weight 0))
      go true = ((λ e. record { le = tt }), (λ h. refl))
      go false = ((λ e. absurd (let z : ◌≡◌ {A = ℕ} 0 1 = cc in omega arith)), (λ h. absurd h.le))

  pub table_supported : (k c : ℕ) → TableSupported bytes k c ↔ Supported (the_table n bytes) k c
  table_supported k c = (
    (λ s. record {
      split = s.split;
      fours = λ u u' v v' lu lu' lv lv' ou ou' iv iv' dis.
          (stands_above u u' v v' dis).0 (s.fours u u' v v' (across k c u u' v v' lu lu' lv lv' ou ou' iv iv') dis.wx dis.yz);
    }),
    (λ s. record {
      split = s.split;
      fours = λ u u' v v' x uu vv.
          let dis = apart k c u u' v v' x uu vv in
          (stands_above u u' v v' dis).1
          (s.fours u u' v v' x.u_below x.u'_below x.v_below x.v'_below x.u_out x.u'_out x.v_in x.v'_in dis);
    }),
  )

  -- THE FULL ANSWER of the table: every weight is 1
  table_weight_law : (k c w : ℕ) → Fours (the_table n bytes) 1 k c → Weight (the_table n bytes) k c w ↔ (w ≡ table_weight)
  table_weight_law k c w f = (
    (λ x.
        let p : 1 ≤ w = (x.least 1 (omega arith)).1 (omega arith, f) in
        omega (arith, ((x.least w p).0 (le_refl w)).0)),
    (λ e. record {
      least = λ t pt. (
        (λ h. let q : 1 ≡ t = omega arith in (omega arith, subst (λ (m : ℕ). Fours (the_table n bytes) m k c) q f)),
        (λ h. omega (arith, h.0)),
      );
    }),
  )

  pub table_answer : (k : ℕ) (rows : List Row) → FullRows (the_table n bytes) k rows ↔ TableAnswer bytes k rows
  table_answer k rows = (
    (λ f. record {
      up = f.full.up;
      exact = λ c. ((λ m. (table_supported k c).1 ((f.full.exact c).0 m)), (λ s. (f.full.exact c).1 ((table_supported k c).0 s)));
      weigh = λ c m. (table_weight_law k c (weight_in rows c) ((f.full.exact c).0 m).fours).0 (f.weights c m);
    }),
    (λ f. record {
      full = record {
        up = f.up;
        exact = λ c. ((λ m. (table_supported k c).0 ((f.exact c).0 m)), (λ s. (f.exact c).1 ((table_supported k c).1 s)));
      };
      weights = λ c m. (table_weight_law k c (weight_in rows c) ((table_supported k c).0 ((f.exact c).0 m)).fours).1 (f.weigh c m);
    }),
  )
