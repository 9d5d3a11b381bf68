-- THE GROWTH RULE in the documents' words, for a matrix and for a table: the first promise of growth, for any well-formed list, also one carried from
-- another source. Assumes nothing.
use Prim.Native.Nat.{ℕ, suc, ◌+◌, ◌%◌, ◌^◌, ◌≤◌, ◌<◌}
use native.Mathlib.Omega.{arith}
use native.Mathlib.Nat.{le_refl, mod_self}
use mathlib.Core.Path.{◌≡◌, refl, sym, ◌∙◌, ap, subst}
use mathlib.Core.Logic.{◌⊎◌, inl, inr, ◌↔◌}
use mathlib.Core.Bool.{Bool, true, false}
use mathlib.Core.List.{List, ◌∷◌, map}
use lib.Dec.{T}
use lib.IntN.{pos}
use lib.Signed.{◌<ℤ◌}
use Rattle.statement.specs.Cluster.{In, Out, Split, Across, Pair, Trivial}
use Rattle.statement.specs.Matrix.{distance, weight_limit, AcceptedMatrix, score, Asked, MatrixWeight}
use Rattle.statement.specs.Table.{table_weight}
use Rattle.statement.specs.Rows.{Row, clusters, Mem, Listed, weight_in}
use Rattle.statement.specs.Growing.{Includes, by_matrix, by_table, with_trivial, grown_rows, ParentIn, Candidate, Anew, LookedAt, NewWeight, MatrixGrowth, TableGrowth}
use Rattle.statement.proofs.Rule.{Rule, Fours, Old, Kept, Value, Weight}
use Rattle.statement.proofs.Instances.{trivial}
use Rattle.statement.proofs.Answer.{extensions}
use Rattle.statement.proofs.Bits.{zero_or_one, bit_lt}
use Rattle.statement.proofs.Grow.{of_new, new_of, fours_grow, old_alone}
use Rattle.statement.proofs.Matrix.{above_zero}
use Rattle.statement.proofs.Listed.{clean_split, mem_append, mem_map}
use Rattle.statement.proofs.Full.{candidate_of}
use Rattle.statement.proofs.Parts.{Parted}
use Rattle.statement.proofs.Reached.{trial_reached}
use Rattle.statement.proofs.Weigh.{weight_new}
use Rattle.statement.proofs.Single.{trivial_single, single_trivial}
use Rattle.statement.proofs.Enlarged.{Extended, Sound, WellRows, weight_listed, candidate_clusters, enlarged_exact, enlarged_well, enlarged_value}
use Rattle.statement.proofs.Ties.{across, apart, the_matrix, the_matrix_law, matrix_weight, asked_dec, the_table, the_table_law, stands_above}

positive : (most k : ℕ) (rows : List Row) → WellRows most k rows → (c : ℕ) → Listed c rows → 0 < weight_in rows c
positive most k rows well c m = (well.weigh (weight_in rows c) (weight_listed rows c m)).0

-- ON A MATRIX
module _ (n : ℕ) (entries : List ℕ) (accepted : AcceptedMatrix n entries) (k : ℕ) (fits : suc k ≤ n) (pk : 0 < k) (rows : List Row)
    (well : WellRows weight_limit k rows) where
  abbrev d : ℕ → ℕ → ℕ
  d = distance n entries

  abbrev rule : Rule
  rule = the_matrix n entries

  abbrev more : List Row
  more = grown_rows (by_matrix (distance n entries)) k rows

  abbrev given : List Row
  given = with_trivial weight_limit k rows

  sound : Sound (the_matrix n entries) (by_matrix (distance n entries))
  sound = the_matrix_law n entries accepted

  extended : Extended (the_matrix n entries) weight_limit k rows (with_trivial weight_limit k rows)
  extended = sound.extends k rows well.clean

  split : (p : ℕ) → Listed p given → Split k p
  split p m = clean_split k (clusters given) extended.clean p m

  -- THE CANDIDATES
  parent_is : (p : ℕ) → Listed p given ↔ ParentIn k rows p
  parent_is p = (
    (λ m. elim ((extended.exact p).0 m) [ inl s ↦ inl (s.0, trivial_single k p s.0 s.1) | inr l ↦ inr l ]),
    (λ h. (extended.exact p).1 (elim h [ inl (s, (u, l, one)) ↦ inl (s, single_trivial k p u s l one) | inr l ↦ inr l ])),
  )

  candidate_is : (c : ℕ) → Mem c (extensions k (clusters given)) ↔ Candidate k rows c
  candidate_is c = ((λ m. there ((mem_append c (clusters given) (2 ^ k ∷ map (λ e. 2 ^ k + e) (clusters given))).0 m)), (λ h. (mem_append c (clusters given) (2 ^ k ∷ map (λ e. 2 ^ k + e) (clusters given))).1 (back h)))
    where
      there : Mem c (clusters given) ⊎ ((c ≡ 2 ^ k) ⊎ Mem c (map (λ e. 2 ^ k + e) (clusters given))) → Candidate k rows c
      there (inl m) = inr (c, (parent_is c).0 m, inl refl)
      there (inr (inl e)) = inl e
      there (inr (inr m)) = let (p, l, e) = (mem_map (2 ^ k) c (clusters given)).0 m in inr (p, (parent_is p).0 l, inr e)

      back : Candidate k rows c → Mem c (clusters given) ⊎ ((c ≡ 2 ^ k) ⊎ Mem c (map (λ e. 2 ^ k + e) (clusters given)))
      back (inl e) = inr (inl e)
      back (inr (p, h, inl e)) = inl (subst (λ (a : ℕ). Mem a (clusters given)) (sym e) ((parent_is p).1 h))
      back (inr (p, h, inr e)) = inr (inr ((mem_map (2 ^ k) c (clusters given)).1 (p, (parent_is p).1 h, e)))

  -- one of them: the newcomer by itself, or with a parent
  of : (c : ℕ) → Mem c (extensions k (clusters given)) → (c ≡ 2 ^ k) ⊎ Split k (c % 2 ^ k)
  of c m = elim (candidate_of k (clusters given) extended.clean.up c m).1 [ inl e ↦ inl e | inr l ↦ inr (split (c % 2 ^ k) l) ]

  -- what is weighed anew, by its test
  anew_is : (c : ℕ) → Split k (c % 2 ^ k) → T (trivial k (c % 2 ^ k)) ↔ Trivial k (c % 2 ^ k)
  anew_is c s = (trivial_single k (c % 2 ^ k) s, λ (u, l, one). single_trivial k (c % 2 ^ k) u s l one)

  -- THE FOURS that are looked at
  asked : (c u u' v v' : ℕ) → Across (suc k) c u u' v v' → Pair (suc k) c u u' × Pair (suc k) c v v' → Asked (suc k) c u u' v v'
  asked c u u' v v' x a = record { across = x; pair = a.0; pair' = a.1 }

  alone_old : (c : ℕ) → c ≡ 2 ^ k → (t : ℕ) → Old rule t k c
  alone_old c e t = subst (Old rule t k) (sym e) (old_alone rule t k)

  fours_of : (c : ℕ) → (c ≡ 2 ^ k) ⊎ Split k (c % 2 ^ k) → Kept rule k c → Anew k c → Fours rule 1 (suc k) c
  fours_of c q h (inl e) = (fours_grow rule sound.laws 1 k c fits).1 (alone_old c e 1, h.new)
  fours_of c (inl e) h (inr t) = (fours_grow rule sound.laws 1 k c fits).1 (alone_old c e 1, h.new)
  fours_of c (inr s) h (inr t) = h.all ((anew_is c s).1 t)

  kept_is : (c : ℕ) → (c ≡ 2 ^ k) ⊎ Split k (c % 2 ^ k)
      → Kept rule k c ↔ ((u u' v v' : ℕ) → Asked (suc k) c u u' v v' → LookedAt k c u u' v v' → pos 0 <ℤ score d u u' v v')
  kept_is c q = (there, back)
    where
      there : Kept rule k c → (u u' v v' : ℕ) → Asked (suc k) c u u' v v' → LookedAt k c u u' v v' → pos 0 <ℤ score d u u' v v'
      there h u u' v v' a (inl anew) =
          let x = a.across in
          (above_zero (score d u u' v v')).0
          (fours_of c q h anew u u' v v' x.u_below x.u'_below x.v_below x.v'_below x.u_out x.u'_out x.v_in x.v'_in (a.pair, a.pair'))
      there h u u' v v' a (inr i) = (above_zero (score d u u' v v')).0 (new_of rule sound.laws 1 k c fits h.new u u' v v' a.across i (a.pair, a.pair'))

      back : ((u u' v v' : ℕ) → Asked (suc k) c u u' v v' → LookedAt k c u u' v v' → pos 0 <ℤ score d u u' v v') → Kept rule k c
      back f =
          record {
            new = of_new rule sound.laws 1 k c fits (λ u u' v v' x i a. (above_zero (score d u u' v v')).1 (f u u' v v' (asked c u u' v v' x a) (inr i)));
            all = λ t u u' v v' lu lu' lv lv' ou ou' iv iv' a.
                (above_zero (score d u u' v v')).1 (f u u' v v' (asked c u u' v v' (across (suc k) c u u' v v' lu lu' lv lv' ou ou' iv iv') a) (inl (anew t q)));
          }
        where
          anew : T (trivial k (c % 2 ^ k)) → (c ≡ 2 ^ k) ⊎ Split k (c % 2 ^ k) → Anew k c
          anew t (inl e) = inl e
          anew t (inr s) = inr ((anew_is c s).0 t)

  listed_is : (c : ℕ) → Listed c more ↔ (Mem c (extensions k (clusters given)) × Kept rule k c)
  listed_is c = enlarged_exact rule (by_matrix d) sound k fits pk rows well.clean (positive weight_limit k rows well) c

  again : WellRows weight_limit (suc k) more
  again = enlarged_well rule (by_matrix d) sound k fits pk rows well.clean well

  -- WHAT A LISTED SPLIT WEIGHS
  module _ (c : ℕ) (m : Listed c more) where
    above : 0 < weight_in more c
    above = (again.weigh (weight_in more c) (weight_listed more c m)).0

    value : Value rule k (weight_in rows) c (weight_in more c)
    value = enlarged_value rule (by_matrix d) sound k fits pk rows well.clean c m

    whole : Split (suc k) c
    whole = clean_split (suc k) (clusters more) again.clean c m

    case : (c ≡ 2 ^ k) ⊎ Split k (c % 2 ^ k)
    case = of c ((listed_is c).0 m).0

    by_matrix_law : Weight rule (suc k) c (weight_in more c) → MatrixWeight d (suc k) c (pos (weight_in more c))
    by_matrix_law x = (matrix_weight n entries accepted (suc k) c (weight_in more c) (omega arith) fits whole above).0 x

    by_alone : c ≡ 2 ^ k → MatrixWeight d (suc k) c (pos (weight_in more c))
    by_alone e = by_matrix_law (weight_new rule sound.laws k c (weight_in more c) fits (alone_old c e) (value.alone (ap (λ (a : ℕ). a % 2 ^ k) e ∙ mod_self (2 ^ k))))

    anew_weight : Anew k c → MatrixWeight d (suc k) c (pos (weight_in more c))
    anew_weight (inl e) = by_alone e
    anew_weight (inr t) = elim case [ inl e ↦ by_alone e | inr s ↦ by_matrix_law (value.anew s.some ((anew_is c s).1 t)) ]

    -- a four kx|yz as a four across the split, with the same score
    turned : (x y z w : ℕ) → x < suc k → y < suc k → z < suc k → Parted c k x y z → Pair (suc k) c k x × Pair (suc k) c y z → score d k x y z ≡ pos w
        → (u u' v v' : ℕ) × Asked (suc k) c u u' v v' × Includes k u u' v v' × (score d u u' v v' ≡ pos w)
    turned x y z w lx ly lz p a e = go (zero_or_one c k)
      where
        go : Out c k ⊎ In c k → (u u' v v' : ℕ) × Asked (suc k) c u u' v v' × Includes k u u' v v' × (score d u u' v v' ≡ pos w)
        go (inl o) = (
          k,
          x,
          y,
          z,
          asked c k x y z (across (suc k) c k x y z (omega arith) lx ly lz o (p.x_side ∙ o) (omega (arith, bit_lt c y, p.y_side)) (omega (arith, bit_lt c z, p.z_side))) a,
          inl refl,
          e,
        )
        go (inr i) = (
          y,
          z,
          k,
          x,
          asked c y z k x (across (suc k) c y z k x ly lz (omega arith) lx (omega (arith, bit_lt c y, p.y_side)) (omega (arith, bit_lt c z, p.z_side)) i (p.x_side ∙ i)) (a.1, a.0),
          inr (inr (inl refl)),
          (sound.laws.flip (suc k) c k x y z (omega arith) (omega arith) (omega arith) (omega arith) a).1 ∙ e,
        )

    carried_weight : (Anew k c → ⊥) → NewWeight d k rows c (weight_in more c)
    carried_weight not = elim case [ inl e ↦ absurd (not (inl e)) | inr s ↦ go s (trivial k (c % 2 ^ k)) refl ]
      where
        go : Split k (c % 2 ^ k) → (b : Bool) → trivial k (c % 2 ^ k) ≡ b → NewWeight d k rows c (weight_in more c)
        go s true e = absurd (not (inr ((anew_is c s).0 (subst T (sym e) tt))))
        go s false e =
            let trial = value.old s.some e in
            let here = (trial.least (weight_in more c) above).0 (le_refl (weight_in more c)) in
            record {
              old = here.0;
              new = λ u u' v v' a i. new_of rule sound.laws (weight_in more c) k c fits here.1 u u' v v' a.across i (a.pair, a.pair');
              reached = elim (trial_reached rule asked_dec k c (weight_in rows (c % 2 ^ k)) (weight_in more c) trial above) [
                | inl q ↦ inl q
                | inr (x, y, z, lx, ly, lz, p, a, q) ↦ inr (turned x y z (weight_in more c) lx ly lz p a q)
              ];
            }

  pub matrix_growth : MatrixGrowth n entries k rows (grown_rows (by_matrix (distance n entries)) k rows)
  matrix_growth =
      record {
        up = again.clean.up;
        exact = λ c. (
          (λ m. let p = (listed_is c).0 m in ((candidate_is c).0 p.0, (kept_is c (of c p.0)).0 p.1)),
          (λ h. let m = (candidate_is c).1 h.0 in (listed_is c).1 (m, (kept_is c (of c m)).1 h.1)),
        );
        anew = anew_weight;
        carried = carried_weight;
      }

-- ON A TABLE
module _ (n : ℕ) (bytes : List ℕ) (k : ℕ) (fits : suc k ≤ n) (pk : 0 < k) (rows : List Row) (well : WellRows table_weight k rows) where
  pub table_growth : TableGrowth bytes k rows (grown_rows (by_table bytes) k rows)
  table_growth =
      record {
        up = again.clean.up;
        exact = λ c.
            let e = enlarged_exact (the_table n bytes) (by_table bytes) sound k fits pk rows well.clean (positive table_weight k rows well) c in
            let cs = candidate_clusters table_weight k rows in (
              (λ m. let p = e.0 m in (
                subst (Mem c) (sym cs) p.0,
                λ u u' v v' x i uu vv.
                    let dis = apart (suc k) c u u' v v' x uu vv in (stands_above n bytes u u' v v' dis).1 (new_of (the_table n bytes) sound.laws 1 k c fits p.1.new u u' v v' x i dis),
              )),
              (λ p. e.1 (
                subst (Mem c) cs p.0,
                record {
                  new = of_new (the_table n bytes) sound.laws 1 k c fits (λ u u' v v' x i dis. (stands_above n bytes u u' v v' dis).0 (p.1 u u' v v' x i dis.wx dis.yz));
                  all = λ t. absurd t;
                },
              )),
            );
        weigh = λ c m.
            let w = again.weigh (weight_in (grown_rows (by_table bytes) k rows) c) (weight_listed (grown_rows (by_table bytes) k rows) c m) in
            omega (arith, w.0, w.1);
      }
    where
      sound : Sound (the_table n bytes) (by_table bytes)
      sound = the_table_law n bytes

      again : WellRows table_weight (suc k) (grown_rows (by_table bytes) k rows)
      again = enlarged_well (the_table n bytes) (by_table bytes) (the_table_law n bytes) k fits pk rows well.clean well
