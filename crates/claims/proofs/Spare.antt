-- SPARE ROWS of a given list aren't looked at: growth, the tree and the path sums of two lists that are the same are the same. Assumes nothing.
use Prim.Native.Nat.{ℕ, zero, suc, ◌+◌, ◌*◌, ◌-◌, ◌≤◌, ◌<◌}
use native.Mathlib.Omega.{arith}
use native.Mathlib.Decide.{dec_lt}
use mathlib.Core.Path.{◌≡◌, refl, sym, ◌∙◌, ap, ap₂, subst}
use mathlib.Core.Bool.{Bool, true, false, cond, not, ◌&&◌}
use mathlib.Core.List.{List, [], ◌∷◌, ◌++◌}
use lib.Dec.{leb, eqb}
use lib.ListN.{length}
use Rattle.statement.specs.declared.Splits.{Splits}
use Rattle.statement.specs.Outcomes.{Growth, Outcome, Done, Short, Refused}
use Rattle.statement.specs.Matrix.{distance, weight_limit}
use Rattle.statement.specs.Table.{choose}
use Rattle.statement.specs.Rows.{Row, rows_of, list_of, Same, WellFormed, well_formed}
use Rattle.statement.specs.Growing.{Manner, by_matrix, by_table, grown_rows, larger, cost_of, cost, grown}
use Rattle.statement.specs.Tree.{tree_of, path_sums}
use Rattle.statement.specs.Bytes.{tree_body, tree_length}
use Rattle.statement.specs.Refusals.{Check, outcome_of, taxa_off, length_off, byte_off, list_off, single, output_off, output_checks, entry_checks}
use Rattle.statement.specs.Calls.{unless_refused, refused_growth, grow_matrix, grow_table, write_tree, tree_written, sum_paths, paths_written}
use Rattle.statement.proofs.Enlarged.{WellRows}
use Rattle.statement.proofs.Allowance.{well_rows}
use Rattle.statement.proofs.WellFormed.{well_formed_is}
use Rattle.statement.proofs.Accepted.{too_many}
use Rattle.claims.specs.Demands.{InRoom, SameReply, SpareUnseen, SpareUnseenBy}

both_ways : (a b : Bool) → (a ≡ true → b ≡ true) → (b ≡ true → a ≡ true) → a ≡ b
both_ways true b f g = sym (f refl)
both_ways false true f g = g refl
both_ways false false f g = refl

turned : (s t : Splits) → Same s t → Same t s
turned s t e = record { taxa = sym e.taxa; count = sym e.count; rows = sym e.rows }

-- WELL-FORMED alike
same_well : (most n : ℕ) (s t : Splits) → Same s t → WellFormed most n s → WellFormed most n t
same_well most n s t e w =
    let rows = subst (λ (rows : List Row). WellRows most t.taxa rows) e.rows (subst (λ (k : ℕ). WellRows most k (rows_of s)) e.taxa (well_rows most n s w)) in
    record {
      one = omega (arith, w.one, e.taxa);
      taxa = omega (arith, w.taxa, e.taxa);
      few = omega (arith, w.few, e.taxa, e.count);
      up = rows.clean.up;
      free = rows.clean.free;
      weigh = rows.weigh;
      clean = rows.clean.clean;
    }

module _ (s t : Splits) (rs : InRoom s) (rt : InRoom t) (e : Same s t) where
  same_test : (most n : ℕ) → n ≤ 64 → well_formed most n s ≡ well_formed most n t
  same_test most n few =
      let a = well_formed_is most n s rs.clusters rs.weights few in
      let b = well_formed_is most n t rt.clusters rt.weights few in
      both_ways (well_formed most n s) (well_formed most n t) (λ q. b.1 (same_well most n s t e (a.0 q))) (λ q. a.1 (same_well most n t s (turned s t e) (b.0 q)))

  -- checks that begin with n's are the same with either list
  same_checks : (n : ℕ) (checks : Splits → List Check) → (n ≤ 64 → checks s ≡ checks t) → outcome_of (taxa_off n ∷ checks s) ≡ outcome_of (taxa_off n ∷ checks t)
  same_checks n checks alike = go (dec_lt 64 n)
    where
      go : Dec (64 < n) → outcome_of (taxa_off n ∷ checks s) ≡ outcome_of (taxa_off n ∷ checks t)
      go (yes l) = too_many n (checks s) l ∙ sym (too_many n (checks t) l)
      go (no l) = ap (λ (cs : List Check). outcome_of (taxa_off n ∷ cs)) (alike (omega arith))

-- GROWTH
reply_by_law : (g h : Growth) → g ≡ h → SameReply g h
reply_by_law g h e = subst (λ (x : Growth). SameReply g x) e (record { outcome = refl; list = record { taxa = refl; count = refl; rows = refl }; trials = refl })

module _ (g : Manner) (s t : Splits) (e : Same s t) where
  same_larger : larger g s ≡ larger g t
  same_larger = ap₂ (λ (k : ℕ) (rows : List Row). list_of (suc k) (grown_rows g k rows)) e.taxa e.rows

  same_cost : cost g s ≡ cost g t
  same_cost = ap₂ (λ (k : ℕ) (rows : List Row). cost_of g k rows) e.taxa e.rows

  same_grown : (f left spent : ℕ) → SameReply (grown g f left spent s) (grown g f left spent t)
  unfolding grown
  same_grown zero left spent = record { outcome = refl; list = e; trials = refl }
  same_grown (suc f) left spent =
      subst (λ (m : ℕ). SameReply (turn (cost g s) s (leb (cost g s) left)) (turn m t (leb m left))) same_cost (go (leb (cost g s) left))
    where
      turn : ℕ → Splits → Bool → Growth
      turn m u b = cond b (grown g f (left - m) (spent + m) (larger g u)) (record { outcome = Short; list = u; trials = spent })

      go : (b : Bool) → SameReply (turn (cost g s) s b) (turn (cost g s) t b)
      go true = reply_by_law _ _ (ap (grown g f (left - cost g s) (spent + cost g s)) same_larger)
      go false = record { outcome = refl; list = e; trials = refl }

-- growth on a source of n taxa whose own checks are these, behind those of n
module _ (g : Manner) (n : ℕ) (own : List Check) (allowance : ℕ) where
  abbrev said : Splits → Outcome
  said s = outcome_of ((taxa_off n ∷ own) ++ (list_off g.most n s ∷ []))

  growth : Splits → Growth
  growth s = unless_refused (said s) (refused_growth (said s) s) (grown g (n - s.taxa) allowance 0 s)

  growth_unseen : SpareUnseen growth
  unfolding growth
  growth_unseen s t rs rt e =
      subst (λ (o : Outcome). SameReply (growth s) (by o (n - t.taxa) t))
      (same_checks s t rs rt e n (λ u. own ++ (list_off g.most n u ∷ [])) (λ few. ap (λ (b : Bool). own ++ (single 8 (not b) ∷ [])) (same_test s t rs rt e g.most n few)))
      (subst (λ (k : ℕ). SameReply (growth s) (by (said s) (n - k) t)) e.taxa (go (said s)))
    where
      by : Outcome → ℕ → Splits → Growth
      by o f u = unless_refused o (refused_growth o u) (grown g f allowance 0 u)

      go : (o : Outcome) → SameReply (by o (n - s.taxa) s) (by o (n - s.taxa) t)
      go Done = same_grown g s t e (n - s.taxa) allowance 0
      go Short = same_grown g s t e (n - s.taxa) allowance 0
      go (Refused number place) = record { outcome = refl; list = e; trials = refl }

pub matrix_spare : (n : ℕ) (entries : List ℕ) (allowance : ℕ) → SpareUnseen (λ s. grow_matrix n entries s allowance)
unfolding grow_matrix growth
matrix_spare n entries allowance =
    growth_unseen (by_matrix (distance n entries)) n (length_off (eqb (length entries) (n * n)) ∷ entry_checks n entries) allowance

pub table_spare : (n : ℕ) (bytes : List ℕ) (allowance : ℕ) → SpareUnseen (λ s. grow_table n bytes s allowance)
unfolding grow_table growth
table_spare n bytes allowance = growth_unseen (by_table bytes) n (length_off (eqb (length bytes) (choose n 4)) ∷ byte_off bytes ∷ []) allowance

-- THE TREE AND THE PATH SUMS
module _ (n : ℕ) (out : List ℕ) where
  output_unseen : (wanted : ℕ → ℕ) → SpareUnseenBy (λ s. outcome_of (output_checks n s (length out) (wanted s.rows)))
  output_unseen wanted s t rs rt e =
      same_checks s t rs rt e n (λ u. single 8 (not (well_formed weight_limit n u && eqb u.taxa n)) ∷ output_off (length out) (wanted u.rows) ∷ [])
      (λ few. ap₂ (λ (b : Bool) (m : ℕ). single 8 (not b) ∷ output_off (length out) (wanted m) ∷ [])
      (ap₂ (λ (b : Bool) (k : ℕ). b && eqb k n) (same_test s t rs rt e weight_limit n few) e.taxa) e.count)

  pub tree_spare : SpareUnseenBy (λ s. write_tree n s out) × SpareUnseenBy (λ s. tree_written n s out)
  unfolding write_tree tree_written
  tree_spare =
      let said = output_unseen (λ m. tree_length n m) in
      (said, (λ s t rs rt e. ap₂ (λ (o : Outcome) (rows : List Row). unless_refused o out (tree_body (tree_of n rows))) (said s t rs rt e) e.rows))

  pub paths_spare : SpareUnseenBy (λ s. sum_paths n s out) × SpareUnseenBy (λ s. paths_written n s out)
  unfolding sum_paths paths_written
  paths_spare =
      let said = output_unseen (λ m. n * n) in
      (said, (λ s t rs rt e. ap₂ (λ (o : Outcome) (rows : List Row). unless_refused o out (path_sums n (tree_of n rows))) (said s t rs rt e) e.rows))
