-- The ways out of the checks that need no clusters: what a check found, as its refusal. Assumes nothing.
use Prim.Native.Nat.{ℕ, ◌+◌, ◌≤◌}
use native.Mathlib.Omega.{arith}
use mathlib.Core.Path.{◌≡◌, sym, ◌∙◌, ap, ap₂}
use mathlib.Core.Bool.{Bool, true, false, cond, not, ◌||◌}
use mathlib.Core.List.{List, [], ◌∷◌}
use lib.Dec.{ltb, eqb}
use lib.ListN.{length, get_or, take, drop}
use borrow.Author.Tests.{le-ltb, eq-eqb}
use Rattle.statement.specs.declared.Refusal.{Refusal}
use Rattle.statement.specs.Outcomes.{Outcome, Done, Refused}
use Rattle.statement.specs.Lowest.{somewhere}
use Rattle.statement.specs.Tree.{root}
use Rattle.statement.specs.Bytes.{from_bytes, tree_in, tree_length}
use Rattle.statement.specs.Refusals.{Check, outcome_of, tree_fits, weight_off, walk_off, home_off}
use Rattle.statement.specs.Replies.{refused_for}
use Rattle.statement.proofs.Refused.{none_left}
use Rattle.places.proofs.Orders.{refused_first, passed_on, single_first}
use Rattle.tree_body.proofs.Body.{root_is, home_at}
use Rattle.tree_check.specs.Parts.{linked, bad_weight, first_checks}
use Rattle.tree_check.proofs.Walked.{walks_of_links}

-- a byte behind the first, up to the last home, is above m
abbrev pub above : ℕ → List ℕ → ℕ → Bool
above n body m = somewhere (λ i. ltb m (get_or body (1 + i) 0)) (m + n)

-- 1, 2 AND 9: where none of them is given, the checks behind them have the say
module _ (n : ℕ) (body : List ℕ) where
  abbrev pub behind : Outcome
  behind = outcome_of (weight_off (tree_in n body) ∷ walk_off (tree_in n body) ∷ home_off (tree_in n body) ∷ [])

  pub first_outcome : (m : ℕ) → m ≡ get_or body 0 0 → outcome_of (first_checks n body)
      ≡ cond (ltb n 2 || ltb 64 n) (Refused 1 0)
      (cond (not (tree_fits n (length body))) (Refused 2 0) (cond (not (eqb (length body) (tree_length n m)) || above n body m) (Refused 9 0) behind))
  first_outcome m first =
      single_first 1 _ _ ∙ ap (cond (ltb n 2 || ltb 64 n) (Refused 1 0))
      (single_first 2 _ _ ∙ ap (cond (not (tree_fits n (length body))) (Refused 2 0))
      (single_first 9 _ _ ∙ ap (λ (k : ℕ). cond (not (eqb (length body) (tree_length n k)) || above n body k) (Refused 9 0) behind) (sym first)))

-- past these, m is the first byte and agrees with the length
pub record Shaped (n : ℕ) (body : List ℕ) (m : ℕ) : Type 0 where
  pub two : 2 ≤ n
  pub first : m ≡ get_or body 0 0
  pub sized : length body ≡ tree_length n m
  pub passed : outcome_of (first_checks n body) ≡ behind n body

pub shaped : (n : ℕ) (body : List ℕ) (m : ℕ) → 2 ≤ n → n ≤ 64 → tree_fits n (length body) ≡ true → m ≡ get_or body 0 0
    → length body ≡ tree_length n m → above n body m ≡ false → Shaped n body m
shaped n body m two few fits first sized low = record {
  two = two;
  first = first;
  sized = sized;
  passed = first_outcome n body m first ∙ rw (le-ltb n 2 two, le-ltb 64 n few, fits, eq-eqb _ _ sized, low);
}

module _ (n : ℕ) (body : List ℕ) (m : ℕ) (s : Shaped n body m) where
  long : length body ≡ tree_length n (get_or body 0 0)
  long = s.sized ∙ ap (tree_length n) s.first

  pub edges : root (tree_in n body) ≡ m
  edges = root_is n body long ∙ sym s.first

  -- 14: the bytes of the weights
  module _ (bytes : List ℕ) (part : bytes ≡ drop (1 + m + n) body) where
    abbrev pub weights : Check
    weights = record { number = 14; places = m; bad = bad_weight (from_bytes bytes) }

    same_weights : weights ≡ weight_off (tree_in n body)
    unfolding tree_in
    same_weights =
        ap₂ (λ (xs : List ℕ) (k : ℕ). record { number = 14; places = k; bad = bad_weight (from_bytes xs) })
        (part ∙ ap (λ (k : ℕ). drop (1 + k + n) body) s.first) (sym edges)

    pub wrong_weight : (r : Refusal) → refused_for r ≡ outcome_of (weights ∷ []) → refused_for r ≡ outcome_of (first_checks n body)
    wrong_weight r e = refused_first _ _ r (e ∙ ap (λ (c : Check). outcome_of (c ∷ [])) same_weights) ∙ sym s.passed

    pub weights_good : Done ≡ outcome_of (weights ∷ []) → outcome_of (first_checks n body) ≡ outcome_of (walk_off (tree_in n body) ∷ home_off (tree_in n body) ∷ [])
    weights_good e = s.passed ∙ passed_on _ _ (e ∙ ap (λ (c : Check). outcome_of (c ∷ [])) same_weights)

  -- 10: the links
  module _ (links : List ℕ) (part : links ≡ take m (drop 1 body)) where
    same_walks : walk_off (linked links) ≡ walk_off (tree_in n body)
    unfolding tree_in
    same_walks =
        ap (λ (xs : List ℕ). walk_off (linked xs)) (part ∙ ap (λ (k : ℕ). take k (drop 1 body)) s.first)
        ∙ sym (walks_of_links (tree_in n body))

    pub wrong_walk : (o : Outcome) → o ≡ outcome_of (walk_off (tree_in n body) ∷ home_off (tree_in n body) ∷ [])
        → (r : Refusal) → refused_for r ≡ outcome_of (walk_off (linked links) ∷ []) → refused_for r ≡ o
    wrong_walk o is r e = refused_first _ _ r (e ∙ ap (λ (c : Check). outcome_of (c ∷ [])) same_walks) ∙ sym is

    pub walks_good : (o : Outcome) → o ≡ outcome_of (walk_off (tree_in n body) ∷ home_off (tree_in n body) ∷ [])
        → Done ≡ outcome_of (walk_off (linked links) ∷ []) → o ≡ outcome_of (home_off (tree_in n body) ∷ [])
    walks_good o is e = is ∙ passed_on _ _ (e ∙ ap (λ (c : Check). outcome_of (c ∷ [])) same_walks)

  -- 11: taxon 0 is at home at h
  pub home_outcome : (h : ℕ) → h ≡ get_or body (1 + m) 0 → outcome_of (home_off (tree_in n body) ∷ []) ≡ cond (not (eqb h m)) (Refused 11 0) Done
  home_outcome h at = single_first 11 _ [] ∙ ap₂ (λ (x y : ℕ). cond (not (eqb x y)) (Refused 11 0) (outcome_of [])) home edges ∙ ap (cond (not (eqb h m)) (Refused 11 0)) none_left
    where
      place : 1 + get_or body 0 0 + 0 ≡ 1 + m
      place = omega (arith, s.first)

      home : get_or (tree_in n body).homes 0 0 ≡ h
      home = home_at n body long 0 (omega (arith, s.two)) ∙ ap (λ (k : ℕ). get_or body k 0) place ∙ sym at
