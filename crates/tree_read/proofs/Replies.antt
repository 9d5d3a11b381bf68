-- The ways out of a reading: what the checks found, as its reply. Assumes nothing.
use Prim.Native.Nat.{ℕ, ◌+◌, ◌≤◌, ◌<◌}
use native.Mathlib.Omega.{arith}
use mathlib.Core.Path.{◌≡◌, refl, sym, ◌∙◌, ap, ap₂}
use mathlib.Core.Bool.{Bool, cond, not, ◌&&◌}
use mathlib.Core.List.{List, [], ◌∷◌}
use lib.Dec.{ltb, eqb}
use lib.ListN.{length, get_or, take, drop, length-drop}
use lib.Seq.{length-take-le, get_or-take}
use Rattle.statement.specs.declared.Splits.{Splits}
use Rattle.std.specs.Prelude.{Ok, Err}
use Rattle.statement.specs.declared.Refusal.{Refusal}
use Rattle.statement.specs.Outcomes.{Outcome, Done, Refused}
use Rattle.statement.specs.Lowest.{somewhere}
use Rattle.statement.specs.Rows.{row, list_of}
use Rattle.statement.specs.Tree.{Tree, root, cluster_of, rows_of_tree}
use Rattle.statement.specs.Bytes.{tree_in, tree_length, from_bytes}
use Rattle.statement.specs.Refusals.{Check, outcome_of, AllPassed, edge_off, twin_off, tree_checks}
use Rattle.statement.specs.Calls.{read_tree}
use Rattle.statement.specs.Replies.{refused_for, reading_said}
use Rattle.statement.proofs.Lowest.{lowest_same}
use Rattle.statement.proofs.Refused.{append_checks, passed_done, accepted_exactly}
use Rattle.tree_body.proofs.Body.{root_is}
use Rattle.tree_check.specs.Parts.{placed, first_checks}
use Rattle.tree_check.proofs.Walked.{same_cluster}
use Rattle.tree_read.specs.Columns.{Weights, Clusters, twinned, cluster_checks}
use Rattle.row_sort.specs.Sorted.{row_at, sorted_of}
use Rattle.tree_read.proofs.Passed.{Shape, shape_of}
use Rattle.tree_read.proofs.Rows.{edge, rows_are}
use Rattle.row_sort.proofs.Sorting.{sorted_same}

some_same : (p q : ℕ → Bool) (m : ℕ) → ((i : ℕ) → i < m → p i ≡ q i) → somewhere p m ≡ somewhere q m
some_same p q m e = ap (λ (k : ℕ). ltb k m) (lowest_same p q 0 m (λ j a l. e j (omega arith)))

-- one line of an order: only the places looked at count
same_line : (number places : ℕ) (p q : ℕ → Bool) (cs ds : List Check) → ((i : ℕ) → i < places → p i ≡ q i) → outcome_of cs ≡ outcome_of ds
    → outcome_of (record { number = number; places = places; bad = p } ∷ cs) ≡ outcome_of (record { number = number; places = places; bad = q } ∷ ds)
unfolding outcome_of
same_line number places p q cs ds e same =
    ap₂ (λ (r : ℕ) (o : Outcome). cond (ltb r places) (Refused number r) o) (lowest_same p q 0 places (λ j a l. e j (omega arith))) same

abbrev last_checks : ℕ → List ℕ → List Check
last_checks n body = edge_off n (tree_in n body) ∷ twin_off n (tree_in n body) ∷ []

-- WHAT THE CHECKS SAY IS THE REPLY: a refusal, whatever the list would be
pub refused_reply : (n : ℕ) (body : List ℕ) (r : Refusal) → refused_for r ≡ outcome_of (tree_checks n body) → reading_said (Err r) ≡ read_tree n body
unfolding read_tree
refused_reply n body r e = rw (← e) refl

-- refused before the clusters
pub first_refused : (n : ℕ) (body : List ℕ) (r : Refusal) → refused_for r ≡ outcome_of (first_checks n body) → reading_said (Err r) ≡ read_tree n body
first_refused n body r e = refused_reply n body r (sym (append_checks (first_checks n body) (last_checks n body) ∙ rw (← e)))

first_shape : (n : ℕ) (body : List ℕ) → AllPassed (first_checks n body) → Shape n body
first_shape n body passed = shape_of n body passed.0 passed.1.0 passed.1.1.0

-- the lengths of a body that passed so far, m being its first byte
pub record Room (n : ℕ) (body : List ℕ) (m : ℕ) : Type 0 where
  pub few : n ≤ 64
  pub short : m ≤ 125
  pub sized : length body ≡ tree_length n m

room_of : (n : ℕ) (body : List ℕ) (m : ℕ) → AllPassed (first_checks n body) → m ≡ get_or body 0 0 → Room n body m
room_of n body m passed is =
    let s = first_shape n body passed in
    record { few = s.few; short = omega (arith, s.few, s.edges); sized = s.sized ∙ ap (tree_length n) (sym is) }

pub room_at : (n : ℕ) (body : List ℕ) (m : ℕ) → outcome_of (first_checks n body) ≡ Done → m ≡ get_or body 0 0 → Room n body m
room_at n body m done = room_of n body m ((accepted_exactly (first_checks n body)).0 done)

-- THE CLUSTERS, made from the links and homes of a body that passed so far
pub record Read (n : ℕ) (body : List ℕ) (m : ℕ) (cs : List ℕ) : Type 0 where
  pub passed : AllPassed (first_checks n body)
  pub first : m ≡ get_or body 0 0
  pub links : List ℕ
  pub homes : List ℕ
  pub links_part : links ≡ take m (drop 1 body)
  pub homes_part : homes ≡ take n (drop (1 + m) body)
  pub made : Clusters links homes cs

pub read_of : (n : ℕ) (body : List ℕ) (m : ℕ) (cs : List ℕ) {links homes : List ℕ} → outcome_of (first_checks n body) ≡ Done → m ≡ get_or body 0 0
    → links ≡ take m (drop 1 body) → homes ≡ take n (drop (1 + m) body) → Clusters links homes cs → Read n body m cs
read_of n body m cs {links} {homes} done first links_part homes_part made = record {
  passed = (accepted_exactly (first_checks n body)).0 done;
  first = first;
  links = links;
  homes = homes;
  links_part = links_part;
  homes_part = homes_part;
  made = made;
}

module _ (n : ℕ) (body : List ℕ) (m : ℕ) (cs : List ℕ) (k : Read n body m cs) where
  sized : length body ≡ tree_length n m
  sized = (room_of n body m k.passed k.first).sized

  edges : root (tree_in n body) ≡ m
  edges = root_is n body (first_shape n body k.passed).sized ∙ sym k.first

  tree_parts : placed k.links k.homes ≡ placed (tree_in n body).links (tree_in n body).homes
  unfolding tree_in
  tree_parts =
      ap₂ placed (k.links_part ∙ ap (λ (j : ℕ). take j (drop 1 body)) k.first)
      (k.homes_part ∙ ap (λ (j : ℕ). take n (drop (1 + j) body)) k.first)

  links_long : length k.links ≡ m
  links_long = ap length k.links_part ∙ length-take-le m (drop 1 body) (omega (arith, length-drop 1 body, sized))

  homes_long : length k.homes ≡ n
  homes_long = ap length k.homes_part ∙ length-take-le n (drop (1 + m) body) (omega (arith, length-drop (1 + m) body, sized))

  clusters_are : (v : ℕ) → v < m → get_or cs v 0 ≡ cluster_of (tree_in n body) v n
  clusters_are v l =
      k.made.each v (omega (arith, links_long))
      ∙ ap₂ (λ (t : Tree) (j : ℕ). cluster_of t v j) tree_parts homes_long ∙ sym (same_cluster (tree_in n body) v n)

  -- 12 and 13: the clusters are those of the tree
  module _ (ks : List ℕ) (part : ks ≡ take m cs) where
    ks_long : length ks ≡ m
    ks_long = ap length part ∙ length-take-le m cs (omega (arith, k.made.long, (room_of n body m k.passed k.first).short))

    ks_are : (v : ℕ) → v < length ks → get_or ks v 0 ≡ cluster_of (tree_in n body) v n
    ks_are v l =
        let h : v < m = omega (arith, ks_long) in
        ap (λ (xs : List ℕ). get_or xs v 0) part ∙ get_or-take m cs v 0 h ∙ clusters_are v h

    twin_same : (v : ℕ) → v < length ks → twinned ks v ≡ (twin_off n (tree_in n body)).bad v
    twin_same v l =
        some_same (λ w. not (eqb v w) && eqb (get_or ks v 0) (get_or ks w 0))
        (λ w. not (eqb v w) && eqb (cluster_of (tree_in n body) v n) (cluster_of (tree_in n body) w n)) (length ks)
        (λ w h. ap₂ (λ (x y : ℕ). not (eqb v w) && eqb x y) (ks_are v l) (ks_are w h))
        ∙ ap (somewhere (λ w. not (eqb v w) && eqb (cluster_of (tree_in n body) v n) (cluster_of (tree_in n body) w n))) (ks_long ∙ sym edges)

    last_outcome : outcome_of (cluster_checks ks) ≡ outcome_of (tree_checks n body)
    last_outcome =
        same_line 12 (length ks) (λ v. eqb (get_or ks v 0) 0) (edge_off n (tree_in n body)).bad _ _ (λ v l. ap (λ (c : ℕ). eqb c 0) (ks_are v l))
        (same_line 13 (length ks) (twinned ks) (twin_off n (tree_in n body)).bad [] [] twin_same refl)
        ∙ ap (λ (j : ℕ). outcome_of (record { number = 12; places = j; bad = (edge_off n (tree_in n body)).bad } ∷ record { number = 13; places = j; bad = (twin_off n (tree_in n body)).bad } ∷ []))
        (ks_long ∙ sym edges)
        ∙ sym (append_checks (first_checks n body) (last_checks n body) ∙ rw (passed_done (first_checks n body) k.passed))

    pub clusters_refused : (r : Refusal) → refused_for r ≡ outcome_of (cluster_checks ks) → reading_said (Err r) ≡ read_tree n body
    clusters_refused r e = refused_reply n body r (e ∙ last_outcome)

    pub clusters_passed : Done ≡ outcome_of (cluster_checks ks) → outcome_of (tree_checks n body) ≡ Done
    clusters_passed e = sym (e ∙ last_outcome)

  module _ (bytes ws : List ℕ) (part : bytes ≡ drop (1 + m + n) body) (weighed : Weights bytes m ws) where
    weights_are : from_bytes bytes ≡ (tree_in n body).weights
    unfolding tree_in
    weights_are = ap from_bytes (part ∙ ap (λ (j : ℕ). drop (1 + j + n) body) k.first)

    rows_read_law : sorted_of (row_at cs ws) m ≡ rows_of_tree n (tree_in n body)
    rows_read_law =
        sorted_same (row_at cs ws) (edge n (tree_in n body)) m
        (λ v l. ap₂ row (clusters_are v l) (weighed v l ∙ ap (λ (us : List ℕ). get_or us v 0) weights_are))
        ∙ ap (sorted_of (edge n (tree_in n body))) (sym edges) ∙ sym (rows_are n (tree_in n body))

    pub accepted_reply : outcome_of (tree_checks n body) ≡ Done → (list : Splits) → list ≡ list_of n (sorted_of (row_at cs ws) m)
        → reading_said (Ok list) ≡ read_tree n body
    unfolding read_tree
    accepted_reply done list e = rw done (ap (λ (l : Splits). reading_said (Ok l)) (e ∙ ap (list_of n) rows_read_law))
