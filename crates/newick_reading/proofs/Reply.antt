-- THE WAYS OUT of a reading: what the walk has noted, as the reply. Assumes nothing.
use Rattle.std.specs.Prelude.{Some, None}
use Prim.Native.Nat.{ℕ, suc, ◌+◌, ◌-◌, ◌*◌, ◌^◌, ◌≤◌, ◌<◌}
use native.Mathlib.Omega.{arith}
use mathlib.Core.Path.{◌≡◌, refl, sym, ◌∙◌, ap, ap₂, subst}
use mathlib.Core.Logic.{◌⊎◌, inl, inr}
use mathlib.Core.Bool.{Bool, true, false, cond, not, ◌||◌}
use mathlib.Core.List.{List, [], ◌∷◌, ◌++◌, map}
use lib.Dec.{ltb, eqb}
use lib.ListN.{length, get_or, length-map}
use borrow.Author.Tests.{lt-ltb, le-ltb, not-true, not-false}
use Rattle.statement.specs.declared.Splits.{Splits}
use Rattle.statement.specs.Outcomes.{Reading, Done, Refused}
use Rattle.statement.specs.Lowest.{lowest, somewhere}
use Rattle.statement.specs.Rows.{row, list_of, filled, Ascending}
use Rattle.statement.specs.Refusals.{Check, outcome_of, places_of, strays, twins, missing, bad_at, sentence_checks, text_checks, newick_checks}
use Rattle.statement.specs.Calls.{empty_list}
use Rattle.statement.proofs.Lowest.{some_of, none_of}
use Rattle.statement.proofs.Listed.{asc_append}
use Rattle.statement.proofs.Refused.{refused_single, passed_single, none_left}
use Rattle.statement.specs.Tree.{sort_rows}
use Rattle.row_sort.specs.Sorted.{row_at, sorted_of}
use Rattle.statement.specs.Sentence.{Children, among, size, taxa_of, edges_at, Parsed, outside, sentence, leaves_of, edges_of, semicolon_at, rows_read}
use Rattle.newick_meaning.specs.Parse.{parsed, read_newick}
use Rattle.newick_walk.specs.Machine.{Walk}
use Rattle.newick_noted.proofs.Groups.{group_none, group_all, group_some}
use Rattle.newick_noted.proofs.Taxa.{head, head_or, met_group, met_all, Good, good_of, turned, group_turned, total, total_group, both}
use Rattle.newick_noted.proofs.Whole.{none_met, Walked}
use Rattle.newick_noted.proofs.Edges.{taxa_leaves, entry_of, entries_are}
use Rattle.newick_noted.proofs.Play.{Entry, enter_all}
use Rattle.newick_noted.proofs.Rows.{Held, held, table_of, no_table_law, solid, add_all, enter_all_law, pos_by, pos_filled, Placed}
use Rattle.newick_noted.proofs.Once.{fresh_none, many_places, twins_many, twins_none}
use Rattle.newick_reading.proofs.Room.{enough}
use Rattle.newick_reading.proofs.Places.{asc_between, leaves_up, edges_up, strays_up, places_up, twins_up, kept_up, edges_placed, bad_passed, bad_refused, bad_found, bad_first, none_found, none_first}
use Rattle.newick_reading.proofs.Same.{too_heavy, is_bare, heavies_are, bares_are, solid_are, twins_are, rows_are}
use Rattle.newick_noted.proofs.Many.{is_many, PlacedH, placed_all, many_found, many_none, column_at, rows_of}

abbrev pub refused_reply : ℕ → ℕ → Reading
refused_reply number place = record { outcome = Refused number place; list = empty_list 0 }

abbrev pub done_reply : Splits → Reading
done_reply list = record { outcome = Done; list = list }

-- entries in the order of their places stay so
solid_placed : (es : List Entry) → Placed es → Placed (solid es)
unfolding solid
solid_placed [] p = tt
solid_placed (e ∷ es) p = go (eqb e.weight 0) (eqb e.cluster 0) (solid_placed es p.1)
  where
    go : (a b : Bool) → Placed (solid es) → Placed (cond a (solid es) (cond b (solid es) (e ∷ solid es)))
    go true b k = k
    go false true k = k
    go false false k = (p.0, k)

-- the checks that are left
abbrev after12 : ℕ → Children → List Check
after12 n f = bad_at 13 (twins n [] (edges_of f)) (suc (semicolon_at f)) ∷ []

abbrev after14 : ℕ → Children → List Check
after14 n f = bad_at 12 (places_of (is_bare n) (edges_of f)) (suc (semicolon_at f)) ∷ after12 n f

abbrev after20 : ℕ → Children → List Check
after20 n f = bad_at 14 (places_of too_heavy (edges_of f)) (suc (semicolon_at f)) ∷ after14 n f

-- 1, and 19
pub taxa_reply : (n : ℕ) (text : List ℕ) → (ltb n 2 || ltb 64 n) ≡ true → refused_reply 1 0 ≡ read_newick n text
unfolding read_newick
taxa_reply n text e = rw (refused_single 1 (ltb n 2 || ltb 64 n) (text_checks n (parsed text)) e)

pub taxa_few : (n : ℕ) → n < 2 → (ltb n 2 || ltb 64 n) ≡ true
taxa_few n l = rw (lt-ltb n 2 l)

pub taxa_many : (n : ℕ) → 64 < n → (ltb n 2 || ltb 64 n) ≡ true
taxa_many n l = rw (lt-ltb 64 n l) (or_true (ltb n 2))
  where
    or_true : (b : Bool) → (b || true) ≡ true
    or_true true = refl
    or_true false = refl

taxa_good : (n : ℕ) → 2 ≤ n → n ≤ 64 → (ltb n 2 || ltb 64 n) ≡ false
taxa_good n l m = rw (le-ltb n 2 l, le-ltb 64 n m)

module _ (n : ℕ) (two : 2 ≤ n) (few : n ≤ 64) (text : List ℕ) where
  past_taxa : outcome_of (newick_checks n (parsed text)) ≡ outcome_of (text_checks n (parsed text))
  past_taxa = passed_single 1 (ltb n 2 || ltb 64 n) (text_checks n (parsed text)) (taxa_good n two few)

  refused_is : (number place : ℕ) → outcome_of (text_checks n (parsed text)) ≡ Refused number place → refused_reply number place ≡ read_newick n text
  unfolding read_newick
  refused_is number place e = rw (past_taxa ∙ e)

  pub text_reply : (k : ℕ) → parsed text ≡ outside k → refused_reply 19 k ≡ read_newick n text
  text_reply k e =
      refused_is 19 k (ap (λ (p : Parsed). outcome_of (text_checks n p)) e ∙ bad_refused 19 (suc k) [] k [] (omega arith, omega arith))

  module _ (f : Children) (is : parsed text ≡ sentence f) (r : Walk) (k : Walked n f r) where
    end : ℕ
    end = suc (semicolon_at f)

    checks_are : outcome_of (text_checks n (parsed text)) ≡ outcome_of (sentence_checks n f)
    checks_are = ap (λ (p : Parsed). outcome_of (text_checks n p)) is

    -- 20
    none_seen : 0 ≡ met_group n []
    none_seen = sym (group_none n)

    leaves_asc : Ascending 1 (1 + size f) (strays n [] (leaves_of f))
    leaves_asc = strays_up n 1 (1 + size f) [] (leaves_of f) (leaves_up 1 f)

    stray_is : r.met.stray ≡ head (strays n [] (leaves_of f))
    stray_is = ap (λ m. m.stray) k.met ∙ (met_all n few (leaves_of f) [] none_met none_seen).1

    missing_up : Ascending (1 + size f) (suc (semicolon_at f)) (missing n f)
    unfolding missing
    missing_up = go (somewhere (λ x. not (among x (taxa_of f))) n)
      where
        go : (b : Bool) → Ascending (1 + size f) (suc (semicolon_at f)) (cond b (semicolon_at f ∷ []) [])
        go true = (omega arith, omega arith)
        go false = omega arith

    both_up : Ascending 1 (suc (semicolon_at f)) (strays n [] (leaves_of f) ++ missing n f)
    both_up = asc_append 1 (1 + size f) (suc (semicolon_at f)) (strays n [] (leaves_of f)) (missing n f) leaves_asc missing_up

    first_append : (p : ℕ) (xs ys : List ℕ) → head xs ≡ Some p → head (xs ++ ys) ≡ Some p
    unfolding head
    first_append p [] ys e = absurd (let z : ◌≡◌ {A = ℕ} 0 1 = cc in omega arith)
    first_append p (x ∷ xs) ys e = e

    pub stray_reply : (p : ℕ) → r.met.stray ≡ Some p → refused_reply 20 p ≡ read_newick n text
    stray_reply p e =
        refused_is 20 p (checks_are ∙ bad_found 20 (suc (semicolon_at f)) _ p (strays n [] (leaves_of f) ++ missing n f) both_up
        (first_append p (strays n [] (leaves_of f)) (missing n f) (sym stray_is ∙ e)))

    module _ (none : r.met.stray ≡ None) where
      no_strays : strays n [] (leaves_of f) ≡ []
      no_strays = none_found (strays n [] (leaves_of f)) (sym stray_is ∙ none)

      pub good : Good n [] (taxa_of f)
      good = subst (Good n []) (taxa_leaves 1 f) (good_of n [] (leaves_of f) no_strays)

      seen_is : r.met.seen ≡ met_group n (taxa_of f)
      seen_is =
          ap (λ m. m.seen) k.met
          ∙ (met_all n few (leaves_of f) [] none_met none_seen).0
          ∙ ap (λ (s : List ℕ). met_group n (turned s [])) (taxa_leaves 1 f)
          ∙ group_turned n [] (taxa_of f) good
          ∙ (let z : met_group n [] + total (taxa_of f) ≡ total (taxa_of f) = omega (arith, group_none n) in z)
          ∙ total_group n (taxa_of f) good

      lacking : Bool
      lacking = somewhere (λ x. not (among x (taxa_of f))) n

      missing_some : (r.met.seen ≡ 2 ^ n - 1 → ⊥) → missing n f ≡ semicolon_at f ∷ []
      unfolding missing
      missing_some h = go (both (somewhere (λ x. not (among x (taxa_of f))) n))
        where
          go : (somewhere (λ x. not (among x (taxa_of f))) n ≡ true) ⊎ (somewhere (λ x. not (among x (taxa_of f))) n ≡ false) → missing n f ≡ semicolon_at f ∷ []
          go (inl e) = rw e
          go (inr e) =
              absurd (h (seen_is ∙ group_all (λ x. among x (taxa_of f)) n (λ x l. not-false (among x (taxa_of f)) (none_of (λ x. not (among x (taxa_of f))) n e x l))))

      missing_none : r.met.seen ≡ 2 ^ n - 1 → missing n f ≡ []
      unfolding missing
      missing_none h = go (both (somewhere (λ x. not (among x (taxa_of f))) n))
        where
          go : (somewhere (λ x. not (among x (taxa_of f))) n ≡ true) ⊎ (somewhere (λ x. not (among x (taxa_of f))) n ≡ false) → missing n f ≡ []
          go (inl e) =
              let (x, l, q) = some_of (λ x. not (among x (taxa_of f))) n e in
              absurd (group_some (λ x. among x (taxa_of f)) n x l (not-true (among x (taxa_of f)) q) (sym seen_is ∙ h))
          go (inr e) = rw e

      pub missing_reply : (r.met.seen ≡ 2 ^ n - 1 → ⊥) → refused_reply 20 r.at ≡ read_newick n text
      missing_reply h =
          refused_is 20 r.at
          (checks_are
          ∙ ap (λ (ps : List ℕ). outcome_of (bad_at 20 ps (suc (semicolon_at f)) ∷ after20 n f)) (ap₂ (λ (a b : List ℕ). a ++ b) no_strays (missing_some h))
          ∙ bad_refused 20 (suc (semicolon_at f)) (after20 n f) (semicolon_at f) [] (omega arith, omega arith)
          ∙ ap (Refused 20) (sym k.at))

      -- PAST 20: the table
      module _ (all : r.met.seen ≡ 2 ^ n - 1) where
        past20 : outcome_of (text_checks n (parsed text)) ≡ outcome_of (after20 n f)
        past20 = checks_are ∙ bad_passed 20 (suc (semicolon_at f)) (after20 n f) (strays n [] (leaves_of f) ++ missing n f) (ap₂ (λ (a b : List ℕ). a ++ b) no_strays (missing_none all))

        E : List Entry
        E = map (entry_of n) (edges_at 1 f)

        unfoldable pub R : List Held
        R = add_all [] (solid (map (entry_of n) (edges_at 1 f)))

        placed : PlacedH R
        unfolding R
        placed = placed_all (solid (map (entry_of n) (edges_at 1 f))) [] (solid_placed (map (entry_of n) (edges_at 1 f)) (edges_placed n 1 (1 + size f) (edges_at 1 f) (omega arith) (edges_up 1 f))) tt

        pub small : length R + 3 ≤ 2 * n
        unfolding R
        small = enough n f two good

        table_is : r.table ≡ table_of (head (places_of too_heavy (edges_of f))) (head (places_of (is_bare n) (edges_of f))) R
        unfolding R
        table_is =
            k.table
            ∙ ap₂ enter_all (entries_are n (omega arith) few f 1 [] none_met none_seen good) no_table_law
            ∙ enter_all_law (map (entry_of n) (edges_at 1 f)) None None [] (omega (arith, enough n f two good))
            ∙ ap₂ (λ (a b : List ℕ). table_of (head a) (head b) (add_all [] (solid (map (entry_of n) (edges_at 1 f))))) (heavies_are n (edges_at 1 f)) (bares_are n (edges_at 1 f))

        kept_asc : Ascending 1 (1 + size f) (map (λ e. e.place) (edges_of f))
        kept_asc = kept_up 1 (1 + size f) (edges_at 1 f) (edges_up 1 f)

        wide : (ps : List ℕ) → Ascending 1 (1 + size f) ps → Ascending 1 (suc (semicolon_at f)) ps
        wide ps h = asc_between 1 1 (1 + size f) (suc (semicolon_at f)) ps (omega arith) (omega arith) h

        heavy_up : Ascending 1 (suc (semicolon_at f)) (places_of too_heavy (edges_of f))
        heavy_up = wide (places_of too_heavy (edges_of f)) (places_up too_heavy 1 (1 + size f) (edges_of f) kept_asc)

        bare_up : Ascending 1 (suc (semicolon_at f)) (places_of (is_bare n) (edges_of f))
        bare_up = wide (places_of (is_bare n) (edges_of f)) (places_up (is_bare n) 1 (1 + size f) (edges_of f) kept_asc)

        twin_up : Ascending 1 (suc (semicolon_at f)) (twins n [] (edges_of f))
        twin_up = wide (twins n [] (edges_of f)) (twins_up n 1 (1 + size f) [] (edges_of f) kept_asc)

        heavy_is : r.table.heavy ≡ head (places_of too_heavy (edges_of f))
        heavy_is = ap (λ t. t.heavy) table_is

        bare_is : r.table.bare ≡ head (places_of (is_bare n) (edges_of f))
        bare_is = ap (λ t. t.bare) table_is

        -- 14
        pub heavy_reply : (p : ℕ) → r.table.heavy ≡ Some p → refused_reply 14 p ≡ read_newick n text
        heavy_reply p e =
            refused_is 14 p (past20 ∙ bad_found 14 (suc (semicolon_at f)) (after14 n f) p (places_of too_heavy (edges_of f)) heavy_up (sym heavy_is ∙ e))

        module _ (light : r.table.heavy ≡ None) where
          no_heavy : places_of too_heavy (edges_of f) ≡ []
          no_heavy = none_found (places_of too_heavy (edges_of f)) (sym heavy_is ∙ light)

          past14 : outcome_of (text_checks n (parsed text)) ≡ outcome_of (after14 n f)
          past14 = past20 ∙ bad_passed 14 (suc (semicolon_at f)) (after14 n f) (places_of too_heavy (edges_of f)) no_heavy

          -- 12
          pub bare_reply : (p : ℕ) → r.table.bare ≡ Some p → refused_reply 12 p ≡ read_newick n text
          bare_reply p e =
              refused_is 12 p (past14 ∙ bad_found 12 (suc (semicolon_at f)) (after12 n f) p (places_of (is_bare n) (edges_of f)) bare_up (sym bare_is ∙ e))

          module _ (full : r.table.bare ≡ None) where
            no_bare : places_of (is_bare n) (edges_of f) ≡ []
            no_bare = none_found (places_of (is_bare n) (edges_of f)) (sym bare_is ∙ full)

            past12 : outcome_of (text_checks n (parsed text)) ≡ outcome_of (after12 n f)
            past12 = past14 ∙ bad_passed 12 (suc (semicolon_at f)) (after12 n f) (places_of (is_bare n) (edges_of f)) no_bare

            solid_is : solid (map (entry_of n) (edges_at 1 f)) ≡ map (entry_of n) (edges_of f)
            solid_is = solid_are n (edges_at 1 f) no_bare

            -- 13
            twin_is : head_or 0 (twins n [] (edges_of f)) ≡ head_or 0 (many_places R)
            unfolding R
            twin_is =
                ap (head_or 0) (sym (twins_are n (edges_of f) []))
                ∙ twins_many (map (entry_of n) (edges_of f)) [] (fresh_none (map (entry_of n) (edges_of f)))
                ∙ ap (λ (es : List Entry). head_or 0 (many_places (add_all [] es))) (sym solid_is)

            module _ (j : ℕ) (at : j ≡ lowest (λ i. is_many (get_or r.table.many i 0)) r.table.rows) where
              at_is : j ≡ pos_by is_many (map (λ r. r.many) R)
              at_is =
                  at ∙ ap (λ t. lowest (λ i. is_many (get_or t.many i 0)) t.rows) table_is
                  ∙ ap (lowest (λ i. is_many (get_or (filled (map (λ r. r.many) R)) i 0))) (sym (length-map R (λ r. r.many)))
                  ∙ pos_filled is_many (map (λ r. r.many) R)

              rows_is : r.table.rows ≡ length R
              rows_is = ap (λ t. t.rows) table_is

              pub twin_reply : j < r.table.rows → refused_reply 13 (get_or r.table.places j 0) ≡ read_newick n text
              twin_reply l =
                  let m = many_found R placed (omega (arith, at_is, rows_is)) in
                  let e : get_or r.table.places j 0 ≡ head_or 0 (many_places R)
                  = ap (λ t. get_or t.places j 0) table_is ∙ column_at (λ r. r.place) R j (omega (arith, rows_is)) ∙ ap (λ (i : ℕ). get_or (map (λ r. r.place) R) i 0) at_is ∙ m.0 in
                  refused_is 13 (get_or r.table.places j 0)
                  (past12 ∙ bad_first 13 (suc (semicolon_at f)) [] (get_or r.table.places j 0) (twins n [] (edges_of f)) twin_up (e ∙ sym twin_is) (λ z. m.1 (sym e ∙ z)))

              module _ (l : r.table.rows ≤ j) where
                no_twins : twins n [] (edges_of f) ≡ []
                unfolding head_or
                no_twins =
                    none_first (suc (semicolon_at f)) (twins n [] (edges_of f)) twin_up
                    (twin_is ∙ ap (head_or 0) (many_none R (omega (arith, at_is, rows_is))))

                all_done : outcome_of (text_checks n (parsed text)) ≡ Done
                all_done = past12 ∙ bad_passed 13 (suc (semicolon_at f)) [] (twins n [] (edges_of f)) no_twins ∙ none_left

                held_are : R ≡ map held (map (entry_of n) (edges_of f))
                unfolding R
                held_are =
                    ap (add_all []) solid_is
                    ∙ twins_none (map (entry_of n) (edges_of f)) [] (fresh_none (map (entry_of n) (edges_of f))) (twins_are n (edges_of f) [] ∙ no_twins)

                rows_are_read : sorted_of (row_at r.table.clusters r.table.weights) r.table.rows ≡ rows_read n (parsed text)
                rows_are_read =
                    ap (λ t. sorted_of (row_at t.clusters t.weights) t.rows) table_is
                    ∙ rows_of R
                    ∙ ap (λ (s : List Held). sort_rows (map (λ r. row r.cluster r.weight) s)) held_are
                    ∙ ap sort_rows (rows_are n (edges_of f) no_heavy)
                    ∙ sym (ap (rows_read n) is)

                pub done_reply_law : (list : Splits) → list ≡ list_of n (sorted_of (row_at r.table.clusters r.table.weights) r.table.rows) → done_reply list ≡ read_newick n text
                unfolding read_newick
                done_reply_law list e = rw (past_taxa ∙ all_done) (ap done_reply (e ∙ ap (list_of n) rows_are_read))
