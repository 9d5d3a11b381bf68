-- THE LIST OF AN ACCEPTED TEXT: well-formed, its rows exactly the splits of the edges above 0; the same wherever the text is rooted and in whatever order its children
-- come; and the list that a text was written from. Assumes nothing.
use Prim.Native.Nat.{ℕ, ◌≤◌, ◌<◌}
use native.Mathlib.Omega.{arith}
use mathlib.Core.Path.{◌≡◌, refl, sym, ◌∙◌, ap, subst}
use mathlib.Core.Logic.{inl, inr, ◌↔◌}
use mathlib.Core.Bool.{Bool, true, false, cond, not, true≢false}
use mathlib.Core.List.{List, [], ◌∷◌, map}
use Rattle.statement.specs.declared.Splits.{Splits}
use Rattle.statement.specs.Outcomes.{Reading, Done}
use Rattle.statement.specs.Cluster.{bit, In}
use Rattle.statement.specs.Rows.{Row, row, Mem, rows_of, list_of}
use Rattle.statement.specs.Tree.{sort_rows}
use Rattle.statement.specs.Sentence.{Children, Edge, among, sentence, Parses, edges_at, split_made, beyond, edges_of, row_of}
use Rattle.statement.specs.Moves.{Moved}
use Rattle.statement.proofs.Groups.{group_bit}
use Rattle.statement.proofs.Lists.{rows_of_list}
use Rattle.row_sort.proofs.Sorting.{Held, sort_held}
use Rattle.newick_meaning.specs.Parse.{read_newick}
use Rattle.newick_meaning.proofs.Unique.{grammar_settles}
use Rattle.newick_reading.proofs.Accepted.{sentence_accepted, read_well}
use Rattle.newick_reading.proofs.Passing.{accepted_reply}
use Rattle.newick_moves.proofs.Unmoved.{moved_read}
use Rattle.newick_back.proofs.Round.{write_read}
use Rattle.claims.specs.Demands.{InRoom}
use Rattle.newick_reading.proofs.Room.{among_mem, mem_among}
use Rattle.newick_claims.specs.Newick.{OneOf, OtherSide, NewickRead, NewickReadsBack}
use Rattle.newick_claims.proofs.Places.{kept_is}

-- one of the rows
row_held : (r : Row) (rows : List Row) → OneOf r rows → Held r rows
row_held r [] o = absurd o
row_held r (x ∷ xs) (inl e) = inl e
row_held r (x ∷ xs) (inr o) = inr (row_held r xs o)

held_row : (r : Row) (rows : List Row) → Held r rows → OneOf r rows
held_row r [] o = absurd o
held_row r (x ∷ xs) (inl e) = inl e
held_row r (x ∷ xs) (inr o) = inr (held_row r xs o)

-- a row of some edges is that of one of them
of_edge : (n : ℕ) (r : Row) (es : List Edge) → OneOf r (map (row_of n) es) → (e : Edge) × OneOf e es × (r ≡ row_of n e)
of_edge n r [] o = absurd o
of_edge n r (e ∷ es) (inl q) = (e, inl refl, q)
of_edge n r (e ∷ es) (inr o) = let (x, s, q) = of_edge n r es o in (x, inr s, q)

edge_row : (n : ℕ) (r : Row) (es : List Edge) (e : Edge) → OneOf e es → r ≡ row_of n e → OneOf r (map (row_of n) es)
edge_row n r [] e o q = absurd o
edge_row n r (x ∷ xs) e (inl h) q = inl (q ∙ ap (row_of n) h)
edge_row n r (x ∷ xs) e (inr o) q = inr (edge_row n r xs e o q)

-- THE LIST
pub newick_list : (n : ℕ) (text : List ℕ) (f : Children) → Parses text (sentence f) → (read_newick n text).outcome ≡ Done → NewickRead n f (read_newick n text).list
newick_list n text f is done = record { taxa = (read_well n text done).1; well = (read_well n text done).0; rows = λ r. (there r, back r) }
  where
    says : read_newick n text ≡ record { outcome = Done; list = list_of n (sort_rows (map (row_of n) (edges_of f))) }
    says =
        let q = grammar_settles n text (sentence f) is in
        q ∙ accepted_reply n f (sentence_accepted n f (ap (λ (x : Reading). x.outcome) (sym q) ∙ done))

    rows : rows_of (read_newick n text).list ≡ sort_rows (map (row_of n) (edges_of f))
    rows = ap (λ (x : Reading). rows_of x.list) says ∙ rows_of_list n (sort_rows (map (row_of n) (edges_of f)))

    there : (r : Row) → OneOf r (rows_of (read_newick n text).list) → (e : Edge) × OneOf e (edges_at 1 f) × (1 ≤ e.weight) × (r ≡ row (split_made n e) e.weight)
    there r o =
        let h = (sort_held r (map (row_of n) (edges_of f))).0 (row_held r (sort_rows (map (row_of n) (edges_of f))) (subst (OneOf r) rows o)) in
        let (e, s, q) = of_edge n r (edges_of f) (held_row r (map (row_of n) (edges_of f)) h) in
        let (k, w) = (kept_is e (edges_at 1 f)).0 s in
        (e, k, w, q)

    back : (r : Row) → (e : Edge) × OneOf e (edges_at 1 f) × (1 ≤ e.weight) × (r ≡ row (split_made n e) e.weight) → OneOf r (rows_of (read_newick n text).list)
    back r (e, k, w, q) =
        let o = edge_row n r (edges_of f) e ((kept_is e (edges_at 1 f)).1 (k, w)) q in
        subst (OneOf r) (sym rows) (held_row r (sort_rows (map (row_of n) (edges_of f))) ((sort_held r (map (row_of n) (edges_of f))).1 (row_held r (map (row_of n) (edges_of f)) o)))

-- THE SPLIT THAT AN EDGE MAKES has the taxa on the other side of it from taxon 0
module _ (below : List ℕ) (i : ℕ) where
  not_among : (x : ℕ) → among x below ≡ false → Mem x below → ⊥
  not_among x e m = true≢false (sym (mem_among x below m) ∙ e)

  none_among : (x : ℕ) (b : Bool) → among x below ≡ b → (Mem x below → ⊥) → b ≡ false
  none_among x true e o = absurd (o (among_mem x below e))
  none_among x false e o = refl

  other_there : (a b : Bool) → among 0 below ≡ a → among i below ≡ b → ◌≡◌ {A = ℕ} (cond (cond a (not b) b) 1 0) 1 → OtherSide below i
  other_there true true p q e = absurd (omega arith)
  other_there true false p q e = inr (not_among i q, among_mem 0 below p)
  other_there false true p q e = inl (among_mem i below q, not_among 0 p)
  other_there false false p q e = absurd (omega arith)

  other_back : OtherSide below i → ◌≡◌ {A = ℕ} (cond (beyond below i) 1 0) 1
  other_back (inl (m, o)) = rw (mem_among i below m, none_among 0 (among 0 below) refl o)
  other_back (inr (o, m)) = rw (mem_among 0 below m, none_among i (among i below) refl o)

pub split_is : (n : ℕ) (e : Edge) (i : ℕ) → i < n → In (split_made n e) i ↔ OtherSide e.below i
unfolding split_made
split_is n e i l =
    let same : bit (split_made n e) i ≡ cond (beyond e.below i) 1 0 = group_bit (beyond e.below) n i l in
    ((λ h. other_there e.below i (among 0 e.below) (among i e.below) refl refl (sym same ∙ h)), (λ o. same ∙ other_back e.below i o))

-- WHEREVER THE TEXT IS ROOTED, and in whatever order its children come: where one text is accepted, so is the other, with the same reply
pub redrawn : (n : ℕ) (f g : Children) → Moved f g → (t u : List ℕ) → Parses t (sentence f) → Parses u (sentence g) → (read_newick n t).outcome ≡ Done → read_newick n u ≡ read_newick n t
redrawn n f g m t u (r, i, p) (s, j, q) done = moved_read n m t u r s i j p q done

-- WHAT WAS WRITTEN READS BACK
pub newick_reads_back : (n : ℕ) (s : Splits) (out : List ℕ) → InRoom s → NewickReadsBack read_newick n s out
newick_reads_back n s out room rest done = write_read n s out rest room.clusters room.weights done
