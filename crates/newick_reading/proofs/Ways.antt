-- The ways out again, each as one law for the proof of the code. Assumes nothing.
use Rattle.std.specs.Prelude.{Some, None}
use Prim.Native.Nat.{ℕ, ◌-◌, ◌^◌, ◌≤◌}
use native.Mathlib.Omega.{arith}
use mathlib.Core.Path.{◌≡◌, refl, sym, ◌∙◌, ap}
use mathlib.Core.Bool.{Bool, true, false, cond}
use lib.Dec.{ltb}
use borrow.Author.Tests.{ltb-true, ltb-false}
use mathlib.Core.List.{List}
use lib.ListN.{get_or}
use Rattle.statement.specs.declared.Splits.{Splits}
use Rattle.statement.specs.Rows.{list_of}
use Rattle.row_sort.specs.Sorted.{row_at, sorted_of}
use Rattle.newick_text.specs.Automaton.{run, start, good}
use Rattle.statement.specs.Sentence.{Children, sentence}
use Rattle.newick_meaning.specs.Parse.{parsed, read_newick}
use Rattle.newick_edges.specs.Table.{marked_row, twin}
use Rattle.newick_walk.specs.Machine.{Walk, begun}
use Rattle.newick_walk.specs.Tokens.{Walks}
use Rattle.newick_noted.proofs.Whole.{Walked, walked}
use Rattle.newick_meaning.proofs.Parses.{parsed_good}
use Rattle.newick_reading.proofs.Reply.{refused_reply, done_reply, stray_reply, missing_reply, heavy_reply, bare_reply, twin_reply, done_reply_law}

-- a text that begins with a sentence, and the walk over it
pub record Over (n : ℕ) (text : List ℕ) (r : Walk) : Type 0 where
  pub two : 2 ≤ n
  pub few : n ≤ 64
  pub kids : Children
  pub is : parsed text ≡ sentence kids
  pub walk : Walked n kids r

pub over : (n : ℕ) (text : List ℕ) (r : Walk) → 2 ≤ n → n ≤ 64 → (rest : List ℕ) × (run text (start 130) ≡ good rest) → Walks n text begun r → Over n text r
over n text r two few (rest, g) w =
    let p = parsed_good text rest g in
    record { two = two; few = few; kids = p.0; is = p.1; walk = walked n p.0 text rest r p.2 p.3 w }

module _ (n : ℕ) (text : List ℕ) (r : Walk) (o : Over n text r) where
  pub way20 : (p : ℕ) → r.met.stray ≡ Some p → refused_reply 20 p ≡ read_newick n text
  way20 p e = stray_reply n o.two o.few text o.kids o.is r o.walk p e

  module _ (none : r.met.stray ≡ None) where
    pub way20' : (r.met.seen ≡ 2 ^ n - 1 → ⊥) → refused_reply 20 r.at ≡ read_newick n text
    way20' h = missing_reply n o.two o.few text o.kids o.is r o.walk none h

    module _ (all : r.met.seen ≡ 2 ^ n - 1) where
      pub way14 : (p : ℕ) → r.table.heavy ≡ Some p → refused_reply 14 p ≡ read_newick n text
      way14 p e = heavy_reply n o.two o.few text o.kids o.is r o.walk none all p e

      module _ (light : r.table.heavy ≡ None) where
        pub way12 : (p : ℕ) → r.table.bare ≡ Some p → refused_reply 12 p ≡ read_newick n text
        way12 p e = bare_reply n o.two o.few text o.kids o.is r o.walk none all light p e

        module _ (full : r.table.bare ≡ None) where
          pub way13 : (p : ℕ) → twin r.table ≡ Some p → refused_reply 13 p ≡ read_newick n text
          way13 p e = go (ltb (marked_row r.table) r.table.rows) refl e
            where
              go : (b : Bool) → ltb (marked_row r.table) r.table.rows ≡ b → cond b (Some (get_or r.table.places (marked_row r.table) 0)) None ≡ Some p → refused_reply 13 p ≡ read_newick n text
              go true l e =
                  let q : get_or r.table.places (marked_row r.table) 0 ≡ p = cc in
                  ap (refused_reply 13) (sym q) ∙ twin_reply n o.two o.few text o.kids o.is r o.walk none all light full (marked_row r.table) refl (ltb-true (marked_row r.table) r.table.rows l)
              go false l e = absurd (let z : ◌≡◌ {A = ℕ} 0 1 = cc in omega arith)

          pub way : (list : Splits) → twin r.table ≡ None → list ≡ list_of n (sorted_of (row_at r.table.clusters r.table.weights) r.table.rows) → done_reply list ≡ read_newick n text
          way list h e = go (ltb (marked_row r.table) r.table.rows) refl h
            where
              go : (b : Bool) → ltb (marked_row r.table) r.table.rows ≡ b → cond b (Some (get_or r.table.places (marked_row r.table) 0)) None ≡ None → done_reply list ≡ read_newick n text
              go true l h = absurd (let z : ◌≡◌ {A = ℕ} 0 1 = cc in omega arith)
              go false l h = done_reply_law n o.two o.few text o.kids o.is r o.walk none all light full (marked_row r.table) refl (ltb-false (marked_row r.table) r.table.rows l) list e
