-- THE WALK over a whole sentence. Assumes nothing.
use Rattle.std.specs.Prelude.{None}
use Prim.Native.Nat.{ℕ, ◌+◌, ◌-◌}
use native.Mathlib.Omega.{arith}
use mathlib.Core.Path.{◌≡◌, refl, ◌∙◌, ap}
use mathlib.Core.Bool.{Bool, true, false, cond}
use mathlib.Core.List.{List, [], ◌∷◌}
use lib.Dec.{leb, eqb}
use lib.ListN.{get_or}
use Rattle.statement.specs.Sentence.{Children, children_text, Fits, leaves_at, semicolon_at}
use Rattle.newick_edges.specs.declared.Met.{Met}
use Rattle.newick_edges.specs.Table.{no_table}
use Rattle.newick_walk.specs.Machine.{Walk, passing, closing, begun}
use Rattle.newick_walk.specs.Tokens.{Token, opens, closes, bytes_of, step_by, play, tokens, Ahead, Walks}
use Rattle.newick_walk.proofs.Steps.{closed_at}
use Rattle.newick_noted.proofs.Taxa.{meet_all}
use Rattle.newick_noted.proofs.Tokens.{bytes_tokens, tokens_sep}
use Rattle.newick_noted.proofs.Play.{enter_all, entries_at, Here, open_step, Ran, kids_play}

abbrev pub none_met : Met
none_met = record { seen = 0; stray = None }

-- what the walk comes to
pub record Walked (n : ℕ) (f : Children) (r : Walk) : Type 0 where
  pub at : r.at ≡ semicolon_at f
  pub met : r.met ≡ meet_all n (leaves_at 1 f) none_met
  pub table : r.table ≡ enter_all (entries_at n 1 none_met f) no_table

abbrev all_tokens : Children → List Token
all_tokens f = opens ∷ tokens f (closes ∷ [])

begun_here : Here 0 none_met no_table begun
unfolding begun
begun_here = record { at = refl; room = refl; met = refl; table = refl }

begun_depth : begun.depth ≡ 0
unfolding begun
begun_depth = refl

closed_last : (w : Walk) → ((closing w).at ≡ w.at + 1) × ((closing w).met ≡ w.met) × ((closing w).table ≡ w.table)
unfolding closing
closed_last w = go (eqb w.depth 0) (leb 131 (w.depth - 1))
  where
    go : (a b : Bool) → let r = cond a (passing w) (cond b (passing w) (closed_at w (w.met.seen - get_or w.opened (w.depth - 1) 0))) in (r.at ≡ w.at + 1) × (r.met ≡ w.met) × (r.table ≡ w.table)
    go true b = (refl, refl, refl)
    go false true = (refl, refl, refl)
    go false false = (refl, refl, refl)

play_close : (n : ℕ) (w : Walk) → play n (closes ∷ []) w ≡ closing w
unfolding play step_by
play_close n w = refl

whole_play : (n : ℕ) (f : Children) → Fits f 129 → Walked n f (play n (all_tokens f) begun)
unfolding Ran
whole_play n f i =
    let o = open_step n 0 none_met no_table begun begun_here (omega (arith, begun_depth)) in
    let a = kids_play n f 129 1 none_met no_table i o.0 (omega (arith, o.2, begun_depth)) o.4 in
    let k = a.2 in
    let e : play n (all_tokens f) begun ≡ closing a.0 = o.1 (tokens f (closes ∷ [])) ∙ a.1 (closes ∷ []) ∙ play_close n a.0 in
    let c = closed_last a.0 in
    record {
      at = ap (λ (w : Walk). w.at) e ∙ c.0 ∙ ap (λ (x : ℕ). x + 1) k.at;
      met = ap (λ (w : Walk). w.met) e ∙ c.1 ∙ k.met;
      table = ap (λ (w : Walk). w.table) e ∙ c.2 ∙ k.table;
    }

ahead : (f : Children) (text rest : List ℕ) → text ≡ 40 ∷ children_text f (41 ∷ 59 ∷ rest) → Ahead text 0 (all_tokens f)
unfolding bytes_of
ahead f text rest e =
    ((tt, tokens_sep f (closes ∷ []) tt (tt, tt)), (rest, e ∙ ap (λ (s : List ℕ). 40 ∷ s) (bytes_tokens f (closes ∷ []) (59 ∷ rest))))

pub walked : (n : ℕ) (f : Children) (text rest : List ℕ) (r : Walk) → Fits f 129 → text ≡ 40 ∷ children_text f (41 ∷ 59 ∷ rest) → Walks n text begun r → Walked n f r
unfolding begun
walked n f text rest r i e w =
    let q : r ≡ play n (all_tokens f) begun = w (all_tokens f) (ahead f text rest e) in
    let k = whole_play n f i in
    record {
      at = ap (λ (v : Walk). v.at) q ∙ k.at;
      met = ap (λ (v : Walk). v.met) q ∙ k.met;
      table = ap (λ (v : Walk). v.table) q ∙ k.table;
    }
