-- The ways out of `list_in`: a refused record, a tree, a matrix or a table; and no run stops short. Assumes nothing.
use Prim.Native.Nat.{ℕ}
use native.Mathlib.Omega.{arith}
use mathlib.Core.Path.{◌≡◌, sym, ◌∙◌, ap}
use mathlib.Core.Logic.{◌≢◌, ◌⊎◌, inl, inr}
use mathlib.Core.Bool.{Bool, true, false}
use mathlib.Core.List.{List}
use borrow.Author.Tests.{eq-eqb, ne_eqb}
use Rattle.std.specs.Prelude.{Ok, Err, cond}
use Rattle.statement.specs.declared.Splits.{Splits}
use Rattle.statement.specs.Outcomes.{Growth, Outcome, Done, Short, Refused}
use Rattle.statement.specs.declared.Grown.{Grown}
use Rattle.statement.specs.declared.Refusal.{Refusal}
use Rattle.statement.specs.declared.Kind.{Kind}
use Rattle.statement.specs.declared.Kind.TheVariants as kind
use Rattle.statement.specs.declared.Ending.{Ending}
use Rattle.statement.specs.declared.Ending.TheVariants as ending
use Rattle.statement.specs.Said.{code_of_kind}
use Rattle.statement.specs.Growing.{whole_run}
use Rattle.statement.specs.Record.{kind_in, taxa_in, body_in}
use Rattle.statement.specs.Calls.{empty_list, unless_refused, refused_run, read_tree, find_record, run_matrix, run_table, run_record}
use Rattle.statement.specs.Replies.{refused_for, ending_said, reading_said, growth_said}
use Rattle.statement.proofs.Refused.{never_short}
use Rattle.newick_out.specs.Lists.{list_in, without_trials}

-- NO RUN STOPS SHORT
apart : Done ≡ Short → ⊥
apart e = let z : ◌≡◌ {A = ℕ} 0 1 = cc in omega arith

settled : (o : Outcome) (given : Growth) → o ≢ Short → given.outcome ≢ Short → (unless_refused o (refused_run o) given).outcome ≢ Short
settled Done given checks run = run
settled Short given checks run = run
settled (Refused number place) given checks run = checks

one_of : (b : Bool) (g h : Growth) → g.outcome ≢ Short → h.outcome ≢ Short → (cond b g h).outcome ≢ Short
one_of true g h first second = first
one_of false g h first second = second

matrix_settled : (n : ℕ) (entries : List ℕ) → (run_matrix n entries).outcome ≢ Short
unfolding run_matrix whole_run
matrix_settled n entries = settled _ _ (never_short _) apart

table_settled : (n : ℕ) (bytes : List ℕ) → (run_table n bytes).outcome ≢ Short
unfolding run_table whole_run
table_settled n bytes = settled _ _ (never_short _) apart

pub run_settled : (bytes : List ℕ) → (run_record bytes).outcome ≢ Short
unfolding run_record
run_settled bytes = settled _ _ (never_short _) (one_of _ _ _ (matrix_settled _ _) (table_settled _ _))

-- so a run that is not refused comes to its list
ended : (e : Ending) (list : Splits) (trials : ℕ) (run : Growth) → record { outcome = ending_said e; list = list; trials = trials } ≡ run → run.outcome ≢ Short
    → record { outcome = Done; list = list } ≡ without_trials run
ended ending.Done list trials run is settled = ap without_trials is
ended ending.Short list trials run is settled = absurd (settled (sym (ap (λ (g : Growth). g.outcome) is)))

pub list_refused : (bytes : List ℕ) (r : Refusal) → refused_for r ≡ find_record bytes → reading_said (Err r) ≡ list_in bytes
unfolding list_in
list_refused bytes r is = rw (← is)

-- a matrix or a table is no tree
pub no_tree : (k : Kind) (code : ℕ) → (k ≡ kind.Matrix) ⊎ (k ≡ kind.Table) → code_of_kind k ≡ code → code ≢ 3
no_tree k code (inl m) is e = let z : ◌≡◌ {A = ℕ} 1 3 = sym (ap code_of_kind m) ∙ is ∙ e in omega arith
no_tree k code (inr t) is e = let z : ◌≡◌ {A = ℕ} 2 3 = sym (ap code_of_kind t) ∙ is ∙ e in omega arith

module _ (bytes : List ℕ) (found : find_record bytes ≡ Done) where
  pub list_tree : kind_in bytes ≡ 3 → read_tree (taxa_in bytes) (body_in bytes) ≡ list_in bytes
  unfolding list_in
  list_tree e = rw (found, eq-eqb (kind_in bytes) 3 e)

  module _ (other : kind_in bytes ≢ 3) where
    pub list_run_refused : (r : Refusal) → growth_said (empty_list 0) (Err r) ≡ run_record bytes → reading_said (Err r) ≡ list_in bytes
    unfolding list_in
    list_run_refused r is = rw (found, ne_eqb (kind_in bytes) 3 other) (ap without_trials is)

    pub list_run : (g : Grown) → growth_said (empty_list 0) (Ok g) ≡ run_record bytes → reading_said (Ok g.list) ≡ list_in bytes
    unfolding list_in
    list_run g is = rw (found, ne_eqb (kind_in bytes) 3 other) (ended g.ending g.list g.trials (run_record bytes) is (run_settled bytes))
