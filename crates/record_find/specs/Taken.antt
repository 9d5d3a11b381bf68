-- Which kinds of record a call takes. Document 01, "Refusal numbers", 17.
use Rattle.std.specs.Prelude.{Bool, true, false, List, [], ◌∷◌}
use Rattle.statement.specs.Record.{Kind, matrix_kind, table_kind, tree_kind}
use Rattle.record_find.specs.declared.Taken.{Taken}

-- a kind, if it is taken, before others
abbrev pub if_taken : Bool → Kind → List Kind → List Kind
if_taken true k ks = k ∷ ks
if_taken false k ks = ks

abbrev pub kinds_taken : Taken → List Kind
kinds_taken t = if_taken t.matrices matrix_kind (if_taken t.tables table_kind (if_taken t.trees tree_kind []))
