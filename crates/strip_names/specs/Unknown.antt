-- Names that a statement uses and that aren't there.
use Rattle.std.specs.Prelude.{ℕ, not, List, [], ◌∷◌, ◌++◌, map, codes, Option, Some, None, option_map, unwrap_or, is_none, flat_map, filter_map, filter}
use Rattle.strip_value.specs.declared.tables.ColumnDef.{ColumnDef}
use Rattle.strip_value.specs.declared.tables.TableDef.{TableDef}
use Rattle.strip_ast.specs.declared.deeds.Deed.{Deed}
use Rattle.strip_ast.specs.declared.deeds.Deed.TheVariants as deed
use Rattle.strip_ast.specs.declared.deeds.SetTree.{SetTree}
use Rattle.strip_ast.specs.declared.expressions.Expr.{Expr}
use Rattle.strip_ast.specs.declared.queries.ColTree.{ColTree}
use Rattle.strip_ast.specs.declared.queries.Origin.{Origin}
use Rattle.strip_ast.specs.declared.queries.Origin.TheVariants as origin
use Rattle.strip_ast.specs.declared.queries.QueryTree.{QueryTree}
use Rattle.strip_ast.specs.declared.rules.EventTree.{EventTree}
use Rattle.strip_ast.specs.declared.rules.EventTree.TheVariants as event
use Rattle.strip_ast.specs.declared.statements.Statement.{Statement}
use Rattle.strip_ast.specs.declared.statements.Statement.TheVariants as st
use Rattle.strip_setup.specs.declared.errors.SetupError.{SetupError}
use Rattle.strip_setup.specs.declared.errors.SetupError.TheVariants.{Unknown}
use Rattle.strip_setup.specs.declared.scope.Entry.{Entry}
use Rattle.strip_setup.specs.Catalog.{Catalog, first, has_name, name_if, table_named, function_named, columns_of, is_derived}
use Rattle.strip_setup.specs.Resolve.{kept_name}
use Rattle.strip_setup.specs.Parts.{Whole, columns_in, item_wholes, filter_wholes}
use Rattle.strip_setup.specs.Places.{is_clear}
use Rattle.strip_setup.specs.Queries.{Scope, entries_of, own_entry}
use Rattle.strip_setup.specs.Resolve.{outside_rules, in_rule}

-- ---- names of one thing

-- the names that aren't among those that are there
abbrev pub missing : List (List ℕ) → List (List ℕ) → List (List ℕ)
missing there names = filter (λ name. not (has_name there name)) names

-- the names of columns
abbrev pub names_of : List ColumnDef → List (List ℕ)
names_of columns = map (λ column. column.name) columns

-- a table that isn't there
abbrev pub unknown_table : List TableDef → List ℕ → List (List ℕ)
unknown_table tables name = name_if (is_none (table_named tables name)) name

-- a table that isn't there or isn't derived
abbrev pub unknown_derived : List TableDef → List ℕ → List (List ℕ)
unknown_derived tables name = name_if (not (is_derived (table_named tables name))) name

-- ---- columns

-- the alias before the column, if no entry has it
abbrev pub unknown_alias : List Entry → Option (List ℕ) → List (List ℕ)
unknown_alias entries None = []
unknown_alias entries (Some alias) = missing (filter_map (λ entry. entry.alias) entries) (alias ∷ [])

-- an alias that isn't there, or a column that isn't there or that more than one entry has
abbrev pub unknown_column : List Entry → ColTree → List (List ℕ)
unknown_column entries column = unknown_alias entries column.of ++ name_if (not (is_clear entries column)) column.name

-- the columns in an expression that aren't there
abbrev pub unknown_in : List Entry → Expr → List (List ℕ)
unknown_in entries e = flat_map (unknown_column entries) (columns_in e)

-- the same of several expressions
abbrev pub unknown_in_all : List Entry → List Whole → List (List ℕ)
unknown_in_all entries wholes = flat_map (λ whole. unknown_in entries whole.expr) wholes

-- ---- queries

-- what is there only in a rule, called by its word
abbrev pub outside : Option (List ColumnDef) → List ℕ → List (List ℕ)
outside changed word = name_if (is_none changed) word

-- what an entry names that isn't there
abbrev pub unknown_origin : Scope → Origin → List (List ℕ)
unknown_origin scope (origin.Table name) = unknown_table scope.tables name
unknown_origin scope (origin.Before name) = outside scope.changed (codes "before") ++ unknown_table scope.tables name
unknown_origin scope origin.Inserted = outside scope.changed (codes "inserted")
unknown_origin scope origin.Deleted = outside scope.changed (codes "deleted")
unknown_origin scope origin.Old = outside scope.changed (codes "old")
unknown_origin scope origin.New = outside scope.changed (codes "new")

-- what a query names that isn't there: in its items, its entries, its filter and its groups
abbrev pub unknown_in_query : Scope → QueryTree → List (List ℕ)
unknown_in_query scope query =
    let entries = entries_of scope query in
    unknown_in_all entries (item_wholes query.items)
    ++ (flat_map (λ entry. unknown_origin scope entry.origin) query.entries
    ++ (unknown_in_all entries (filter_wholes query.filter)
    ++ flat_map (unknown_column entries) (unwrap_or query.group [])))

-- ---- statements

-- the columns of an event that the rule's table doesn't have
abbrev pub unknown_in_event : List ColumnDef → EventTree → List (List ℕ)
unknown_in_event columns (event.Updated names) = missing (names_of columns) names
unknown_in_event columns _ = []

-- the column that is set, and those in its value
abbrev pub unknown_in_set : List Entry → List ColumnDef → SetTree → List (List ℕ)
unknown_in_set entries columns s = missing (names_of columns) (s.column ∷ []) ++ unknown_in entries s.value

-- what an act names that isn't there
abbrev pub unknown_in_deed : List TableDef → Deed → List (List ℕ)
unknown_in_deed tables (deed.Insert table rows) = unknown_table tables table
unknown_in_deed tables (deed.Put table row) = unknown_table tables table
unknown_in_deed tables (deed.Update table sets filter) =
    let entries = own_entry tables table in
    unknown_table tables table ++ (flat_map (unknown_in_set entries (columns_of (table_named tables table))) sets ++ unknown_in_all entries (filter_wholes filter))
unknown_in_deed tables (deed.Delete table filter) = unknown_table tables table ++ unknown_in_all (own_entry tables table) (filter_wholes filter)
unknown_in_deed tables (deed.Select query) = unknown_in_query (outside_rules tables) query
unknown_in_deed tables (deed.Show table) = unknown_table tables table
unknown_in_deed tables _ = []

-- what a statement names that isn't there
abbrev pub unknown_names : Catalog → Statement → List (List ℕ)
unknown_names catalog (st.Table name columns key limit) = missing (names_of columns) key
unknown_names catalog (st.Stream name table marked) = unknown_table catalog.tables table
unknown_names catalog (st.Derive name query) = unknown_in_query (outside_rules catalog.tables) query
unknown_names catalog (st.Function name steps) = flat_map (λ s. unknown_derived catalog.tables (kept_name s)) steps
unknown_names catalog (st.Rule name table events conditions evaluate function manner) =
    unknown_table catalog.tables table
    ++ (flat_map (unknown_in_event (columns_of (table_named catalog.tables table))) events
    ++ (flat_map (λ bound. unknown_in_query (in_rule catalog.tables table) bound.query) (conditions ++ evaluate)
    ++ name_if (is_none (function_named catalog.functions function)) function))
unknown_names catalog (st.Deed caller d) = unknown_in_deed catalog.tables d
unknown_names catalog _ = []

-- the first name that isn't there
abbrev pub unknown : Catalog → Statement → Option SetupError
unknown catalog statement = option_map Unknown (first (unknown_names catalog statement))
