-- Names that are taken: those that a statement declares though they are there, or names twice where once is meant, and
-- tables that are kept otherwise.
use Rattle.std.specs.Prelude.{ℕ, Bool, true, false, not, ◌&&◌, ◌||◌, List, [], ◌++◌, map, Option, Some, None, option_map, unwrap_or, is_some, flat_map, filter_map, filter, slice_get}
use Rattle.std.specs.List.{list_any}
use Rattle.std.specs.Option.{option_map_or}
use Rattle.std.specs.Str.{bytes_eq}
use Rattle.strip_value.specs.declared.rules.Function.{Function}
use Rattle.strip_value.specs.declared.rules.Step.{Step}
use Rattle.strip_value.specs.declared.rules.Step.TheVariants as step
use Rattle.strip_value.specs.declared.tables.By.{By}
use Rattle.strip_value.specs.declared.tables.By.TheVariants as by
use Rattle.strip_value.specs.declared.tables.TableDef.{TableDef}
use Rattle.strip_ast.specs.declared.deeds.Deed.{Deed}
use Rattle.strip_ast.specs.declared.deeds.Deed.TheVariants as deed
use Rattle.strip_ast.specs.declared.queries.QueryTree.{QueryTree}
use Rattle.strip_ast.specs.declared.rules.EventTree.{EventTree}
use Rattle.strip_ast.specs.declared.rules.EventTree.TheVariants as event
use Rattle.strip_ast.specs.declared.rules.StepTree.{StepTree}
use Rattle.strip_ast.specs.declared.statements.Statement.{Statement}
use Rattle.strip_ast.specs.declared.statements.Statement.TheVariants as st
use Rattle.strip_setup.specs.declared.errors.SetupError.{SetupError}
use Rattle.strip_setup.specs.declared.errors.SetupError.TheVariants.{Exists}
use Rattle.strip_setup.specs.Catalog.{Catalog, first, with_earlier, name_if, repeated, table_named, stream_named, function_named, rule_named, is_derived}
use Rattle.strip_setup.specs.Queries.{alias_of, item_names}
use Rattle.strip_setup.specs.Resolve.{function_at, kept_name, kind_of_step}

-- ---- names that stand twice

-- item names and aliases that stand twice in a query
abbrev pub taken_in_query : QueryTree → List (List ℕ)
taken_in_query query = repeated (item_names query.items) ++ repeated (filter_map alias_of query.entries)

-- columns that stand twice in an event
abbrev pub taken_in_event : EventTree → List (List ℕ)
taken_in_event (event.Updated names) = repeated names
taken_in_event _ = []

-- ---- tables that are kept otherwise

-- the two kinds of step are one
abbrev pub same_by : By → By → Bool
same_by by.Sum by.Sum = true
same_by by.Key by.Key = true
same_by _ _ = false

-- the table bars steps of this kind: its rule and function were made from its query, or steps of functions that are there
-- keep it by the other kind
abbrev pub bars : By → Option TableDef → Bool
bars how None = false
bars how (Some table) = table.declared || option_map_or (λ kept. not (same_by how kept)) table.kept false

-- the other step keeps the same table by the other kind of step
abbrev pub keeps_otherwise : StepTree → StepTree → Bool
keeps_otherwise s other = bytes_eq (kept_name other) (kept_name s) && not (same_by (kind_of_step s) (kind_of_step other))

-- the step's table is derived, and it bars the step, or earlier steps of the function keep it by the other kind
abbrev pub is_kept_otherwise : List TableDef → StepTree × List StepTree → Bool
is_kept_otherwise tables s =
    let table = table_named tables (kept_name s.0) in
    is_derived table && (bars (kind_of_step s.0) table || list_any (keeps_otherwise s.0) s.1)

-- the tables of the steps that are kept otherwise
abbrev pub taken_by_steps : List TableDef → List StepTree → List (List ℕ)
taken_by_steps tables steps = map (λ s. kept_name s.0) (filter (is_kept_otherwise tables) (with_earlier steps))

-- the table that a step of a function keeps
abbrev pub kept_number : Step → ℕ
kept_number (step.Add bound into) = into
kept_number (step.Redo table bound) = table

-- the function keeps a declared table: it was made with it
abbrev pub is_made : List TableDef → Function → Bool
is_made tables function = list_any (λ (table : TableDef). table.declared) (filter_map (λ s. slice_get tables (kept_number s)) function.steps)

-- ---- statements

-- the taken names in an act
abbrev pub taken_in_deed : Deed → List (List ℕ)
taken_in_deed (deed.Update table sets filter) = repeated (map (λ s. s.column) sets)
taken_in_deed (deed.Select query) = taken_in_query query
taken_in_deed _ = []

-- the taken names in a statement
abbrev pub taken : Catalog → Statement → List (List ℕ)
taken catalog (st.Table name columns key limit) =
    name_if (is_some (table_named catalog.tables name)) name ++ (repeated (map (λ column. column.name) columns) ++ repeated key)
taken catalog (st.Stream name table marked) = name_if (is_some (stream_named catalog.streams name)) name
taken catalog (st.Derive name query) = name_if (is_some (table_named catalog.tables name)) name ++ taken_in_query query
taken catalog (st.Function name steps) =
    name_if (is_some (function_named catalog.functions name)) name ++ taken_by_steps catalog.tables steps
taken catalog (st.Rule name table events conditions evaluate function manner) =
    name_if (is_some (rule_named catalog.rules name)) name
    ++ (flat_map taken_in_event events
    ++ (flat_map (λ bound. taken_in_query bound.query) (conditions ++ evaluate)
    ++ (name_if (is_made catalog.tables (function_at catalog function)) function
    ++ repeated (unwrap_or manner.unique []))))
taken catalog (st.Deed caller d) = taken_in_deed d
taken catalog _ = []

-- the first taken name
abbrev pub exists : Catalog → Statement → Option SetupError
exists catalog statement = option_map Exists (first (taken catalog statement))
