-- What the statements of setup stand for: the tables, streams, functions and rules that they declare. Where something
-- isn't there, any default.
use Rattle.std.specs.Prelude.{ℕ, Bool, false, List, [], ◌++◌, map, length, Option, Some, None, option_map, unwrap_or, filter_map, find, position}
use Rattle.std.specs.List.{range_with_len}
use Rattle.std.specs.Option.{option_map_or}
use Rattle.std.specs.Str.{bytes_eq}
use Rattle.strip_value.specs.declared.queries.Set.{Set}
use Rattle.strip_value.specs.declared.rules.BoundDef.{BoundDef}
use Rattle.strip_value.specs.declared.rules.BoundQuery.{BoundQuery}
use Rattle.strip_value.specs.declared.rules.Event.{Event}
use Rattle.strip_value.specs.declared.rules.Event.TheVariants as event
use Rattle.strip_value.specs.declared.rules.Function.{Function}
use Rattle.strip_value.specs.declared.rules.Rule.{Rule}
use Rattle.strip_value.specs.declared.rules.Step.{Step}
use Rattle.strip_value.specs.declared.rules.Step.TheVariants as step
use Rattle.strip_value.specs.declared.streams.Stream.{Stream}
use Rattle.strip_value.specs.declared.tables.By.{By}
use Rattle.strip_value.specs.declared.tables.By.TheVariants as by
use Rattle.strip_value.specs.declared.tables.ColumnDef.{ColumnDef}
use Rattle.strip_value.specs.declared.tables.TableDef.{TableDef}
use Rattle.strip_value.specs.declared.acts.Act.{Act}
use Rattle.strip_value.specs.declared.acts.Act.TheVariants as act
use Rattle.strip_ast.specs.declared.deeds.Deed.{Deed}
use Rattle.strip_ast.specs.declared.deeds.Deed.TheVariants as deed
use Rattle.strip_ast.specs.declared.deeds.SetTree.{SetTree}
use Rattle.strip_ast.specs.declared.queries.ColTree.{ColTree}
use Rattle.strip_ast.specs.declared.queries.QueryTree.{QueryTree}
use Rattle.strip_ast.specs.declared.rules.BoundTree.{BoundTree}
use Rattle.strip_ast.specs.declared.rules.EventTree.{EventTree}
use Rattle.strip_ast.specs.declared.rules.EventTree.TheVariants as event_tree
use Rattle.strip_ast.specs.declared.rules.Manner.{Manner}
use Rattle.strip_ast.specs.declared.rules.StepTree.{StepTree}
use Rattle.strip_ast.specs.declared.rules.StepTree.TheVariants as step_tree
use Rattle.strip_setup.specs.declared.answers.Binding.{Binding}
use Rattle.strip_setup.specs.declared.scope.Entry.{Entry}
use Rattle.strip_setup.specs.Catalog.{Catalog, each_once, table_id, table_named, function_number, function_named, column_number, columns_of}
use Rattle.strip_setup.specs.Queries.{Scope, calc_of, filter_of, own_entry, query_of, answers_of, as_columns}

-- the number of a column; one that isn't there is the first
abbrev pub number_in : List ColumnDef → List ℕ → ℕ
number_in columns name = unwrap_or (column_number columns name) 0

-- ---- tables and streams

-- the most rows of a table whose limit isn't given, and the most that a limit may allow
abbrev pub most_rows : ℕ
most_rows = 1048576

-- a base table
abbrev pub table_of : List ℕ → List ColumnDef → List (List ℕ) → Option ℕ → TableDef
table_of name columns key limit = record {
  name = name;
  columns = columns;
  key = map (number_in columns) key;
  limit = Some (unwrap_or limit most_rows);
  query = None;
  kept = None;
  declared = false;
}

-- where a query outside a rule stands
abbrev pub outside_rules : List TableDef → Scope
outside_rules tables = record { tables = tables; changed = None }

-- the first columns, as many as a query groups by
abbrev pub group_numbers : Option (List ColTree) → List ℕ
group_numbers None = []
group_numbers (Some columns) = range_with_len 0 (length columns)

-- a derived table: its columns are its query's items, its key the columns that the query groups by, which come first
abbrev pub derived_of : List TableDef → List ℕ → QueryTree → TableDef
derived_of tables name query = record {
  name = name;
  columns = as_columns (answers_of (outside_rules tables) query);
  key = group_numbers query.group;
  limit = None;
  query = Some (query_of (outside_rules tables) query);
  kept = None;
  declared = false;
}

-- the numbers of the key columns of a table, if it is there
abbrev pub key_numbers : Option TableDef → List ℕ
key_numbers None = []
key_numbers (Some table) = table.key

-- a stream into a table
abbrev pub stream_of : List TableDef → List ℕ → List ℕ → Bool → Stream
stream_of tables name table marked = record {
  name = name;
  table = table_id tables table;
  marked = marked;
  columns = columns_of (table_named tables table);
  key = key_numbers (table_named tables table);
}

-- ---- functions

-- the bound table that a step uses
abbrev pub bound_name : StepTree → List ℕ
bound_name (step_tree.Add bound into) = bound
bound_name (step_tree.Redo table bound) = bound

-- the derived table that a step keeps
abbrev pub kept_name : StepTree → List ℕ
kept_name (step_tree.Add bound into) = into
kept_name (step_tree.Redo table bound) = table

-- the kind of a step
abbrev pub kind_of_step : StepTree → By
kind_of_step (step_tree.Add bound into) = by.Sum
kind_of_step (step_tree.Redo table bound) = by.Key

-- the number of a bound table; one that isn't there is the first
abbrev pub bound_number : List (List ℕ) → List ℕ → ℕ
bound_number names name = unwrap_or (position (λ other. bytes_eq other name) names) 0

-- a step of a function whose bound tables have these names
abbrev pub step_of : List TableDef → List (List ℕ) → StepTree → Step
step_of tables names (step_tree.Add bound into) = step.Add (bound_number names bound) (table_id tables into)
step_of tables names (step_tree.Redo table bound) = step.Redo (table_id tables table) (bound_number names bound)

-- a function: what its steps use is bound by no rule yet and has no columns
abbrev pub function_of : List TableDef → List ℕ → List StepTree → Function
function_of tables name steps =
    let names = each_once (map bound_name steps) in
    record {
      name = name;
      steps = map (step_of tables names) steps;
      bound = map (λ bound. record { name = bound; columns = [] }) names;
    }

-- a function that isn't there
abbrev pub no_function : Function
no_function = record { name = []; steps = []; bound = [] }

-- the function of a name; one that isn't there has no steps
abbrev pub function_at : Catalog → List ℕ → Function
function_at catalog name = unwrap_or (function_named catalog.functions name) no_function

-- ---- rules

-- where a query of a rule on this table stands
abbrev pub in_rule : List TableDef → List ℕ → Scope
in_rule tables table = record { tables = tables; changed = Some (columns_of (table_named tables table)) }

-- what a query binds, if it does
abbrev pub binding_of : Scope → BoundTree → Option Binding
binding_of scope bound = option_map (λ name. record { name = name; columns = answers_of scope bound.query }) bound.name

-- what the queries of a rule bind, one after the other
abbrev pub bindings_of : Scope → List BoundTree → List Binding
bindings_of scope queries = filter_map (binding_of scope) queries

-- the columns that the first of these binds under a name, else other ones
abbrev pub columns_bound : List Binding → List ℕ → List ColumnDef → List ColumnDef
columns_bound bindings name others =
    option_map_or (λ (binding : Binding). as_columns binding.columns) (find (λ binding. bytes_eq binding.name name) bindings) others

-- the columns of a bound table so far
abbrev pub columns_so_far : List BoundDef → List ℕ → List ColumnDef
columns_so_far bound name = option_map_or (λ (def : BoundDef). def.columns) (find (λ def. bytes_eq def.name name) bound) []

-- the names of the bound tables of a function once a rule of it is there: those of before, and then the further names
-- that the rule binds, in the order of first binding
abbrev pub names_with : List BoundDef → List Binding → List (List ℕ)
names_with bound bindings = each_once (map (λ def. def.name) bound ++ map (λ binding. binding.name) bindings)

-- these bound tables, with the columns that the rule binds
abbrev pub bound_with : List BoundDef → List Binding → List BoundDef
bound_with bound bindings =
    map (λ name. record { name = name; columns = columns_bound bindings name (columns_so_far bound name) }) (names_with bound bindings)

-- an event of a rule on a table of these columns
abbrev pub event_of : List ColumnDef → EventTree → Event
event_of columns event_tree.Inserted = event.Inserted
event_of columns event_tree.Deleted = event.Deleted
event_of columns (event_tree.Updated names) = event.Updated (map (number_in columns) names)

-- a query of a rule
abbrev pub bound_query_of : Scope → List (List ℕ) → BoundTree → BoundQuery
bound_query_of scope names bound =
    record { query = query_of scope bound.query; bound = option_map (bound_number names) bound.name }

-- a rule
abbrev pub rule_of : Catalog → List ℕ → List ℕ → List EventTree → List BoundTree → List BoundTree → List ℕ → Manner → Rule
rule_of catalog name table events conditions evaluate function manner =
    let scope = in_rule catalog.tables table in
    let names = names_with (function_at catalog function).bound (bindings_of scope (conditions ++ evaluate)) in
    record {
      name = name;
      table = table_id catalog.tables table;
      events = map (event_of (columns_of (table_named catalog.tables table))) events;
      conditions = map (bound_query_of scope names) conditions;
      evaluate = map (bound_query_of scope names) evaluate;
      function = unwrap_or (function_number catalog.functions function) 0;
      unique = manner.unique;
      after = manner.after;
    }

-- ---- updates

-- what an update sets, over the one entry of its table
abbrev pub sets_of : List Entry → List ColumnDef → List SetTree → List Set
sets_of entries columns sets = map (λ s. record { column = number_in columns s.column; value = calc_of entries s.value }) sets

-- ---- acts

-- what an act stands for; what is no act shows the first table
abbrev pub act_of : List TableDef → Deed → Act
act_of tables (deed.Insert table rows) = act.Insert (table_id tables table) rows
act_of tables (deed.Put table row) = act.Put (table_id tables table) row
act_of tables (deed.Update table sets filter) =
    let entries = own_entry tables table in
    act.Update (table_id tables table) (sets_of entries (columns_of (table_named tables table)) sets) (filter_of entries filter)
act_of tables (deed.Delete table filter) = act.Delete (table_id tables table) (filter_of (own_entry tables table) filter)
act_of tables (deed.Select query) = act.Select (query_of (outside_rules tables) query)
act_of tables (deed.Show table) = act.Show (table_id tables table)
act_of tables _ = act.Show 0
