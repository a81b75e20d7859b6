-- What an action is to do, and what finished actions have made of a derived table.
use Rattle.std.specs.Prelude.{ℕ, ◌+◌, ◌==◌, if◌then◌else◌, List, [], ◌∷◌, map, filter, get_or}
use Rattle.std.specs.List.{flat_map}
use Rattle.std.specs.Str.{bytes_eq}
use Rattle.strip_value.specs.declared.actions.Content.{Content}
use Rattle.strip_value.specs.declared.actions.Content.TheVariants.{Totals, Keys}
use Rattle.strip_value.specs.declared.kinds.Kind.TheVariants as kind
use Rattle.strip_value.specs.declared.rules.Function.{Function}
use Rattle.strip_value.specs.declared.rules.BoundDef.{BoundDef}
use Rattle.strip_value.specs.declared.rules.Rule.{Rule}
use Rattle.strip_value.specs.declared.rules.Step.{Step}
use Rattle.strip_value.specs.declared.rules.Step.TheVariants.{Add, Redo}
use Rattle.strip_value.specs.declared.tables.ColumnDef.{ColumnDef}
use Rattle.strip_value.specs.declared.tables.TableDef.{TableDef}
use Rattle.strip_value.specs.declared.values.Value.{Value}
use Rattle.strip_value.specs.Query.{in_order, distinct}
use Rattle.strip_meaning.specs.Effect.{no_table}
use Rattle.strip_meaning.specs.Sums.{as_derived, folded, has_total}
use Rattle.strip_meaning.specs.Actions.{Happened, BoundRow, is_finished, rows_of, in_state}

-- the definition of a table, and of a bound table of a function
abbrev pub def_at : List TableDef → ℕ → TableDef
def_at defs id = get_or defs id no_table.def

abbrev pub bound_def : Function → ℕ → BoundDef
bound_def function table = get_or function.bound table (record { name = []; columns = [] })

-- the number of the column of a name, counted on from c
abbrev pub column_at : ℕ → List ColumnDef → List ℕ → ℕ
column_at c [] name = c
column_at c (column ∷ columns) name = if bytes_eq column.name name then c else column_at (c + 1) columns name

-- the columns that are named like these
abbrev pub named_like : List ColumnDef → List ColumnDef → List ℕ
named_like own columns = map (λ column. column_at 0 own column.name) columns

-- the key columns of a table
abbrev pub key_columns : TableDef → List ColumnDef
key_columns def = map (λ c. get_or def.columns c (record { name = []; kind = kind.Int })) def.key

-- the rows of a bound table
abbrev pub rows_in : ℕ → List BoundRow → List (List Value)
rows_in table rows = map (λ row. row.row) (filter (λ row. row.table == table) rows)

-- the rows of a bound table as rows of the derived table to which they are added
abbrev pub added_rows : TableDef → Function → ℕ → List BoundRow → List (List Value)
added_rows def function table rows = map (as_derived (named_like (bound_def function table).columns def.columns)) (rows_in table rows)

-- the keys of a derived table that the rows of a bound table name
abbrev pub named_keys : TableDef → Function → ℕ → List BoundRow → List (List Value)
named_keys def function table rows = map (as_derived (named_like (bound_def function table).columns (key_columns def))) (rows_in table rows)

-- what a step is to do with the bound rows of an action: add sums by rising key, or compute anew the rows of rising keys
abbrev pub step_content : List TableDef → Function → List BoundRow → Step → Content
step_content defs function rows (Add table into) = Totals (folded (def_at defs into) (added_rows (def_at defs into) function table rows))
step_content defs function rows (Redo table by_) = Keys (in_order (distinct (named_keys (def_at defs table) function by_ rows)))

-- what an action is to do, step by step
abbrev pub contents : List TableDef → Function → List BoundRow → List Content
contents defs function rows = map (step_content defs function rows) function.steps

-- ---- a table that sums are added to

-- the rows that a step adds to the table of a number
abbrev pub step_adds : List TableDef → Function → List BoundRow → ℕ → Step → List (List Value)
step_adds defs function rows id (Add table into) = if into == id then added_rows (def_at defs id) function table rows else []
step_adds defs function rows id (Redo table by_) = []

abbrev pub no_function : Function
no_function = record { name = []; steps = []; bound = [] }

-- the rows that an action, given with its first row, adds to the table
abbrev pub action_adds : List TableDef → List Function → List Rule → List Happened → ℕ → BoundRow → List (List Value)
action_adds defs functions rules happened id a =
    let function = get_or functions a.action.function no_function in
    flat_map (step_adds defs function (rows_of rules happened a.action) id) function.steps

-- the rows of a derived table to which sums are added: for each key the sums over all that finished actions added; a row of
-- zeros is left out
abbrev pub summed_up : List TableDef → List Function → List Rule → List Happened → ℕ → List (List Value)
summed_up defs functions rules happened id =
    filter (has_total (def_at defs id)) (folded (def_at defs id) (flat_map (action_adds defs functions rules happened id) (in_state is_finished rules happened)))
