-- What the steps of a function need of its bound tables, and what a rule's queries bind there.
use Rattle.std.specs.Prelude.{ℕ, Bool, true, false, not, ◌==◌, List, [], ◌++◌, map, Option, Some, None, flat_map, filter_map, filter, find, slice_get}
use Rattle.std.specs.List.{enumerate_from, list_any}
use Rattle.std.specs.Option.{option_map_or}
use Rattle.std.specs.Str.{bytes_eq}
use Rattle.strip_value.specs.declared.rules.BoundDef.{BoundDef}
use Rattle.strip_value.specs.declared.rules.Function.{Function}
use Rattle.strip_value.specs.declared.rules.Step.{Step}
use Rattle.strip_value.specs.declared.rules.Step.TheVariants as step
use Rattle.strip_value.specs.declared.tables.ColumnDef.{ColumnDef}
use Rattle.strip_value.specs.declared.tables.TableDef.{TableDef}
use Rattle.strip_setup.specs.declared.answers.Answer.{Answer}
use Rattle.strip_setup.specs.declared.answers.Binding.{Binding}
use Rattle.strip_kinds.specs.declared.needs.Fit.{Fit}
use Rattle.strip_kinds.specs.declared.needs.Need.{Need}

-- the key columns of a table, in the key's order
abbrev pub key_columns : TableDef → List ColumnDef
key_columns table = filter_map (slice_get table.columns) table.key

-- the column's number is in the key
abbrev pub is_key : List ℕ → ℕ × ColumnDef → Bool
is_key key numbered = list_any (λ k. k == numbered.0) key

-- the columns that aren't in the key: totals
abbrev pub total_columns : TableDef → List ColumnDef
total_columns table = map (λ numbered. numbered.1) (filter (λ numbered. not (is_key table.key numbered)) (enumerate_from 0 table.columns))

-- what every step needs: the key columns, if the table is there
abbrev pub key_needs : Option TableDef → List Need
key_needs None = []
key_needs (Some table) = map (λ column. record { column = column; is_added = false }) (key_columns table)

-- what it needs besides to add: the totals
abbrev pub total_needs : Option TableDef → List Need
total_needs None = []
total_needs (Some table) = map (λ column. record { column = column; is_added = true }) (total_columns table)

-- the columns that a step needs: those of the key, and to add those of the totals
abbrev pub step_needs : List TableDef → Step → List Need
step_needs tables (step.Add bound into) = key_needs (slice_get tables into) ++ total_needs (slice_get tables into)
step_needs tables (step.Redo table bound) = key_needs (slice_get tables table)

-- the number of the bound table that a step uses
abbrev pub bound_of_step : Step → ℕ
bound_of_step (step.Add bound into) = bound
bound_of_step (step.Redo table bound) = bound

-- the name of a bound table
abbrev pub bound_name_at : List BoundDef → ℕ → List ℕ
bound_name_at bound n = option_map_or (λ (def : BoundDef). def.name) (slice_get bound n) []

-- what queries bind under this name
abbrev pub bindings_named : List Binding → List ℕ → List Binding
bindings_named bindings name = filter (λ binding. bytes_eq binding.name name) bindings

-- the column that a query binds under a name
abbrev pub answer_named : Binding → List ℕ → Option Answer
answer_named binding name = find (λ answer. bytes_eq answer.name name) binding.columns

-- each column that a step needs, with each query that binds its table
abbrev pub step_fits : List TableDef → List BoundDef → List Binding → Step → List Fit
step_fits tables bound bindings s =
    let binding_its_table = bindings_named bindings (bound_name_at bound (bound_of_step s)) in
    flat_map (λ (need : Need). map (λ binding. record { need = need; given = answer_named binding need.column.name }) binding_its_table) (step_needs tables s)

-- the same of all steps of a function
abbrev pub fits_of : List TableDef → Function → List Binding → List Fit
fits_of tables function bindings = flat_map (step_fits tables function.bound bindings) function.steps
