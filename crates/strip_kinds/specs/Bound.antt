-- What a rule doesn't bind though it must, and what rules bind differently.
use Rattle.std.specs.Prelude.{ℕ, Bool, true, false, not, ◌&&◌, ◌||◌, ◌==◌, List, [], ◌∷◌, ◌++◌, map, Option, Some, None, option_map, unwrap_or, is_none, flat_map, filter_map, filter, slice_get}
use Rattle.std.specs.Option.{option_and_then}
use Rattle.std.specs.List.{list_any}
use Rattle.std.specs.Str.{bytes_eq}
use Rattle.strip_value.specs.declared.rules.BoundDef.{BoundDef}
use Rattle.strip_value.specs.declared.rules.BoundQuery.{BoundQuery}
use Rattle.strip_value.specs.declared.rules.Function.{Function}
use Rattle.strip_value.specs.declared.rules.Rule.{Rule}
use Rattle.strip_value.specs.declared.rules.Step.{Step}
use Rattle.strip_value.specs.declared.tables.ColumnDef.{ColumnDef}
use Rattle.strip_value.specs.declared.tables.TableDef.{TableDef}
use Rattle.strip_ast.specs.declared.statements.Statement.{Statement}
use Rattle.strip_ast.specs.declared.statements.Statement.TheVariants as st
use Rattle.strip_setup.specs.declared.errors.SetupError.{SetupError}
use Rattle.strip_setup.specs.declared.errors.SetupError.TheVariants.{NotBound, BoundDiffers}
use Rattle.strip_setup.specs.Catalog.{Catalog, refused_if, first, is_empty, each_once, name_if, function_number}
use Rattle.strip_kinds.specs.Mismatch.{same_kind}
use Rattle.strip_setup.specs.declared.answers.Binding.{Binding}
use Rattle.strip_kinds.specs.declared.needs.Fit.{Fit}
use Rattle.strip_kinds.specs.Needs.{step_fits, bound_of_step, bindings_named, answer_named}
use Rattle.strip_setup.specs.Queries.{as_columns}
use Rattle.strip_setup.specs.Resolve.{in_rule, bindings_of, columns_bound, columns_so_far, function_at}

-- ---- what isn't bound

-- the bound table of a step, if no query binds it
abbrev pub unbound_table : List Binding → List ℕ → List (List ℕ)
unbound_table bindings name = name_if (is_empty (bindings_named bindings name)) name

-- the same of a bound table that is there
abbrev pub unbound_at : List Binding → Option BoundDef → List (List ℕ)
unbound_at bindings None = []
unbound_at bindings (Some def) = unbound_table bindings def.name

-- the columns that a step needs and a query doesn't bind
abbrev pub unbound_columns : List Fit → List (List ℕ)
unbound_columns fits = map (λ fit. fit.need.column.name) (filter (λ fit. is_none fit.given) fits)

-- what a step needs and isn't bound: its table, else columns
abbrev pub unbound_in_step : List TableDef → List BoundDef → List Binding → Step → List (List ℕ)
unbound_in_step tables bound bindings s =
    unbound_at bindings (slice_get bound (bound_of_step s)) ++ unbound_columns (step_fits tables bound bindings s)

-- the columns of `unique on` that a query doesn't bind
abbrev pub unbound_in_unique : List Binding → List (List ℕ) → List (List ℕ)
unbound_in_unique bindings names = filter (λ name. list_any (λ binding. is_none (answer_named binding name)) bindings) names

-- the names that a rule must bind and doesn't
abbrev pub unbound : Catalog → Statement → List (List ℕ)
unbound catalog (st.Rule name table events conditions evaluate function manner) =
    let bindings = bindings_of (in_rule catalog.tables table) (conditions ++ evaluate) in
    let f = function_at catalog function in
    flat_map (unbound_in_step catalog.tables f.bound bindings) f.steps ++ unbound_in_unique bindings (unwrap_or manner.unique [])
unbound catalog _ = []

-- the first of them
abbrev pub not_bound : Catalog → Statement → Option SetupError
not_bound catalog statement = option_map NotBound (first (unbound catalog statement))

-- ---- what is bound differently

-- the same names in the same order
abbrev pub same_names : List (List ℕ) → List (List ℕ) → Bool
same_names [] [] = true
same_names (a ∷ as_) (b ∷ bs) = bytes_eq a b && same_names as_ bs
same_names _ _ = false

-- the same names and kinds in the same order
abbrev pub same_columns : List ColumnDef → List ColumnDef → Bool
same_columns [] [] = true
same_columns (a ∷ as_) (b ∷ bs) = bytes_eq a.name b.name && same_kind a.kind b.kind && same_columns as_ bs
same_columns _ _ = false

-- the same bound tables with the same columns in the same order
abbrev pub same_bound : List BoundDef → List BoundDef → Bool
same_bound [] [] = true
same_bound (a ∷ as_) (b ∷ bs) = bytes_eq a.name b.name && same_columns a.columns b.columns && same_bound as_ bs
same_bound _ _ = false

-- the same `unique` part
abbrev pub same_unique : Option (List (List ℕ)) → Option (List (List ℕ)) → Bool
same_unique None None = true
same_unique (Some names) (Some others) = same_names names others
same_unique _ _ = false

-- two queries bind one name with different columns
abbrev pub bind_differently : List Binding → Bool
bind_differently bindings =
    list_any (λ binding. not (same_columns (columns_bound bindings binding.name []) (as_columns binding.columns))) bindings

-- what queries bind, in the order of first binding
abbrev pub bound_by : List Binding → List BoundDef
bound_by bindings = map (λ name. record { name = name; columns = columns_bound bindings name [] }) (each_once (map (λ binding. binding.name) bindings))

-- the name that a query of a rule binds, if it does
abbrev pub bound_name_of : List BoundDef → BoundQuery → Option (List ℕ)
bound_name_of bound q = option_map (λ (def : BoundDef). def.name) (option_and_then (slice_get bound) q.bound)

-- the names that a rule's queries bind
abbrev pub names_bound_by : List BoundDef → List BoundQuery → List (List ℕ)
names_bound_by bound queries = filter_map (bound_name_of bound) queries

-- what a rule of the function binds, in the order of first binding
abbrev pub bound_by_rule : Function → Rule → List BoundDef
bound_by_rule function rule =
    map (λ name. record { name = name; columns = columns_so_far function.bound name }) (each_once (names_bound_by function.bound (rule.conditions ++ rule.evaluate)))

-- the rule binds other names or columns, or in another order, or has another `unique` part
abbrev pub is_other : Function → List BoundDef → Option (List (List ℕ)) → Rule → Bool
is_other function bound unique rule = not (same_bound (bound_by_rule function rule) bound) || not (same_unique rule.unique unique)

-- the number is this one
abbrev pub is_number : Option ℕ → ℕ → Bool
is_number None n = false
is_number (Some m) n = m == n

-- the rules of a function
abbrev pub rules_of : Catalog → List ℕ → List Rule
rules_of catalog function = filter (λ rule. is_number (function_number catalog.functions function) rule.function) catalog.rules

-- a rule of the function with these bindings and this `unique` part binds one name differently, or differs from an earlier one
abbrev pub differs : Catalog → List ℕ → List Binding → Option (List (List ℕ)) → Bool
differs catalog function bindings unique =
    bind_differently bindings || list_any (is_other (function_at catalog function) (bound_by bindings) unique) (rules_of catalog function)

-- the function whose bound tables a rule would bind differently
abbrev pub bound_differs : Catalog → Statement → Option SetupError
bound_differs catalog (st.Rule name table events conditions evaluate function manner) =
    let bindings = bindings_of (in_rule catalog.tables table) (conditions ++ evaluate) in
    refused_if (differs catalog function bindings manner.unique) (BoundDiffers function)
bound_differs catalog _ = None
