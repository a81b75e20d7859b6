-- What is declared after a statement that isn't refused.
use Rattle.std.specs.Prelude.{ℕ, true, List, [], ◌∷◌, ◌++◌, map, set, Option, Some, None, option_map, find}
use Rattle.std.specs.Option.{option_or}
use Rattle.std.specs.Str.{bytes_eq}
use Rattle.strip_value.specs.declared.rules.BoundDef.{BoundDef}
use Rattle.strip_value.specs.declared.rules.Function.{Function}
use Rattle.strip_value.specs.declared.tables.By.{By}
use Rattle.strip_value.specs.declared.tables.TableDef.{TableDef}
use Rattle.strip_ast.specs.declared.rules.BoundTree.{BoundTree}
use Rattle.strip_ast.specs.declared.rules.StepTree.{StepTree}
use Rattle.strip_ast.specs.declared.statements.Statement.{Statement}
use Rattle.strip_ast.specs.declared.statements.Statement.TheVariants as st
use Rattle.strip_setup.specs.Catalog.{Catalog, function_number, table_id}
use Rattle.strip_setup.specs.Maintain.{manner_of, with_kept}
use Rattle.strip_setup.specs.Resolve.{kept_name, kind_of_step}
use Rattle.strip_setup.specs.Resolve.{table_of, derived_of, stream_of, function_of, rule_of, function_at, bound_with, bindings_of, in_rule}

-- a table is kept by the kind of a step of these that names it, else as before
abbrev pub kept_by : List StepTree → TableDef → Option By
kept_by steps table = option_or (option_map kind_of_step (find (λ s. bytes_eq (kept_name s) table.name) steps)) table.kept

-- the tables, of which these steps keep some
abbrev pub kept_by_steps : List TableDef → List StepTree → List TableDef
kept_by_steps tables steps = map (λ (table : TableDef). record table { kept = kept_by steps table }) tables

-- the functions, of which that of a number has other bound tables
abbrev pub with_bound : List Function → Option ℕ → Function → List BoundDef → List Function
with_bound functions None function bound = functions
with_bound functions (Some number) function bound = set functions number (record function { bound = bound })

-- the functions once a rule of that one is there: its bound tables have the columns that the rule binds
abbrev pub functions_with_rule : Catalog → List ℕ → List ℕ → List BoundTree → List Function
functions_with_rule catalog function table queries =
    let f = function_at catalog function in
    with_bound catalog.functions (function_number catalog.functions function) f (bound_with f.bound (bindings_of (in_rule catalog.tables table) queries))

-- what is declared after a statement that isn't refused
unfoldable pub with_statement : Catalog → Statement → Catalog
with_statement catalog (st.Table name columns key limit) = record catalog { tables = catalog.tables ++ table_of name columns key limit ∷ [] }
with_statement catalog (st.Stream name table marked) = record catalog { streams = catalog.streams ++ stream_of catalog.tables name table marked ∷ [] }
with_statement catalog (st.Derive name query) = record catalog { tables = catalog.tables ++ derived_of catalog.tables name query ∷ [] }
with_statement catalog (st.Function name steps) = record catalog {
  tables = kept_by_steps catalog.tables steps;
  functions = catalog.functions ++ function_of catalog.tables name steps ∷ [];
}
with_statement catalog (st.Rule name table events conditions evaluate function manner) = record catalog {
  functions = functions_with_rule catalog function table (conditions ++ evaluate);
  rules = catalog.rules ++ rule_of catalog name table events conditions evaluate function manner ∷ [];
}
with_statement catalog (st.Maintain name how manner) = with_kept catalog (table_id catalog.tables name) how (manner_of manner)
with_statement catalog st.Ready = record catalog { closed = true }
with_statement catalog _ = catalog
