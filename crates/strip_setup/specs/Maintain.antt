-- What a `maintain` statement makes of a derived table: a function and a rule, which keep the table from then on.
use Rattle.std.specs.Prelude.{ℕ, ◌++◌, true, List, [], ◌∷◌, Option, Some, None, codes, length, set, unwrap_or}
use Rattle.strip_value.specs.declared.expressions.Test.TheVariants as test
use Rattle.strip_value.specs.declared.queries.Query.{Query}
use Rattle.strip_value.specs.declared.rules.Function.{Function}
use Rattle.strip_value.specs.declared.rules.Rule.{Rule}
use Rattle.strip_value.specs.declared.tables.By.{By}
use Rattle.strip_value.specs.declared.tables.By.TheVariants as by
use Rattle.strip_value.specs.declared.tables.TableDef.{TableDef}
use Rattle.strip_ast.specs.declared.rules.Manner.{Manner as Written}
use Rattle.strip_meaning.specs.Contents.{def_at}
use Rattle.strip_meaning.specs.Maintained.{Manner, keep_function, keep_rule, redo_function, redo_rule}
use Rattle.strip_setup.specs.Catalog.{Catalog}

-- the query of a table that has none
abbrev pub no_query : Query
no_query = record { items = []; entries = []; filter = test.True; group = None }

-- the query of a derived table
abbrev pub query_in : TableDef → Query
query_in table = unwrap_or table.query no_query

-- the names of what is made
abbrev pub function_name : List ℕ → List ℕ
function_name table = codes "keep_" ++ table

abbrev pub rule_name : List ℕ → List ℕ
rule_name table = function_name table ++ codes "_1"

-- the function that keeps the table of a number so
abbrev pub made_function : By → TableDef → ℕ → Function
made_function by.Sum table id = keep_function table id
made_function by.Key table id = redo_function table id

-- the rule that binds what the function of a number needs
abbrev pub made_rule : By → TableDef → ℕ → Manner → Rule
made_rule by.Sum table function manner = keep_rule table (query_in table) function manner
made_rule by.Key table function manner = redo_rule table (query_in table) function manner

-- the manner as it is written
abbrev pub manner_of : Written → Manner
manner_of written = record { unique = written.unique; after = written.after }

-- the tables, of which that of a number is declared to be kept so
abbrev pub declared_kept : List TableDef → ℕ → By → List TableDef
declared_kept tables id how = set tables id (record (def_at tables id) { kept = Some how; declared = true })

-- the table of a number, with the function and the rule that keep it
abbrev pub with_kept : Catalog → ℕ → By → Manner → Catalog
with_kept catalog id how manner =
    let table = def_at catalog.tables id in
    record catalog {
      tables = declared_kept catalog.tables id how;
      functions = catalog.functions ++ made_function how table id ∷ [];
      rules = catalog.rules ++ made_rule how table (length catalog.functions) manner ∷ [];
    }
