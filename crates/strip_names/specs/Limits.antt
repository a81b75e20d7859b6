-- What there is too much of.
use Rattle.std.specs.Prelude.{ℕ, Bool, true, false, not, ◌&&◌, nat_le, nat_lt, List, [], ◌∷◌, ◌++◌, length, Option, Some, None, flat_map}
use Rattle.std.specs.List.{enumerate_from}
use Rattle.strip_ast.specs.declared.deeds.Deed.{Deed}
use Rattle.strip_ast.specs.declared.deeds.Deed.TheVariants as deed
use Rattle.strip_ast.specs.declared.queries.ColTree.{ColTree}
use Rattle.strip_ast.specs.declared.queries.QueryTree.{QueryTree}
use Rattle.strip_ast.specs.declared.rules.BoundTree.{BoundTree}
use Rattle.strip_ast.specs.declared.statements.Statement.{Statement}
use Rattle.strip_ast.specs.declared.statements.Statement.TheVariants as st
use Rattle.strip_setup.specs.declared.errors.LimitKind.{LimitKind}
use Rattle.strip_setup.specs.declared.errors.LimitKind.TheVariants as kind
use Rattle.strip_setup.specs.declared.errors.SetupError.{SetupError}
use Rattle.strip_setup.specs.declared.errors.SetupError.TheVariants.{Limit}
use Rattle.strip_setup.specs.Catalog.{Catalog, first}
use Rattle.strip_setup.specs.Resolve.{most_rows}

-- a limit that is passed
abbrev pub limit_if : Bool → LimitKind → ℕ → List SetupError
limit_if true what at = Limit what at ∷ []
limit_if false what at = []

-- a limit that so many pass
abbrev pub more_than : ℕ → LimitKind → ℕ → List SetupError
more_than at what number = limit_if (nat_lt at number) what at

-- a limit that one more passes, where so many are there
abbrev pub one_more_than : ℕ → LimitKind → ℕ → List SetupError
one_more_than at what number = limit_if (nat_le at number) what at

-- the most tables, streams, functions and rules
abbrev pub most_tables : ℕ
most_tables = 64

abbrev pub most_streams : ℕ
most_streams = 64

abbrev pub most_functions : ℕ
most_functions = 64

abbrev pub most_rules : ℕ
most_rules = 128

-- the most steps of a function
abbrev pub most_steps : ℕ
most_steps = 4

-- the most queries of a rule, and how long its actions may be put off at most
abbrev pub most_queries : ℕ
most_queries = 8

abbrev pub most_delay : ℕ
most_delay = 4294967295

-- the most columns of a table and items of a query
abbrev pub most_columns : ℕ
most_columns = 16

-- the most entries of a query: 1 in a query with groups, 3 in any other
abbrev pub most_entries : Option (List ColTree) → ℕ
most_entries None = 3
most_entries (Some columns) = 1

-- the limits that a query passes
abbrev pub limits_in_query : QueryTree → List SetupError
limits_in_query query =
    more_than most_columns kind.Columns (length query.items) ++ more_than (most_entries query.group) kind.Entries (length query.entries)

-- the limits that the i-th query of a rule passes, counted from 1
abbrev pub limits_in_bound : ℕ × BoundTree → List SetupError
limits_in_bound numbered = more_than most_queries kind.Queries numbered.0 ++ limits_in_query (numbered.1).query

-- a row limit that isn't 1 to the most that there can be
abbrev pub limit_of_rows : Option ℕ → List SetupError
limit_of_rows None = []
limit_of_rows (Some rows) = limit_if (not (nat_le 1 rows && nat_le rows most_rows)) kind.Rows most_rows

-- the limits that an act passes
abbrev pub limits_in_deed : Deed → List SetupError
limits_in_deed (deed.Select query) = limits_in_query query
limits_in_deed _ = []

-- the limits that a statement passes, each where it is passed
abbrev pub limits : Catalog → Statement → List SetupError
limits catalog (st.Table name columns key rows) =
    one_more_than most_tables kind.Tables (length catalog.tables) ++ (more_than most_columns kind.Columns (length columns) ++ limit_of_rows rows)
limits catalog (st.Stream name table marked) = one_more_than most_streams kind.Streams (length catalog.streams)
limits catalog (st.Derive name query) = one_more_than most_tables kind.Tables (length catalog.tables) ++ limits_in_query query
limits catalog (st.Function name steps) =
    one_more_than most_functions kind.Functions (length catalog.functions) ++ more_than most_steps kind.Steps (length steps)
limits catalog (st.Rule name table events conditions evaluate function manner) =
    one_more_than most_rules kind.Rules (length catalog.rules)
    ++ (flat_map limits_in_bound (enumerate_from 1 (conditions ++ evaluate)) ++ more_than most_delay kind.Delay manner.after)
limits catalog (st.Deed caller d) = limits_in_deed d
limits catalog _ = []

-- the first limit that is passed
abbrev pub limit : Catalog → Statement → Option SetupError
limit catalog statement = first (limits catalog statement)
