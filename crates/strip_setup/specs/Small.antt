-- Where queries stand whose places and numbers are small.
use Rattle.std.specs.Prelude.{ℕ, ◌≤◌, false, List, [], All, get_or, length, set}
use Rattle.std.specs.List.{AllByRecursion}
use Rattle.strip_ast.specs.declared.queries.QueryTree.{QueryTree}
use Rattle.strip_setup.specs.declared.scope.Entry.{Entry}
use Rattle.strip_value.specs.declared.rules.BoundDef.{BoundDef}
use Rattle.strip_value.specs.declared.rules.Function.{Function}
use Rattle.strip_value.specs.declared.tables.TableDef.{TableDef}
use Rattle.strip_ast.specs.declared.rules.BoundTree.{BoundTree}
use Rattle.strip_setup.specs.Catalog.{Catalog}
use Rattle.strip_setup.specs.Places.{ChangesFew}
use Rattle.strip_setup.specs.Queries.{Scope}
use Rattle.strip_setup.specs.Resolve.{no_function}

-- each table has at most 16 columns
abbrev pub AreNarrow : List TableDef → Type 0
AreNarrow tables = AllByRecursion (λ table. length table.columns ≤ 16) tables

-- at most three entries, each with at most 17 columns: those of a table, and the number of the change
pub record AreFew (entries : List Entry) : Type 0 where
  pub few : length entries ≤ 3
  pub narrow : AllByRecursion (λ entry. length entry.columns ≤ 17) entries

-- the query is over at most three entries
abbrev pub AskFew : QueryTree → Type 0
AskFew query = length query.entries ≤ 3

-- at most 64 tables, each with at most 16 columns, as the rule's table
pub record IsSmallScope (scope : Scope) : Type 0 where
  pub tables : length scope.tables ≤ 64
  pub narrow : AreNarrow scope.tables
  pub changed : ChangesFew scope

-- each query has at most three entries
abbrev pub HaveFewEntries : List BoundTree → Type 0
HaveFewEntries queries = All (λ bound. length bound.query.entries ≤ 3) queries

-- what a catalog says of its tables and functions
abbrev pub of_both : List TableDef → List Function → Catalog
of_both tables functions = record { tables = tables; streams = []; functions = functions; rules = []; closed = false }

-- the functions, of which that of a number has other bound tables
abbrev pub rebound : List Function → ℕ → List BoundDef → List Function
rebound functions number bound = set functions number (record (get_or functions number no_function) { bound = bound })
