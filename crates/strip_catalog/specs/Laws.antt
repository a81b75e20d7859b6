-- What every catalog is.
use Rattle.std.specs.Prelude.{◌≡◌, ℕ, ◌+◌, ◌*◌, ◌<◌, ◌≤◌, ◌==◌, Bool, true, ◌⊎◌, List, Some, None, get_or, is_some, length, map, slice_get}
use Rattle.std.specs.List.{AllByRecursion, list_any}
use Rattle.strip_value.specs.declared.queries.Query.{Query}
use Rattle.strip_value.specs.declared.rules.BoundQuery.{BoundQuery}
use Rattle.strip_value.specs.declared.rules.Function.{Function}
use Rattle.strip_value.specs.declared.rules.Rule.{Rule}
use Rattle.strip_value.specs.declared.tables.By.{By}
use Rattle.strip_meaning.specs.Maintained.{Manner}
use Rattle.strip_names.specs.Exists.{kept_number}
use Rattle.strip_setup.specs.Small.{AreNarrow}
use Rattle.strip_acts.specs.Laws.{AreApart, AreNamed}
use Rattle.strip_acts.specs.Suiting.{suits_query}
use Rattle.strip_setup.specs.Catalog.{Catalog, function_number, table_number}
use Rattle.strip_setup.specs.Resolve.{no_function}
use Rattle.strip_catalog.specs.Accepted.{IsDeclared}
use Rattle.strip_catalog.specs.RuleQueries.{suits_in_rule}
use Rattle.strip_meaning.specs.Contents.{def_at}
use Rattle.strip_value.specs.declared.tables.TableDef.{TableDef}
use Rattle.strip_setup.specs.Maintain.{made_function, made_rule, query_in}
use Rattle.strip_meaning.specs.First.{IsBase}
use Rattle.strip_meaning.specs.First.{IsFirst}
use Rattle.strip_catalog.specs.First.{is_first}

-- there are at most 64 tables, streams and functions and 128 rules; a table has at most 16 columns, and a function at most 4
-- bound tables and 8 more for each rule
pub record IsSmall (catalog : Catalog) : Type 0 where
  pub tables : length catalog.tables ≤ 64
  pub streams : length catalog.streams ≤ 64
  pub functions : length catalog.functions ≤ 64
  pub rules : length catalog.rules ≤ 128
  pub narrow : AreNarrow catalog.tables
  pub bound : AllByRecursion (λ f. length f.bound ≤ 4 + 8 * length catalog.rules) catalog.functions

abbrev pub CatalogsAreSmall : Type 0
CatalogsAreSmall = (catalog : Catalog) → IsDeclared catalog → IsSmall catalog

-- tables have names of their own, and so have streams, functions and rules: names and numbers are one to one
pub record HasOwnNames (catalog : Catalog) : Type 0 where
  pub tables : AreApart (map (λ table. table.name) catalog.tables)
  pub streams : AreApart (map (λ stream. stream.name) catalog.streams)
  pub functions : AreApart (map (λ function. function.name) catalog.functions)
  pub rules : AreApart (map (λ rule. rule.name) catalog.rules)

abbrev pub NamesAreTheirOwn : Type 0
NamesAreTheirOwn = (catalog : Catalog) → IsDeclared catalog → HasOwnNames catalog

-- tables and their columns have names of the grammar, and the columns of a table have names of their own
abbrev pub TablesAreNamed : Type 0
TablesAreNamed = (catalog : Catalog) → IsDeclared catalog → AreNamed catalog.tables

-- the name of each number stands for that number
pub record NamesItsNumbers (catalog : Catalog) : Type 0 where
  pub tables : (id : ℕ) → id < length catalog.tables → table_number catalog.tables (def_at catalog.tables id).name ≡ Some id
  pub functions : (id : ℕ) → id < length catalog.functions → function_number catalog.functions (get_or catalog.functions id no_function).name ≡ Some id

abbrev pub NamesStandForNumbers : Type 0
NamesStandForNumbers = (catalog : Catalog) → IsDeclared catalog → NamesItsNumbers catalog

-- a derived table: at most 16 columns, its key columns among them, and no row limit; one whose query has the first form is a
-- group column of a base table, a sum and a count
pub record IsDerivedTable (tables : List TableDef) (def : TableDef) : Type 0 where
  pub derived : is_some def.query ≡ true
  pub narrow : length def.columns ≤ 16
  pub key : AllByRecursion (λ column. column < length def.columns) def.key
  pub unlimited : def.limit ≡ None
  pub first : is_first (query_in def) ≡ true → IsFirst tables def

abbrev pub IsTableOf : List TableDef → TableDef → Type 0
IsTableOf tables def = IsBase def ⊎ IsDerivedTable tables def

-- each table is a base table or a derived one
abbrev pub TablesAreSound : Type 0
TablesAreSound = (catalog : Catalog) → IsDeclared catalog → AllByRecursion (IsTableOf catalog.tables) catalog.tables

-- what a derived table asks: its query has groups over one entry, and suits the tables: tables and columns are there, kinds go
-- together, and bounds are kept
pub record AsksRightly (tables : List TableDef) (query : Query) : Type 0 where
  pub one : length query.entries ≡ 1
  pub grouped : is_some query.group ≡ true
  pub suits : suits_query tables query ≡ true

abbrev pub QueriesSuit : Type 0
QueriesSuit = (catalog : Catalog) → IsDeclared catalog → (id : ℕ) (query : Query) → (def_at catalog.tables id).query ≡ Some query → AsksRightly catalog.tables query

-- what a rule asks suits the tables: the rule's table is there, and each of its queries suits
pub record AsksInRange (tables : List TableDef) (rule : Rule) : Type 0 where
  pub there : rule.table < length tables
  pub conditions : AllByRecursion (λ (one : BoundQuery). suits_in_rule tables rule.table one.query ≡ true) rule.conditions
  pub evaluate : AllByRecursion (λ (one : BoundQuery). suits_in_rule tables rule.table one.query ≡ true) rule.evaluate

abbrev pub RulesSuit : Type 0
RulesSuit = (catalog : Catalog) → IsDeclared catalog → (number : ℕ) (rule : Rule) → slice_get catalog.rules number ≡ Some rule → AsksInRange catalog.tables rule

-- ---- tables that are declared to be kept

-- a step of the function keeps the table
abbrev pub keeps_table : Function → ℕ → Bool
keeps_table function id = list_any (λ s. kept_number s == id) function.steps

-- the table of a number is kept by one function and one rule, which are what is made of it, and by no others
pub record IsKeptAlone (catalog : Catalog) (id : ℕ) : Type 0 where
  pub how : By
  pub manner : Manner
  pub function : ℕ
  pub rule : ℕ
  pub kept : (def_at catalog.tables id).kept ≡ Some how
  pub is_function : slice_get catalog.functions function ≡ Some (made_function how (def_at catalog.tables id) id)
  pub is_rule : slice_get catalog.rules rule ≡ Some (made_rule how (def_at catalog.tables id) function manner)
  pub no_other_function : (other : ℕ) (f : Function) → slice_get catalog.functions other ≡ Some f → keeps_table f id ≡ true → other ≡ function
  pub no_other_rule : (other : ℕ) (r : Rule) → slice_get catalog.rules other ≡ Some r → r.function ≡ function → other ≡ rule

abbrev pub DeclaredTablesAreKept : Type 0
DeclaredTablesAreKept = (catalog : Catalog) → IsDeclared catalog → (id : ℕ) → id < length catalog.tables → (def_at catalog.tables id).declared ≡ true → IsKeptAlone catalog id
