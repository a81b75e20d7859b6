-- What is declared: tables, streams, functions and rules, and how their names are looked for.
use Rattle.std.specs.Prelude.{ℕ, Bool, true, false, not, List, [], ◌∷◌, map, Option, Some, None, is_some, unwrap_or, filter, scan, find, position}
use Rattle.std.specs.List.{list_any}
use Rattle.std.specs.Str.{bytes_eq}
use Rattle.strip_value.specs.declared.rules.Function.{Function}
use Rattle.strip_value.specs.declared.rules.Rule.{Rule}
use Rattle.strip_value.specs.declared.streams.Stream.{Stream}
use Rattle.strip_value.specs.declared.tables.ColumnDef.{ColumnDef}
use Rattle.strip_value.specs.declared.tables.TableDef.{TableDef}
use Rattle.strip_setup.specs.declared.errors.SetupError.{SetupError}

-- what is declared so far, each kind in the order of its numbers, and whether setup is over
pub record Catalog : Type 0 where
  pub tables : List TableDef
  pub streams : List Stream
  pub functions : List Function
  pub rules : List Rule
  pub closed : Bool

-- nothing is declared
abbrev pub nothing : Catalog
nothing = record { tables = []; streams = []; functions = []; rules = []; closed = false }

-- a refusal, if so
abbrev pub refused_if : Bool → SetupError → Option SetupError
refused_if true error = Some error
refused_if false error = None

-- ---- lists

-- the first of a list, if there is one
abbrev pub first : {A : Type 0} → List A → Option A
first [] = None
first (x ∷ xs) = Some x

-- the list is empty
abbrev pub is_empty : {A : Type 0} → List A → Bool
is_empty [] = true
is_empty (x ∷ xs) = false

-- each item of a list, with those before it, the last of these first
abbrev pub with_earlier : {A : Type 0} → List A → List (A × List A)
with_earlier xs = scan (λ earlier x. x ∷ earlier) (λ earlier x. (x, earlier)) [] xs

-- ---- lists of names

-- the name is one of these
abbrev pub has_name : List (List ℕ) → List ℕ → Bool
has_name names name = list_any (λ other. bytes_eq other name) names

-- the name alone, if so
abbrev pub name_if : Bool → List ℕ → List (List ℕ)
name_if true name = name ∷ []
name_if false name = []

-- a name stands before in its list
abbrev pub stood_before : List ℕ × List (List ℕ) → Bool
stood_before name = has_name name.1 name.0

-- the names that stand before in the list, each where it stands again
abbrev pub repeated : List (List ℕ) → List (List ℕ)
repeated names = map (λ name. name.0) (filter stood_before (with_earlier names))

-- the names, each once, in the order of first mention
abbrev pub each_once : List (List ℕ) → List (List ℕ)
each_once names = map (λ name. name.0) (filter (λ name. not (stood_before name)) (with_earlier names))

-- ---- what a name stands for

-- the number of the table of a name
abbrev pub table_number : List TableDef → List ℕ → Option ℕ
table_number tables name = position (λ table. bytes_eq table.name name) tables

-- the same; one that isn't there has the first number
abbrev pub table_id : List TableDef → List ℕ → ℕ
table_id tables name = unwrap_or (table_number tables name) 0

-- the table of a name
abbrev pub table_named : List TableDef → List ℕ → Option TableDef
table_named tables name = find (λ table. bytes_eq table.name name) tables

-- the stream of a name
abbrev pub stream_named : List Stream → List ℕ → Option Stream
stream_named streams name = find (λ stream. bytes_eq stream.name name) streams

-- the number of the function of a name
abbrev pub function_number : List Function → List ℕ → Option ℕ
function_number functions name = position (λ function. bytes_eq function.name name) functions

-- the function of a name
abbrev pub function_named : List Function → List ℕ → Option Function
function_named functions name = find (λ function. bytes_eq function.name name) functions

-- the rule of a name
abbrev pub rule_named : List Rule → List ℕ → Option Rule
rule_named rules name = find (λ rule. bytes_eq rule.name name) rules

-- the number of the column of a name
abbrev pub column_number : List ColumnDef → List ℕ → Option ℕ
column_number columns name = position (λ column. bytes_eq column.name name) columns

-- the columns of a table, if it is there
abbrev pub columns_of : Option TableDef → List ColumnDef
columns_of None = []
columns_of (Some table) = table.columns

-- the table is there and has a query
abbrev pub is_derived : Option TableDef → Bool
is_derived None = false
is_derived (Some table) = is_some table.query
