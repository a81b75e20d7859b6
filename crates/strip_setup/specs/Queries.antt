-- What queries and expressions stand for: names are replaced by numbers. Where something isn't there, any default.
use Rattle.std.specs.Prelude.{ℕ, pos, Bool, true, false, if◌then◌else◌, List, [], ◌∷◌, ◌++◌, map, Option, Some, None, option_map, option_to_list, unwrap_or, flat_map, codes}
use Rattle.std.specs.Fmt.{decimal}
use Rattle.std.specs.List.{enumerate_from}
use Rattle.std.specs.Option.{option_or}
use Rattle.std.specs.Str.{bytes_eq}
use Rattle.strip_value.specs.declared.expressions.Calc.{Calc}
use Rattle.strip_value.specs.declared.expressions.Calc.TheVariants as calc
use Rattle.strip_value.specs.declared.expressions.Cmp.TheVariants as cmp
use Rattle.strip_value.specs.declared.expressions.Test.{Test}
use Rattle.strip_value.specs.declared.expressions.Test.TheVariants as test
use Rattle.strip_value.specs.declared.kinds.Kind.{Kind}
use Rattle.strip_value.specs.declared.kinds.Kind.TheVariants as kind
use Rattle.strip_value.specs.declared.queries.Input.{Input}
use Rattle.strip_value.specs.declared.queries.Input.TheVariants as input
use Rattle.strip_value.specs.declared.queries.Place.{Place}
use Rattle.strip_value.specs.declared.queries.Query.{Query}
use Rattle.strip_value.specs.declared.queries.What.{What}
use Rattle.strip_value.specs.declared.queries.What.TheVariants as what
use Rattle.strip_value.specs.declared.tables.ColumnDef.{ColumnDef}
use Rattle.strip_value.specs.declared.tables.TableDef.{TableDef}
use Rattle.strip_value.specs.Bounds.{item_kind, kind_magnitude, magnitude_of}
use Rattle.strip_value.specs.Trees as tree
use Rattle.strip_ast.specs.declared.expressions.Expr.{Expr, Number, Text, Column}
use Rattle.strip_ast.specs.declared.expressions.Op.{Op}
use Rattle.strip_ast.specs.declared.expressions.Op.TheVariants as op
use Rattle.strip_ast.specs.declared.queries.EntryTree.{EntryTree}
use Rattle.strip_ast.specs.declared.queries.ItemTree.{ItemTree}
use Rattle.strip_ast.specs.declared.queries.Origin.{Origin}
use Rattle.strip_ast.specs.declared.queries.Origin.TheVariants as origin
use Rattle.strip_ast.specs.declared.queries.QueryTree.{QueryTree}
use Rattle.strip_ast.specs.declared.queries.Total.{Total}
use Rattle.strip_ast.specs.declared.queries.Total.TheVariants as total
use Rattle.strip_setup.specs.declared.answers.Answer.{Answer}
use Rattle.strip_setup.specs.declared.scope.Entry.{Entry}
use Rattle.strip_setup.specs.Catalog.{first, table_id, table_named, columns_of, column_number}
use Rattle.strip_setup.specs.Trees.{Two, Not}

-- ---- entries

-- what the entries of a query may name: the tables, and in a rule's query the columns of the rule's table
pub record Scope : Type 0 where
  pub tables : List TableDef
  pub changed : Option (List ColumnDef)

-- the number of a row change
abbrev pub execute_order : ColumnDef
execute_order = record { name = codes "execute_order"; kind = kind.Big }

-- the columns of a transition table: those of the rule's table, and the number of the change; there are none outside a rule
abbrev pub moved_columns : Option (List ColumnDef) → List ColumnDef
moved_columns None = []
moved_columns (Some columns) = columns ++ execute_order ∷ []

-- the columns of what an entry takes its rows from
abbrev pub origin_columns : Scope → Origin → List ColumnDef
origin_columns scope (origin.Table name) = columns_of (table_named scope.tables name)
origin_columns scope (origin.Before name) = columns_of (table_named scope.tables name)
origin_columns scope _ = moved_columns scope.changed

-- the table's own name; a transition table has none
abbrev pub origin_name : Origin → Option (List ℕ)
origin_name (origin.Table name) = Some name
origin_name (origin.Before name) = Some name
origin_name _ = None

-- the name after the entry, else its table's name
abbrev pub alias_of : EntryTree → Option (List ℕ)
alias_of entry = option_or entry.alias (origin_name entry.origin)

-- what an entry is
abbrev pub entry_of : Scope → EntryTree → Entry
entry_of scope entry = record { alias = alias_of entry; columns = origin_columns scope entry.origin }

-- the entries of a query
abbrev pub entries_of : Scope → QueryTree → List Entry
entries_of scope query = map (entry_of scope) query.entries

-- the one entry of an `update` or a `delete`: the table under its own name
abbrev pub own_entry : List TableDef → List ℕ → List Entry
own_entry tables name = record { alias = Some name; columns = columns_of (table_named tables name) } ∷ []

-- the kinds of the columns of each entry
abbrev pub kinds_of : List Entry → List (List Kind)
kinds_of entries = map (λ entry. map (λ column. column.kind) entry.columns) entries

-- ---- columns

-- the entry is meant by what stands before a column; by nothing every entry is
abbrev pub is_meant : Option (List ℕ) → Option (List ℕ) → Bool
is_meant None alias = true
is_meant (Some of) None = false
is_meant (Some of) (Some alias) = bytes_eq of alias

-- the column of a name in the entry of a number, if it is meant and has it
abbrev pub place_in : Option (List ℕ) → List ℕ → ℕ × Entry → List Place
place_in of name numbered =
    if is_meant of (numbered.1).alias
    then option_to_list (option_map (λ column. record { entry = numbered.0; column = column }) (column_number (numbered.1).columns name))
    else []

-- all columns that a column can mean, one of an entry at most
abbrev pub places_of : List Entry → Option (List ℕ) → List ℕ → List Place
places_of entries of name = flat_map (place_in of name) (enumerate_from 0 entries)

-- the column that is meant
abbrev pub place_of : List Entry → Option (List ℕ) → List ℕ → Place
place_of entries of name = unwrap_or (first (places_of entries of name)) (record { entry = 0; column = 0 })

-- ---- expressions

-- the value of an expression; a truth value is none
abbrev pub calc_of : List Entry → Expr → Calc
calc_of entries (Number n) = calc.Number n
calc_of entries (Text t) = calc.Text t
calc_of entries (Column of name) = let place = place_of entries of name in calc.Column place.entry place.column
calc_of entries (Two op.Add a b) = tree.Add (calc_of entries a) (calc_of entries b)
calc_of entries (Two op.Sub a b) = tree.Sub (calc_of entries a) (calc_of entries b)
calc_of entries (Two op.Mul a b) = tree.Mul (calc_of entries a) (calc_of entries b)
calc_of entries _ = calc.Number (pos 0)

-- what two values are joined to by a comparison; no other operator makes a truth value of values
abbrev pub compared : Op → Calc → Calc → Test
compared op.Eq a b = test.Compare cmp.Eq a b
compared op.Ne a b = test.Compare cmp.Ne a b
compared op.Lt a b = test.Compare cmp.Lt a b
compared op.Le a b = test.Compare cmp.Le a b
compared op.Gt a b = test.Compare cmp.Gt a b
compared op.Ge a b = test.Compare cmp.Ge a b
compared _ a b = test.True

-- the truth value of an expression; a value is none
abbrev pub test_of : List Entry → Expr → Test
test_of entries (Not a) = tree.Not (test_of entries a)
test_of entries (Two op.And a b) = tree.And (test_of entries a) (test_of entries b)
test_of entries (Two op.Or a b) = tree.Or (test_of entries a) (test_of entries b)
test_of entries (Two o a b) = compared o (calc_of entries a) (calc_of entries b)
test_of entries _ = test.True

-- the filter of a query; one without a filter takes all
abbrev pub filter_of : List Entry → Option Expr → Test
filter_of entries None = test.True
filter_of entries (Some e) = test_of entries e

-- ---- items

-- a column's name; any other item is called `item_` and its number
abbrev pub own_name : ℕ → Total → List ℕ
own_name i (total.Plain (Column of name)) = name
own_name i _ = codes "item_" ++ decimal i

-- the name of the i-th item: the one after `as`, else its own
abbrev pub item_name : ℕ × ItemTree → List ℕ
item_name numbered = unwrap_or (numbered.1).name (own_name numbered.0 (numbered.1).what)

-- the items' names
abbrev pub item_names : List ItemTree → List (List ℕ)
item_names items = map item_name (enumerate_from 1 items)

-- what an item gives: a value, a sum or a count
abbrev pub what_of : List Entry → Total → What
what_of entries (total.Plain e) = what.Plain (calc_of entries e)
what_of entries (total.Sum e) = what.Sum (calc_of entries e)
what_of entries total.Count = what.Count

-- how far from 0 an item's numbers may be
abbrev pub item_magnitude : List (List Kind) → What → ℕ
item_magnitude kinds (what.Plain e) = magnitude_of kinds e
item_magnitude kinds _ = kind_magnitude kind.Big

-- ---- queries

-- where an entry takes its rows from
abbrev pub input_of : List TableDef → Origin → Input
input_of tables (origin.Table name) = input.Table (table_id tables name)
input_of tables (origin.Before name) = input.Before (table_id tables name)
input_of tables origin.Inserted = input.Inserted
input_of tables origin.Deleted = input.Deleted
input_of tables origin.Old = input.Old
input_of tables origin.New = input.New

-- what a query stands for
abbrev pub query_of : Scope → QueryTree → Query
query_of scope query =
    let entries = entries_of scope query in
    record {
      items = map (λ item. record { name = item_name item; what = what_of entries (item.1).what }) (enumerate_from 1 query.items);
      entries = map (λ entry. input_of scope.tables entry.origin) query.entries;
      filter = filter_of entries query.filter;
      group = option_map (map (λ column. place_of entries column.of column.name)) query.group;
    }

-- the column of an item
abbrev pub answer_of : List Entry → ℕ × ItemTree → Answer
answer_of entries item =
    let w = what_of entries (item.1).what in
    record { name = item_name item; kind = item_kind (kinds_of entries) w; magnitude = item_magnitude (kinds_of entries) w }

-- the columns of a query's answer
abbrev pub answers_of : Scope → QueryTree → List Answer
answers_of scope query = map (answer_of (entries_of scope query)) (enumerate_from 1 query.items)

-- the same as columns of a table
abbrev pub as_columns : List Answer → List ColumnDef
as_columns answers = map (λ answer. record { name = answer.name; kind = answer.kind }) answers
