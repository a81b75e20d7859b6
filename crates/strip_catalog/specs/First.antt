-- Derived tables of the first form, a group column, a sum and a count over one base table, and how they are kept: by sums, at
-- once. No other is kept yet.
use Rattle.std.specs.Prelude.{ℕ, Bool, true, false, ◌&&◌, ◌||◌, if◌then◌else◌, nat_le, List, [], ◌∷◌, length, Option, Some, None, is_some, is_none, unwrap_or}
use Rattle.std.specs.Option.{option_and_then}
use Rattle.strip_value.specs.declared.expressions.Calc.TheVariants.{Column}
use Rattle.strip_value.specs.declared.expressions.Test.{Test}
use Rattle.strip_value.specs.declared.expressions.Test.TheVariants as test
use Rattle.strip_value.specs.declared.queries.Item.{Item}
use Rattle.strip_value.specs.declared.queries.Place.{Place}
use Rattle.strip_value.specs.declared.queries.Query.{Query}
use Rattle.strip_value.specs.declared.queries.What.{What}
use Rattle.strip_value.specs.declared.queries.What.TheVariants.{Sum}
use Rattle.strip_value.specs.declared.tables.By.TheVariants as by
use Rattle.strip_value.specs.declared.tables.TableDef.{TableDef}
use Rattle.strip_meaning.specs.Contents.{def_at}
use Rattle.strip_meaning.specs.Maintained.{Manner}
use Rattle.strip_setup.specs.Catalog.{Catalog, function_named, rule_named, table_number}
use Rattle.strip_setup.specs.Maintain.{query_in}
use Rattle.strip_names.specs.Grouped.{is_group_column}
use Rattle.strip_catalog.specs.declared.made.Made.{Made}
use Rattle.strip_catalog.specs.Made.{generated}
use Rattle.strip_catalog.specs.Refusals.{is_count}

-- ---- which queries have it

-- the item sums a column
abbrev pub sums_column : What → Bool
sums_column (Sum (Column entry column)) = true
sums_column _ = false

-- a group column, a sum of a column and a count
abbrev pub are_first_items : List Place → List Item → Bool
are_first_items (place ∷ []) (group ∷ sum ∷ count ∷ []) = is_group_column group.what place && (sums_column sum.what && is_count count.what)
are_first_items _ _ = false

-- all rows are chosen
abbrev pub takes_all : Test → Bool
takes_all test.True = true
takes_all _ = false

-- the query of a derived table has the first form
abbrev pub is_first : Query → Bool
is_first query = takes_all query.filter && are_first_items (unwrap_or query.group []) query.items

-- ---- what is made of them

-- each commit makes an action of its own, due at once
abbrev pub at_once : Manner
at_once = record { unique = None; after = 0 }

-- the table is derived, has the first form and a name of a text, and no step keeps it
abbrev pub has_first_form : TableDef → Bool
has_first_form table = is_some table.query && (is_first (query_in table) && (is_none table.kept && nat_le (length table.name) 32))

-- the name of the function or that of the rule is taken
abbrev pub is_taken : Catalog → Made → Bool
is_taken catalog made = is_some (function_named catalog.functions made.function.name) || is_some (rule_named catalog.rules made.rule.name)

-- what is made, unless a name of it is taken
abbrev pub if_free : Catalog → Made → Option Made
if_free catalog made = if is_taken catalog made then None else Some made

-- the function and the rule that keep the table of a name by sums, at once, if it is there, has the first form and isn't kept,
-- and their names are free
abbrev pub first_made : Catalog → List ℕ → Option Made
first_made catalog name =
    option_and_then (λ id. if has_first_form (def_at catalog.tables id) then if_free catalog (generated catalog by.Sum at_once id) else None) (table_number catalog.tables name)
