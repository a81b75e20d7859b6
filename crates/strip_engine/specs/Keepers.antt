-- How derived tables of the first form are kept: by a rule at each commit.
use Rattle.std.specs.Prelude.{ℕ, List, [], map, get_or}
use Rattle.strip_value.specs.declared.expressions.Calc.{Calc}
use Rattle.strip_value.specs.declared.expressions.Calc.TheVariants.{Column}
use Rattle.strip_value.specs.declared.queries.Query.{Query}
use Rattle.strip_value.specs.declared.queries.Item.{Item}
use Rattle.strip_value.specs.declared.queries.What.{What}
use Rattle.strip_value.specs.declared.queries.What.TheVariants.{Plain, Sum, Count}
use Rattle.strip_value.specs.declared.tables.TableDef.{TableDef}
use Rattle.strip_meaning.specs.Contents.{def_at}
use Rattle.strip_meaning.specs.Maintained.{source_of}
use Rattle.strip_model.specs.Derived.{Fixed}
use Rattle.strip_setup.specs.Maintain.{query_in}
use Rattle.strip_engine.specs.declared.keepers.Keeper.{Keeper}
use Rattle.strip_engine.specs.Built.{kept_tables}

-- the column that an item shows or sums
abbrev pub column_in : Calc → ℕ
column_in (Column entry column) = column
column_in _ = 0

abbrev pub item_column : What → ℕ
item_column (Plain e) = column_in e
item_column (Sum e) = column_in e
item_column Count = 0

abbrev pub no_item : Item
no_item = record { name = []; what = Count }

-- the column of the item at a place
abbrev pub named_column : Query → ℕ → ℕ
named_column query at = item_column (get_or query.items at no_item).what

-- the table of a number, by its query
abbrev pub keeper_by : ℕ → Query → Keeper
keeper_by table query = record {
  table = table;
  source = source_of query;
  group = named_column query 0;
  value = named_column query 1;
}

-- the keepers of these tables
abbrev pub keepers_of : List TableDef → List ℕ → List Keeper
keepers_of defs ids = map (λ id. keeper_by id (query_in (def_at defs id))) ids

-- one for each table that is declared to be kept, in the order of the functions. Their rules have their places as numbers
abbrev pub all_keepers : Fixed → List Keeper
all_keepers f = keepers_of f.defs (kept_tables f.functions)

abbrev pub no_keeper : Keeper
no_keeper = record { table = 0; source = 0; group = 0; value = 0 }

-- the keeper whose rule has this number, and the table that it keeps
abbrev pub keeper_at : Fixed → ℕ → Keeper
keeper_at f rule = get_or (all_keepers f) rule no_keeper

abbrev pub kept_def : Fixed → ℕ → TableDef
kept_def f rule = def_at f.defs (keeper_at f rule).table
