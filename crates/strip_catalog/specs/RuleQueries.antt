-- Which queries of rules suit the tables of a catalog.
use Rattle.std.specs.Prelude.{ℕ, Bool, true, List, Some}
use Rattle.strip_value.specs.declared.queries.Input.{Input}
use Rattle.strip_value.specs.declared.queries.Input.TheVariants as input
use Rattle.strip_value.specs.declared.queries.Query.{Query}
use Rattle.strip_value.specs.declared.tables.ColumnDef.{ColumnDef}
use Rattle.strip_value.specs.declared.tables.TableDef.{TableDef}
use Rattle.strip_meaning.specs.Contents.{def_at}
use Rattle.strip_setup.specs.Queries.{moved_columns}
use Rattle.strip_acts.specs.Suiting.{is_there, suits_over}

-- the columns that an entry has in a query of a rule on the table of a number: those of a table, as it stands or as it stood
-- before; rows that moved have those of the rule's table, and behind them the number of the change
abbrev pub columns_in_rule : List TableDef → ℕ → Input → List ColumnDef
columns_in_rule tables on (input.Table id) = (def_at tables id).columns
columns_in_rule tables on (input.Before id) = (def_at tables id).columns
columns_in_rule tables on _ = moved_columns (Some (def_at tables on).columns)

-- a table that is there, as it stands or as it stood before, or rows that moved in the rule's table
abbrev pub suits_input_in_rule : List TableDef → Input → Bool
suits_input_in_rule tables (input.Table id) = is_there tables id
suits_input_in_rule tables (input.Before id) = is_there tables id
suits_input_in_rule tables _ = true

-- as `suits_query`, of a query of a rule on the table of a number
abbrev pub suits_in_rule : List TableDef → ℕ → Query → Bool
suits_in_rule tables on query = suits_over (suits_input_in_rule tables) (columns_in_rule tables on) query
