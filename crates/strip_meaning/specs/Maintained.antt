-- The functions and the rules that keep derived tables: by sums of what changes, or by computing anew the rows of its keys.
use Rattle.std.specs.Prelude.{ℕ, pos, codes, Bool, true, false, List, [], ◌∷◌, ◌++◌, map, filter, Option, Some, None, get_or}
use Rattle.strip_value.specs.declared.expressions.Calc.{Calc}
use Rattle.strip_value.specs.declared.expressions.Calc.TheVariants.{Number}
use Rattle.strip_value.specs.declared.queries.Input.{Input}
use Rattle.strip_value.specs.declared.queries.Input.TheVariants as input
use Rattle.strip_value.specs.declared.queries.Query.{Query}
use Rattle.strip_value.specs.declared.queries.What.{What}
use Rattle.strip_value.specs.declared.queries.What.TheVariants.{Plain, Sum, Count}
use Rattle.strip_value.specs.declared.rules.BoundQuery.{BoundQuery}
use Rattle.strip_value.specs.declared.rules.Event.TheVariants.{Inserted, Deleted, Updated}
use Rattle.strip_value.specs.declared.rules.Function.{Function}
use Rattle.strip_value.specs.declared.rules.Rule.{Rule}
use Rattle.strip_value.specs.declared.rules.Step.TheVariants.{Add, Redo}
use Rattle.strip_value.specs.declared.tables.TableDef.{TableDef}
use Rattle.strip_value.specs.Trees as tree
use Rattle.strip_meaning.specs.Contents.{key_columns}

-- a total of a row that comes, and of one that goes
abbrev pub coming : Calc → Calc
coming e = tree.Add (Number (pos 0)) e

abbrev pub going : Calc → Calc
going e = tree.Sub (Number (pos 0)) e

-- an item of the table's query for one row: a sum's argument, or 1 for a count, as what comes or goes
abbrev pub delta_what : (Calc → Calc) → What → What
delta_what signed (Plain e) = Plain e
delta_what signed (Sum e) = Plain (signed e)
delta_what signed Count = Plain (signed (Number (pos 1)))

-- the table's query for single rows of a transition table
abbrev pub delta_query : (Calc → Calc) → Input → Query → Query
delta_query signed from query = record {
  items = map (λ item. record { name = item.name; what = delta_what signed item.what }) query.items;
  entries = from ∷ [];
  filter = query.filter;
  group = None;
}

-- a query whose rows the function's one bound table takes
abbrev pub binds : Query → BoundQuery
binds query = record { query = query; bound = Some 0 }

-- what comes and what goes, of added, removed and replaced rows
abbrev pub delta_queries : Query → List BoundQuery
delta_queries query =
    binds (delta_query coming input.Inserted query) ∷ binds (delta_query going input.Deleted query) ∷ binds (delta_query going input.Old query) ∷ binds (delta_query coming input.New query) ∷ []

-- how the actions that keep a table are told apart, and how long after a commit they are due
pub record Manner : Type 0 where
  pub unique : Option (List (List ℕ))
  pub after : ℕ

abbrev pub keep_name : TableDef → List ℕ
keep_name def = codes "keep_" ++ def.name

-- the function: it adds the bound rows to the table of this number
abbrev pub keep_function : TableDef → ℕ → Function
keep_function def table = record {
  name = keep_name def;
  steps = Add 0 table ∷ [];
  bound = record { name = codes "delta_" ++ def.name; columns = def.columns } ∷ [];
}

-- the table that a query of one entry reads
abbrev pub table_of_input : Input → ℕ
table_of_input (input.Table id) = id
table_of_input _ = 0

abbrev pub source_of : Query → ℕ
source_of query = table_of_input (get_or query.entries 0 input.Inserted)

-- the rule: at each change of the table that the query reads
abbrev pub keep_rule : TableDef → Query → ℕ → Manner → Rule
keep_rule def query function manner = record {
  name = keep_name def ++ codes "_1";
  table = source_of query;
  events = Inserted ∷ Deleted ∷ Updated [] ∷ [];
  conditions = [];
  evaluate = delta_queries query;
  function = function;
  unique = manner.unique;
  after = manner.after;
}

-- ---- by key

-- neither a sum nor a count
abbrev pub is_plain : What → Bool
is_plain (Plain e) = true
is_plain _ = false

-- the keys that single rows of a transition table have in the table's query
abbrev pub keys_query : Input → Query → Query
keys_query from query = record {
  items = filter (λ item. is_plain item.what) query.items;
  entries = from ∷ [];
  filter = query.filter;
  group = None;
}

-- of added, removed and replaced rows, these as they were and as they are
abbrev pub keys_queries : Query → List BoundQuery
keys_queries query =
    map (λ from. binds (keys_query from query)) (input.Inserted ∷ input.Deleted ∷ input.Old ∷ input.New ∷ [])

-- the function: it computes anew the rows of the table of this number whose keys the bound rows are
abbrev pub redo_function : TableDef → ℕ → Function
redo_function def table = record {
  name = keep_name def;
  steps = Redo table 0 ∷ [];
  bound = record { name = codes "delta_" ++ def.name; columns = key_columns def } ∷ [];
}

-- the rule: at each change of the table that the query reads
abbrev pub redo_rule : TableDef → Query → ℕ → Manner → Rule
redo_rule def query function manner = record (keep_rule def query function manner) { evaluate = keys_queries query }
