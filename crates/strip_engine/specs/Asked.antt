-- Which acts the engine serves, and what it reads for a query.
use Rattle.std.specs.Prelude.{◌≡◌, ℕ, ◌<◌, ◌^◌, true, not, ◌||◌, Bool, List, [], ◌∷◌, filter, length, Option, Some, None}
use Rattle.strip_value.specs.declared.acts.Act.{Act}
use Rattle.strip_value.specs.declared.acts.Act.TheVariants.{Put, Select, Show}
use Rattle.strip_value.specs.declared.acts.Holds.{Holds}
use Rattle.strip_value.specs.declared.queries.Input.{Input}
use Rattle.strip_value.specs.declared.queries.Input.TheVariants as input
use Rattle.strip_value.specs.declared.queries.Place.{Place}
use Rattle.strip_value.specs.declared.tables.TableDef.{TableDef}
use Rattle.strip_value.specs.Query.{Environment, nothing_moved, rows_at}
use Rattle.strip_value.specs.Table.{Keyed}
use Rattle.strip_acts.specs.Suiting.{suits_query}
use Rattle.strip_meaning.specs.Effect.{has_id, least, tables_asked}

-- the act is one that is built, the tables that it names are there, and a query suits them
abbrev pub IsAsked : List TableDef → Act → Type 0
IsAsked tables (Put id row) = id < length tables
IsAsked tables (Select query) = suits_query tables query ≡ true
IsAsked tables (Show id) = id < length tables
IsAsked tables _ = ⊥

-- the table is held neither to write nor to read
abbrev pub is_unheld : Holds → ℕ → Bool
is_unheld holds id = not (has_id holds.write id || has_id holds.read id)

-- the smallest such table that these entries read
abbrev pub least_unheld : Holds → List Input → Option ℕ
least_unheld holds entries = least (filter (is_unheld holds) (tables_asked entries))

-- the tables as they stand, and nothing else
abbrev pub standing : List Keyed → Environment
standing tables = record { now = tables; before = []; moved = nothing_moved }

-- a query with groups has one entry, a table of fewer than 2^62 rows
abbrev pub CanCount : Option (List Place) → List Input → List Keyed → Type 0
CanCount None entries tables = Unit {0}
CanCount (Some places) (input.Table id ∷ []) tables = length (rows_at tables id) < 2 ^ 62
CanCount (Some places) _ tables = ⊥
