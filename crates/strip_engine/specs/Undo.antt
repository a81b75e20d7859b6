-- How changes in place are taken back: a list of them, the newest first.
use Rattle.std.specs.Prelude.{ℕ, List, [], ◌∷◌, map}
use Rattle.strip_value.specs.declared.changes.Change.{Change}
use Rattle.strip_value.specs.declared.changes.Shift.{Shift}
use Rattle.strip_value.specs.declared.changes.Shift.TheVariants.{Inserted, Deleted, Changed}
use Rattle.strip_value.specs.declared.tables.TableDef.{TableDef}
use Rattle.strip_value.specs.declared.values.Value.{Value}
use Rattle.strip_value.specs.Table.{Keyed, without, put_back}
use Rattle.strip_meaning.specs.Effect.{table_at, with_rows}
use Rattle.strip_engine.specs.declared.undo.Logged.{Logged}
use Rattle.strip_engine.specs.Changes.{ChangeFits}

-- a new row goes, a row that was replaced comes back; no act deletes rows yet
abbrev pub restored_by : ℕ → List Value → Shift → List Keyed → List Keyed
restored_by id key (Inserted row) tables = with_rows tables id (without (table_at tables id).def.key (table_at tables id).rows key)
restored_by id key (Deleted row) tables = tables
restored_by id key (Changed old new) tables = with_rows tables id (put_back (table_at tables id).def.key (table_at tables id).rows old)

abbrev pub restored : Logged → List Keyed → List Keyed
restored l tables = restored_by l.change.table l.key l.change.shift tables

abbrev pub all_restored : List Logged → List Keyed → List Keyed
all_restored [] tables = tables
all_restored (l ∷ ls) tables = all_restored ls (restored l tables)

-- the changes of a log
abbrev pub changes_of : List Logged → List Change
changes_of log = map (λ l. l.change) log

-- what is to be restored are rows of these tables
abbrev pub IsLogged : List TableDef → Logged → Type 0
IsLogged defs l = ChangeFits defs l.change
