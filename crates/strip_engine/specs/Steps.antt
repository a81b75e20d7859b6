-- What the steps of an act do to the tables and to the log of what to restore.
use Rattle.std.specs.Prelude.{◌≡◌, ℕ, List, [], ◌∷◌, ◌++◌, map, reverse, Option, Some, None, Result, Ok, Err}
use Rattle.std.specs.declared.alloc.AllocError.{AllocError}
use Rattle.std.specs.List.{AllByRecursion}
use Rattle.strip_value.specs.declared.acts.Act.{Act}
use Rattle.strip_value.specs.declared.acts.Act.TheVariants.{Put}
use Rattle.strip_value.specs.declared.acts.ActError.{ActError}
use Rattle.strip_value.specs.declared.acts.Holds.{Holds}
use Rattle.strip_value.specs.declared.acts.Reply.{Reply}
use Rattle.strip_value.specs.declared.tables.TableDef.{TableDef}
use Rattle.strip_value.specs.declared.values.Value.{Value}
use Rattle.strip_value.specs.Table.{Keyed, key_of, row_at, with_row, full_at}
use Rattle.strip_meaning.specs.Effect.{effect, refusal, done, full, put_shift}
use Rattle.strip_model.specs.declared.entries.Entry.{Entry}
use Rattle.strip_model.specs.declared.entries.Entry.TheVariants.{Did}
use Rattle.strip_engine.specs.declared.undo.Logged.{Logged}
use Rattle.strip_engine.specs.declared.undo.Session.{Session}
use Rattle.strip_engine.specs.Built.{IsTableOf}
use Rattle.strip_engine.specs.Undo.{all_restored, changes_of, IsLogged}

-- each is a base table or a derived one of these
abbrev pub AreTables : List TableDef → Type 0
AreTables defs = AllByRecursion (IsTableOf defs) defs

abbrev pub defs_of : List Keyed → List TableDef
defs_of tables = map (λ table. table.def) tables

-- what is written down of a put
abbrev pub logged_put : ℕ → List Value → Option (List Value) → List Value → Logged
logged_put id key old row = record { key = key; change = record { table = id; shift = put_shift old row } }

-- a put into one table
abbrev pub PutsInto : Keyed → List Logged → ℕ → List Value → Keyed → List Logged → Result (Option ActError) AllocError → Type 0
PutsInto old was id row new now (Ok None) =
    (full_at old row ≡ None)
    × (new ≡ record old { rows = with_row old.def.key old.rows row })
    × (now ≡ was ++ logged_put id (key_of old.def.key row) (row_at old.def.key old.rows (key_of old.def.key row)) row ∷ [])
PutsInto old was id row new now (Ok (Some cause)) = (full id (full_at old row) ≡ Some cause) × (new ≡ old) × (now ≡ was)
PutsInto old was id row new now (Err none) = (new ≡ old) × (now ≡ was)

-- the tables and the log after a change that can be taken back
pub record Changes (old new : List Keyed) (was now : List Logged) : Type 0 where
  pub restores : AllByRecursion (IsLogged (defs_of old)) was → AllByRecursion (IsLogged (defs_of old)) now
  pub undoes : all_restored (reverse now) new ≡ all_restored (reverse was) old
  pub defined : defs_of new ≡ defs_of old

-- a put among the tables: done, refused or not tried
abbrev pub PutsRow : Holds → List Keyed → List Logged → ℕ → List Value → List Keyed → List Logged → Result (Option ActError) AllocError → Type 0
PutsRow holds old was id row new now (Ok None) =
    (refusal holds old (Put id row) ≡ None)
    × (new ≡ (done old (Put id row)).tables)
    × Changes old new was now
    × (changes_of now ≡ changes_of was ++ (done old (Put id row)).changes)
PutsRow holds old was id row new now (Ok (Some cause)) = (refusal holds old (Put id row) ≡ Some cause) × (new ≡ old) × (now ≡ was)
PutsRow holds old was id row new now (Err none) = (new ≡ old) × (now ≡ was)

-- an act among the tables, its reply made twice; where memory is wanting nothing has changed
abbrev pub RepliesTo : Holds → List Keyed → List Logged → Act → List Keyed → List Logged → Result (Reply × Reply) AllocError → Type 0
RepliesTo holds old was act new now (Ok both) =
    (both.0 ≡ (effect holds old act).reply)
    × (both.1 ≡ (effect holds old act).reply)
    × (new ≡ (effect holds old act).tables)
    × Changes old new was now
    × (changes_of now ≡ changes_of was ++ (effect holds old act).changes)
RepliesTo holds old was act new now (Err none) = (new ≡ old) × (now ≡ was)

-- an act of a session: its entry stands in the history
abbrev pub Performs : Session → List Keyed → List Entry → Act → Session → List Keyed → List Entry → Result Reply AllocError → Type 0
Performs session old entries act after new grown (Ok reply) =
    (reply ≡ (effect session.holds old act).reply)
    × (new ≡ (effect session.holds old act).tables)
    × (grown ≡ entries ++ Did session.caller session.number act (effect session.holds old act).reply ∷ [])
    × Changes old new session.log.items after.log.items
    × (changes_of after.log.items ≡ changes_of session.log.items ++ (effect session.holds old act).changes)
Performs session old entries act after new grown (Err none) =
    (new ≡ old) × (grown ≡ entries) × (after.log.items ≡ session.log.items)

-- the same session
pub record SameSession (old new : Session) : Type 0 where
  pub caller : new.caller ≡ old.caller
  pub number : new.number ≡ old.number
  pub holds : new.holds ≡ old.holds
