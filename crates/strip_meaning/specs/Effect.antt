-- What an act does: the tables after it, its reply, and the changes of rows. An act is all or nothing.
use Rattle.std.specs.Prelude.{ℕ, ◌+◌, ◌^◌, min, Bool, true, false, not, ◌&&◌, ◌||◌, ◌==◌, if◌then◌else◌, int_le, int_lt, neg_ℤ, pos, List, [], ◌∷◌, ◌++◌, filter, filter_map, get_or, option_map, set, Option, Some, None, is_some}
use Rattle.std.specs.List.{list_any}
use Rattle.strip_value.specs.declared.acts.Act.{Act}
use Rattle.strip_value.specs.declared.acts.Act.TheVariants.{Put, Select, Show}
use Rattle.strip_value.specs.declared.acts.ActError.{ActError}
use Rattle.strip_value.specs.declared.acts.ActError.TheVariants.{NotHeld, ReadOnly, Derived, KindMismatch, OutOfRange, Full}
use Rattle.strip_value.specs.declared.acts.Holds.{Holds}
use Rattle.strip_value.specs.declared.acts.Reply.{Reply}
use Rattle.strip_value.specs.declared.acts.Reply.TheVariants.{Rows, Count, Refused}
use Rattle.strip_value.specs.declared.changes.Change.{Change}
use Rattle.strip_value.specs.declared.changes.Shift.{Shift}
use Rattle.strip_value.specs.declared.changes.Shift.TheVariants.{Inserted, Changed}
use Rattle.strip_value.specs.declared.kinds.Kind.{Kind}
use Rattle.strip_value.specs.declared.kinds.Kind.TheVariants as kind
use Rattle.strip_value.specs.declared.queries.Input.{Input}
use Rattle.strip_value.specs.declared.queries.Input.TheVariants as input
use Rattle.strip_value.specs.declared.tables.ColumnDef.{ColumnDef}
use Rattle.strip_value.specs.declared.tables.TableDef.{TableDef}
use Rattle.strip_value.specs.declared.values.Value.{Value}
use Rattle.strip_value.specs.declared.values.Value.TheVariants.{Int, Text}
use Rattle.strip_value.specs.Query.{mean_now}
use Rattle.strip_value.specs.Table.{Keyed, key_of, row_at, with_row, full_at}

-- the table of a number that is no table's
abbrev pub no_table : Keyed
no_table = record { def = record { name = []; columns = []; key = []; limit = None; query = None; kept = None; declared = false }; rows = [] }

-- the table of a number
abbrev pub table_at : List Keyed → ℕ → Keyed
table_at tables id = get_or tables id no_table

-- the tables with other rows in one of them
abbrev pub with_rows : List Keyed → ℕ → List (List Value) → List Keyed
with_rows tables id rows = set tables id (record (table_at tables id) { rows = rows })

-- the list has the number
abbrev pub has_id : List ℕ → ℕ → Bool
has_id ids id = list_any (λ one. one == id) ids

-- the table is held neither to write nor to read
abbrev pub not_held : Holds → ℕ → Option ActError
not_held holds id = if has_id holds.write id || has_id holds.read id then None else Some (NotHeld id)

-- the table that an entry of a query reads as it stands
abbrev pub table_asked : Input → Option ℕ
table_asked (input.Table id) = Some id
table_asked _ = None

-- the tables that a query reads as they stand, one for each entry
abbrev pub tables_asked : List Input → List ℕ
tables_asked entries = filter_map table_asked entries

-- the smaller of two numbers, or the one that is there
abbrev pub smaller : Option ℕ → Option ℕ → Option ℕ
smaller None other = other
smaller (Some id) None = Some id
smaller (Some id) (Some other) = Some (min id other)

-- the smallest of the numbers
abbrev pub least : List ℕ → Option ℕ
least [] = None
least (id ∷ ids) = smaller (Some id) (least ids)

-- the smallest of the tables that is held neither to write nor to read
abbrev pub one_not_held : Holds → List ℕ → Option ActError
one_not_held holds ids = option_map NotHeld (least (filter (λ id. not (has_id holds.write id || has_id holds.read id)) ids))

-- the table isn't held to write
abbrev pub read_only : Holds → ℕ → Option ActError
read_only holds id = if has_id holds.write id then None else Some (ReadOnly id)

-- the table is kept by rules
abbrev pub derived : TableDef → ℕ → Option ActError
derived def id = if is_some def.query then Some (Derived id) else None

-- numbers match every kind of numbers, whatever their size
abbrev pub is_alike : Kind → Value → Bool
is_alike kind.Text (Int n) = false
is_alike kind.Text (Text t) = true
is_alike kind.Int (Int n) = true
is_alike kind.Int (Text t) = false
is_alike kind.Big (Int n) = true
is_alike kind.Big (Text t) = false

-- a number of an `int` column isn't in its range
abbrev pub is_outside : Kind → Value → Bool
is_outside kind.Int (Int n) = not (int_le (neg_ℤ (pos (2 ^ 31))) n && int_lt n (pos (2 ^ 31)))
is_outside _ _ = false

-- the first of two causes that is there
abbrev pub or_cause : Option ActError → Option ActError → Option ActError
or_cause None second = second
or_cause (Some cause) second = Some cause

-- the first column, counted on from c, for which the row has no value of the right kind; a row with more values than
-- columns has none for the column after the last
abbrev pub kind_mismatch : ℕ → List ColumnDef → List Value → Option ActError
kind_mismatch c [] [] = None
kind_mismatch c [] (v ∷ vs) = Some (KindMismatch c)
kind_mismatch c (d ∷ ds) [] = Some (KindMismatch c)
kind_mismatch c (d ∷ ds) (v ∷ vs) =
    or_cause (if is_alike d.kind v then None else Some (KindMismatch c)) (kind_mismatch (c + 1) ds vs)

-- why a value is outside its column's range
abbrev pub outside_at : ℕ → Kind → Value → Option ActError
outside_at c k (Text t) = None
outside_at c k (Int n) = if is_outside k (Int n) then Some (OutOfRange c n) else None

-- the first column, counted on from c, whose number isn't in the range of its kind
abbrev pub out_of_range : ℕ → List ColumnDef → List Value → Option ActError
out_of_range c [] vs = None
out_of_range c (d ∷ ds) [] = None
out_of_range c (d ∷ ds) (v ∷ vs) = or_cause (outside_at c d.kind v) (out_of_range (c + 1) ds vs)

-- the table can't have a row more
abbrev pub full : ℕ → Option ℕ → Option ActError
full id None = None
full id (Some limit) = Some (Full id limit)

-- why the values of a row aren't those of a table
abbrev pub misfit : List ColumnDef → List Value → Option ActError
misfit columns row = or_cause (kind_mismatch 1 columns row) (out_of_range 1 columns row)

-- why an act is refused: the first cause that applies. Of acts this has those that are built, `Put`, `Select` and `Show`
abbrev pub refusal : Holds → List Keyed → Act → Option ActError
refusal holds tables (Put id row) =
    or_cause (not_held holds id) (or_cause (read_only holds id) (or_cause (derived (table_at tables id).def id) (or_cause (misfit (table_at tables id).def.columns row) (full id (full_at (table_at tables id) row)))))
refusal holds tables (Select query) = one_not_held holds (tables_asked query.entries)
refusal holds tables (Show id) = not_held holds id
refusal holds tables _ = None

pub record Effect : Type 0 where
  pub tables : List Keyed
  pub reply : Reply
  pub changes : List Change

-- a row that is put replaces the one of its key, or is new
abbrev pub put_shift : Option (List Value) → List Value → Shift
put_shift None row = Inserted row
put_shift (Some old) row = Changed old row

-- what an act does that isn't refused; one that isn't built does nothing
abbrev pub done : List Keyed → Act → Effect
done tables (Put id row) = record {
  tables = with_rows tables id (with_row (table_at tables id).def.key (table_at tables id).rows row);
  reply = Count 1;
  changes = record { table = id; shift = put_shift (row_at (table_at tables id).def.key (table_at tables id).rows (key_of (table_at tables id).def.key row)) row } ∷ [];
}
done tables (Select query) = record { tables = tables; reply = Rows (mean_now query tables); changes = [] }
done tables (Show id) = record { tables = tables; reply = Rows (table_at tables id).rows; changes = [] }
done tables _ = record { tables = tables; reply = Count 0; changes = [] }

-- a refused act changes nothing
abbrev pub unless : Option ActError → List Keyed → Effect → Effect
unless None tables effect = effect
unless (Some cause) tables effect = record { tables = tables; reply = Refused cause; changes = [] }

-- what an act does to tables of which the holds are held
unfoldable pub effect : Holds → List Keyed → Act → Effect
effect holds tables act = unless (refusal holds tables act) tables (done tables act)

-- what acts do one after another, the newest first in the list: the last tables, all replies and all changes
pub record Run : Type 0 where
  pub tables : List Keyed
  pub replies : List Reply
  pub changes : List Change

-- one act more
abbrev pub one_more : Run → Effect → Run
one_more before effect = record { tables = effect.tables; replies = effect.reply ∷ before.replies; changes = before.changes ++ effect.changes }

abbrev pub run : Holds → List Keyed → List Act → Run
run holds tables [] = record { tables = tables; replies = []; changes = [] }
run holds tables (act ∷ earlier) =
    let before = run holds tables earlier in
    one_more before (effect holds before.tables act)
