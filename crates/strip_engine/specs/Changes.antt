-- Changes of rows: that they are of rows of the tables, and what they bind for a derived table.
use Rattle.std.specs.Prelude.{ℕ, ◌+◌, ◌<◌, ◌==◌, if◌then◌else◌, pos, neg_ℤ, List, [], ◌∷◌, ◌++◌, map, length, Option, Some, None}
use Rattle.strip_value.specs.declared.actions.Bound.{Bound}
use Rattle.strip_value.specs.declared.actions.FiredRule.{FiredRule}
use Rattle.strip_value.specs.declared.changes.Change.{Change}
use Rattle.strip_value.specs.declared.changes.Shift.{Shift}
use Rattle.strip_value.specs.declared.changes.Shift.TheVariants.{Inserted, Deleted, Changed}
use Rattle.strip_value.specs.declared.tables.ColumnDef.{ColumnDef}
use Rattle.strip_value.specs.declared.tables.TableDef.{TableDef}
use Rattle.strip_value.specs.declared.values.Value.{Value}
use Rattle.strip_value.specs.declared.values.Value.TheVariants.{Int}
use Rattle.strip_value.specs.Kinds.{FitsColumns}
use Rattle.strip_value.specs.Query.{in_order, number_of}
use Rattle.strip_value.specs.Table.{column_of}
use Rattle.strip_meaning.specs.Contents.{def_at}
use Rattle.strip_model.specs.Derived.{with_fired}
use Rattle.strip_engine.specs.declared.deltas.Side.{Side}
use Rattle.strip_engine.specs.declared.deltas.Side.TheVariants as side
use Rattle.strip_engine.specs.declared.keepers.Keeper.{Keeper}

-- ---- rows of the tables

-- the rows have the kinds of the columns
abbrev pub ShiftFits : List ColumnDef → Shift → Type 0
ShiftFits columns (Inserted row) = FitsColumns columns row
ShiftFits columns (Deleted row) = FitsColumns columns row
ShiftFits columns (Changed old new) = FitsColumns columns old × FitsColumns columns new

-- the change is one of rows of a table among these
pub record ChangeFits (defs : List TableDef) (change : Change) : Type 0 where
  pub there : change.table < length defs
  pub fits : ShiftFits (def_at defs change.table).columns change.shift

-- ---- what they bind

-- the row that came or went, if it did so in this way
abbrev pub moved_row : Side → Shift → Option (List Value)
moved_row side.Inserted (Inserted row) = Some row
moved_row side.Deleted (Deleted row) = Some row
moved_row side.Old (Changed old new) = Some old
moved_row side.New (Changed old new) = Some new
moved_row _ _ = None

-- a row of the derived table for a row that comes, and for one that goes
abbrev pub coming_row : Keeper → List Value → List Value
coming_row k row = column_of row k.group ∷ Int (number_of (column_of row k.value)) ∷ Int (pos 1) ∷ []

abbrev pub going_row : Keeper → List Value → List Value
going_row k row = column_of row k.group ∷ Int (neg_ℤ (number_of (column_of row k.value))) ∷ Int (neg_ℤ (pos 1)) ∷ []

abbrev pub delta_row : Side → Keeper → List Value → List Value
delta_row side.Inserted k row = coming_row k row
delta_row side.Deleted k row = going_row k row
delta_row side.Old k row = going_row k row
delta_row side.New k row = coming_row k row

-- a row before others, if there is one
abbrev pub with_delta : Side → Keeper → Option (List Value) → List (List Value) → List (List Value)
with_delta s k None others = others
with_delta s k (Some row) others = delta_row s k row ∷ others

-- the rows for what came or went in this way in the table that the derived one is made of, in the order of the changes
abbrev pub deltas : Side → Keeper → List Change → List (List Value)
deltas s k [] = []
deltas s k (c ∷ cs) = with_delta s k (if c.table == k.source then moved_row s c.shift else None) (deltas s k cs)

-- rows bound to the one bound table, without key values
abbrev pub bound_rows : List (List Value) → List Bound
bound_rows rows = map (λ row. record { bound = 0; key = []; row = row }) rows

-- what the rule of a derived table binds: for added, removed, old and new rows, each in row order
abbrev pub bound_by : Keeper → List Change → List Bound
bound_by k cs =
    bound_rows (in_order (deltas side.Inserted k cs)) ++ bound_rows (in_order (deltas side.Deleted k cs)) ++ bound_rows (in_order (deltas side.Old k cs)) ++ bound_rows (in_order (deltas side.New k cs))

-- what each rule binds that binds a row, the first rule having this number
abbrev pub fired_by : ℕ → List Keeper → List Change → List FiredRule
fired_by number [] cs = []
fired_by number (k ∷ ks) cs = with_fired number (bound_by k cs) (fired_by (number + 1) ks cs)
