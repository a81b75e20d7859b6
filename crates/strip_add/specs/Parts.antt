-- What the steps of adding say.
use Rattle.std.specs.Prelude.{◌≡◌, ℕ, ◌^◌, ℤ, pos, Bool, false, not, List, [], ◌∷◌, map, take, drop, length, Option, Some, None, if◌then◌else◌}
use Rattle.std.specs.List.{AllByRecursion}
use Rattle.strip_value.specs.declared.values.Value.{Value}
use Rattle.strip_value.specs.declared.tables.TableDef.{TableDef}
use Rattle.strip_value.specs.Table.{Keyed, key_of, Rises, row_at, with_row, without, put_back}
use Rattle.strip_meaning.specs.Sums.{number_of, plus, totals_at, totals_of, IsUnder, any_total, has_total, summed}

abbrev pub numbers : List Value → List ℤ
numbers = map number_of

-- what stands behind so many values of a row that may be there
abbrev pub behind : ℕ → Option (List Value) → List Value
behind width (Some row) = drop width row
behind width None = []

-- the table's totals and those of this row add up to numbers of kind `big`
abbrev pub IsUnderAfter : TableDef → List (List Value) → List Value → Type 0
IsUnderAfter def table row = AllByRecursion (IsUnder (2 ^ 126)) (plus (totals_at def table (key_of def.key row)) (totals_of def row))

-- the first number; 0 where there is none
abbrev pub first_number : List Value → ℤ
first_number [] = pos 0
first_number (v ∷ vs) = number_of v

-- what a named row makes of its key, or what was there
abbrev pub chosen : (List Value → Option (List Value)) → Option (List Value) → Option (List Value) → Option (List Value)
chosen f (Some row) was = f row
chosen f None was = was

-- the rows after changes at the keys of the named rows
pub record Changed (columns : List ℕ) (f : List Value → Option (List Value)) (before now named : List (List Value)) : Type 0 where
  pub rises : Rises columns now
  pub each : (key : List Value) → row_at columns now key ≡ chosen f (row_at columns named key) (row_at columns before key)

-- the row of sums, to be put
abbrev pub sum_at : TableDef → List (List Value) → List Value → Option (List Value)
sum_at def table row = Some (summed def table row)

-- a row that has a total which isn't zero
abbrev pub swept_row : TableDef → Option (List Value) → Option (List Value)
swept_row def (Some row) = if has_total def row then Some row else None
swept_row def None = None

-- the row of the key, if one of its totals isn't zero
abbrev pub swept_at : TableDef → List (List Value) → List Value → Option (List Value)
swept_at def rows row = swept_row def (row_at def.key rows (key_of def.key row))

-- there is a row, and all its totals are zero
abbrev pub is_zero_at : ℕ → Option (List Value) → Bool
is_zero_at width (Some row) = not (any_total (numbers (drop width row)))
is_zero_at width None = false

-- the rows but for the one of the key, if its totals are all zero
abbrev pub swept : TableDef → List (List Value) → List Value → List (List Value)
swept def rows key = if is_zero_at (length def.key) (row_at def.key rows key) then without def.key rows key else rows

-- the row of a slot is put, and the slot has the row that it replaced
abbrev pub PutsSlot : Keyed → Option (List Value) → Keyed → Option (List Value) → Type 0
PutsSlot old (Some row) new left = (new ≡ record old { rows = with_row old.def.key old.rows row }) × (left ≡ row_at old.def.key old.rows (key_of old.def.key row))
PutsSlot old None new left = new ≡ old

-- the row that was replaced is put back, or the one of the key goes
abbrev pub TakesBack : Keyed → List Value → Option (List Value) → Keyed → Type 0
TakesBack old row (Some was) new = new ≡ record old { rows = put_back old.def.key old.rows was }
TakesBack old row None new = new ≡ record old { rows = without old.def.key old.rows (take (length old.def.key) row) }
