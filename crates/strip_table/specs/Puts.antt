-- What the calls that change a table answer, and the table after them.
use Rattle.std.specs.Prelude.{◌≡◌, ℕ, List, Option, Some, None, Result, Ok, Err, nat_lt, if◌then◌else◌, length}
use Rattle.strip_value.specs.declared.values.Value.{Value}
use Rattle.strip_value.specs.Table.{Keyed, key_of, row_at, with_row, without, full_at, passed_limit}
use Rattle.strip_table.specs.declared.table.PutError.{PutError}
use Rattle.strip_table.specs.declared.table.PutError.TheVariants.{Full, Memory}

-- a put answers the row that it replaced; it is refused where the key is new and the table is full, and there it is
-- refused without a need of memory
abbrev pub Puts : Keyed → List Value → Keyed → Result (Option (List Value)) PutError → Type 0
Puts old row new (Ok replaced) =
    (full_at old row ≡ None)
    × (replaced ≡ row_at old.def.key old.rows (key_of old.def.key row))
    × (new ≡ record old { rows = with_row old.def.key old.rows row })
Puts old row new (Err (Full limit)) = (full_at old row ≡ Some limit) × (new ≡ old)
Puts old row new (Err Memory) = (full_at old row ≡ None) × (new ≡ old)

-- the same of the rows alone
abbrev pub PutsRow : List ℕ → Option ℕ → List (List Value) → List Value → List (List Value) → Result (Option (List Value)) PutError → Type 0
PutsRow columns limit old row new (Ok replaced) =
    (passed_limit (row_at columns old (key_of columns row)) limit (length old) ≡ None)
    × (replaced ≡ row_at columns old (key_of columns row))
    × (new ≡ with_row columns old row)
PutsRow columns limit old row new (Err (Full most)) =
    (passed_limit (row_at columns old (key_of columns row)) limit (length old) ≡ Some most) × (new ≡ old)
PutsRow columns limit old row new (Err Memory) =
    (passed_limit (row_at columns old (key_of columns row)) limit (length old) ≡ None) × (new ≡ old)

-- the limit that this many rows have reached
abbrev pub reached : Option ℕ → ℕ → Option ℕ
reached limit count = passed_limit None limit count

-- a removal answers the row that it took out
abbrev pub Removes : Keyed → List Value → Keyed → Option (List Value) → Type 0
Removes old key new removed =
    (removed ≡ row_at old.def.key old.rows key) × (new ≡ record old { rows = without old.def.key old.rows key })
