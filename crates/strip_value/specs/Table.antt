-- A table: a definition, and a list of rows in strictly rising key order.
use Rattle.std.specs.Prelude.{◌≡◌, ℕ, ◌≤◌, Bool, not, List, [], ◌∷◌, map, filter, find, get_or, length, nat_lt, if◌then◌else◌, pos, Option, Some, None}
use Rattle.std.specs.List.{AllByRecursion}
use Rattle.std.specs.declared.cmp.Ordering.{Ordering}
use Rattle.std.specs.declared.cmp.Ordering.TheVariants.{Less, Equal, Greater}
use Rattle.std.specs.Ordering.{is_eq}
use Rattle.strip_value.specs.declared.values.Value.{Value}
use Rattle.strip_value.specs.declared.values.Value.TheVariants.{Int}
use Rattle.strip_value.specs.declared.tables.TableDef.{TableDef}
use Rattle.strip_value.specs.Kinds.{FitsColumns}
use Rattle.strip_value.specs.Order.{row_cmp}

-- what contracts see of a table
pub record Keyed : Type 0 where
  pub def : TableDef
  pub rows : List (List Value)

-- the value of a column; one that the row hasn't counts as 0
abbrev pub column_of : List Value → ℕ → Value
column_of row c = get_or row c (Int (pos 0))

-- the values of the key columns, in the key's order
abbrev pub key_of : List ℕ → List Value → List Value
key_of columns row = map (column_of row) columns

-- the row's key is this one
abbrev pub has_key : List ℕ → List Value → List Value → Bool
has_key columns key row = is_eq (row_cmp (key_of columns row) key)

-- the first row is below the second by key
abbrev pub IsBelow : List ℕ → List Value → List Value → Type 0
IsBelow columns low high = row_cmp (key_of columns low) (key_of columns high) ≡ Less

-- the keys rise strictly
abbrev pub Rises : List ℕ → List (List Value) → Type 0
Rises columns [] = Unit {0}
Rises columns (row ∷ rows) = AllByRecursion (IsBelow columns row) rows × Rises columns rows

-- no more than the limit, where there is one
abbrev pub IsWithin : Option ℕ → ℕ → Type 0
IsWithin None count = Unit {0}
IsWithin (Some limit) count = count ≤ limit

-- these are rows of a table of this definition
pub record IsTable (def : TableDef) (rows : List (List Value)) : Type 0 where
  pub rises : Rises def.key rows
  pub fits : AllByRecursion (FitsColumns def.columns) rows
  pub within : IsWithin def.limit (length rows)

-- the row of a key
abbrev pub row_at : List ℕ → List (List Value) → List Value → Option (List Value)
row_at columns rows key = find (has_key columns key) rows

-- the rows but for the one of a key
abbrev pub without : List ℕ → List (List Value) → List Value → List (List Value)
without columns rows key = filter (λ row. not (has_key columns key row)) rows

-- a row before the first one, or the first one and what comes of the others
abbrev pub put_between : Ordering → List Value → List Value → List (List Value) → List (List Value) → List (List Value)
put_between Greater row first rows placed = first ∷ placed
put_between _ row first rows placed = row ∷ first ∷ rows

-- the rows with one more, before the first one that isn't below it by key
abbrev pub placed : List ℕ → List Value → List (List Value) → List (List Value)
placed columns row [] = row ∷ []
placed columns row (first ∷ rows) =
    put_between (row_cmp (key_of columns row) (key_of columns first)) row first rows (placed columns row rows)

-- the rows but for the one of this row's key, and this row, in key order
abbrev pub with_row : List ℕ → List (List Value) → List Value → List (List Value)
with_row columns rows row = placed columns row (without columns rows (key_of columns row))

-- the rows with this one in the place of the row of its key, if there is one
abbrev pub put_if : Option (List Value) → List (List Value) → List (List Value) → List (List Value)
put_if None rows changed = rows
put_if (Some old) rows changed = changed

abbrev pub put_back : List ℕ → List (List Value) → List Value → List (List Value)
put_back columns rows row = put_if (row_at columns rows (key_of columns row)) rows (with_row columns rows row)

-- the limit that one more row would pass; a row of a key that stands isn't one more
abbrev pub passed_limit : Option (List Value) → Option ℕ → ℕ → Option ℕ
passed_limit (Some old) limit count = None
passed_limit None None count = None
passed_limit None (Some limit) count = if nat_lt count limit then None else Some limit

-- the limit for which a row can't be put
abbrev pub full_at : Keyed → List Value → Option ℕ
full_at table row = passed_limit (row_at table.def.key table.rows (key_of table.def.key row)) table.def.limit (length table.rows)
