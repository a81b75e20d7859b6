-- Sums of totals per key, and a derived table after sums are added.
use Rattle.std.specs.Prelude.{◌≡◌, ℕ, ◌+◌, ◌-◌, ◌≤◌, Bool, not, ℤ, pos, neg_ℤ, ◌+ℤ◌, ◌<ℤ◌, ◌≤ℤ◌, List, [], ◌∷◌, ◌++◌, map, drop, length, replicate, Option, Some, None, is_some, if◌then◌else◌}
use Rattle.std.specs.List.{AllByRecursion, list_any}
use Rattle.std.specs.Ordering.{int_eq}
use Rattle.strip_value.specs.declared.kinds.Kind.TheVariants as kind
use Rattle.strip_value.specs.declared.tables.ColumnDef.{ColumnDef}
use Rattle.strip_value.specs.declared.tables.TableDef.{TableDef}
use Rattle.strip_value.specs.declared.values.Value.{Value}
use Rattle.strip_value.specs.declared.values.Value.TheVariants.{Int, Text}
use Rattle.strip_value.specs.Table.{column_of, key_of, has_key, row_at, with_row, without}

-- the numbers count up by one from this number
abbrev pub CountsUp : ℕ → List ℕ → Type 0
CountsUp n [] = Unit {0}
CountsUp n (c ∷ cs) = (c ≡ n) × CountsUp (n + 1) cs

-- a derived table's key is its first columns, its other columns are totals, and it has no limit
pub record IsDerived (def : TableDef) : Type 0 where
  pub key_first : CountsUp 0 def.key
  pub key_within : length def.key ≤ length def.columns
  pub totals : AllByRecursion (λ (c : ColumnDef). c.kind ≡ kind.Big) (drop (length def.key) def.columns)
  pub unlimited : def.limit ≡ None

-- a row as a row of a derived table: the named columns, in the order of the derived table's
abbrev pub as_derived : List ℕ → List Value → List Value
as_derived from row = map (column_of row) from

abbrev pub number_of : Value → ℤ
number_of (Int n) = n
number_of (Text t) = pos 0

-- the totals of a derived table's row: its numbers after the key
abbrev pub totals_of : TableDef → List Value → List ℤ
totals_of def row = map number_of (drop (length def.key) row)

-- the row of a key and its totals
abbrev pub row_of : List Value → List ℤ → List Value
row_of key totals = key ++ map Int totals

-- numbers added place by place
abbrev pub plus : List ℤ → List ℤ → List ℤ
plus [] two = two
plus (a ∷ one) [] = a ∷ one
plus (a ∷ one) (b ∷ two) = (a +ℤ b) ∷ plus one two

-- a zero for each total
abbrev pub zeros : TableDef → List ℤ
zeros def = replicate (length def.columns - length def.key) (pos 0)

-- the sums of a key: over all rows that have it, the sum of their totals
abbrev pub sums_at : TableDef → List (List Value) → List Value → List ℤ
sums_at def [] key = zeros def
sums_at def (row ∷ rows) key =
    let others = sums_at def rows key in
    if has_key def.key key row then plus (totals_of def row) others else others

-- for each key that one of these rows has, the key and its sums over all rows, by rising key
abbrev pub keys_with_sums : TableDef → List (List Value) → List (List Value) → List (List Value)
keys_with_sums def all [] = []
keys_with_sums def all (row ∷ rows) =
    let key = key_of def.key row in
    with_row def.key (keys_with_sums def all rows) (row_of key (sums_at def all key))

-- each key that a row has, with its sums, by rising key
abbrev pub folded : TableDef → List (List Value) → List (List Value)
folded def rows = keys_with_sums def rows rows

-- the totals of a row that may be there
abbrev pub totals_or : TableDef → Option (List Value) → List ℤ
totals_or def (Some row) = totals_of def row
totals_or def None = zeros def

-- the totals that a table has for a key; zeros where it has no row
abbrev pub totals_at : TableDef → List (List Value) → List Value → List ℤ
totals_at def rows key = totals_or def (row_at def.key rows key)

-- one of these numbers isn't zero
abbrev pub any_total : List ℤ → Bool
any_total totals = list_any (λ total. not (int_eq total (pos 0))) totals

-- one of the row's totals isn't zero
abbrev pub has_total : TableDef → List Value → Bool
has_total def row = any_total (totals_of def row)

-- the row of a key, with the totals that the table has for it and those of this row added
abbrev pub summed : TableDef → List (List Value) → List Value → List Value
summed def table row =
    let key = key_of def.key row in
    row_of key (plus (totals_at def table key) (totals_of def row))

-- the rows with this one in the place of the one of its key; with none there where its totals are all zero
abbrev pub settled : TableDef → List (List Value) → List Value → List (List Value)
settled def rows row = if has_total def row then with_row def.key rows row else without def.key rows (key_of def.key row)

-- a table's rows after totals are added: for each key of the totals the sums of the table's totals and of these, and
-- a row exactly where one of the sums isn't zero; the rows of other keys stay
abbrev pub applied : TableDef → List (List Value) → List (List Value) → List (List Value)
applied def table [] = table
applied def table (row ∷ totals) = settled def (applied def table totals) (summed def table row)

-- a number is strictly between -bound and bound
abbrev pub IsUnder : ℕ → ℤ → Type 0
IsUnder bound n = (neg_ℤ (pos bound) <ℤ n) × (n <ℤ pos bound)

-- a number is at most so great, or so far below zero
abbrev pub IsUpTo : ℕ → ℤ → Type 0
IsUpTo most n = (neg_ℤ (pos most) ≤ℤ n) × (n ≤ℤ pos most)

-- a table has a row of a key exactly where one of the key's totals isn't zero
abbrev pub IsShown : TableDef → List (List Value) → Type 0
IsShown def rows = (key : List Value) → is_some (row_at def.key rows key) ≡ any_total (totals_at def rows key)
