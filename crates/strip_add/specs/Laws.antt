-- The laws of sums per key.
use Rattle.std.specs.Prelude.{◌≡◌, ℕ, ◌*◌, ◌^◌, ◌<◌, List, ◌++◌, length, Some, is_some}
use Rattle.std.specs.List.{AllByRecursion}
use Rattle.strip_value.specs.declared.values.Value.{Value}
use Rattle.strip_value.specs.declared.tables.TableDef.{TableDef}
use Rattle.strip_value.specs.Kinds.{FitsColumns}
use Rattle.strip_value.specs.Table.{IsTable, Rises, row_at}
use Rattle.strip_meaning.specs.Sums.{IsDerived, IsShown, IsUnder, IsUpTo, any_total, applied, folded, plus, sums_at, totals_at, totals_of}

-- a derived table, and totals that can be added to it
pub record CanBeAdded (def : TableDef) (table totals : List (List Value)) : Type 0 where
  pub derived : IsDerived def
  pub is_table : IsTable def table
  pub kinds : AllByRecursion (FitsColumns def.columns) totals

-- after adding, the totals of a key are those before and those added
abbrev pub AddingAdds : Type 0
AddingAdds =
    (def : TableDef) (table totals : List (List Value)) (key : List Value) → CanBeAdded def table totals → totals_at def (applied def table totals) key ≡ plus (totals_at def table key) (totals_at def totals key)

-- where each row of the table had a total that isn't zero, each has one after
abbrev pub AddingShows : Type 0
AddingShows = (def : TableDef) (table totals : List (List Value)) → CanBeAdded def table totals → IsShown def table → IsShown def (applied def table totals)

-- a key of the totals has a row exactly where one of its totals isn't zero, whatever the table was
abbrev pub AddingShowsNamed : Type 0
AddingShowsNamed =
    (def : TableDef) (table totals : List (List Value)) (key row : List Value) → CanBeAdded def table totals → row_at def.key totals key ≡ Some row → is_some (row_at def.key (applied def table totals) key) ≡ any_total (totals_at def (applied def table totals) key)

abbrev pub AddedRowsRise : Type 0
AddedRowsRise = (def : TableDef) (table totals : List (List Value)) → CanBeAdded def table totals → Rises def.key (applied def table totals)

-- the totals of a key in what is folded are the sums over all rows of the key
abbrev pub FoldsSum : Type 0
FoldsSum = (def : TableDef) (rows : List (List Value)) (key : List Value) → IsDerived def → totals_at def (folded def rows) key ≡ sums_at def rows key

-- of two lists, one after the other, they are the sums of both
abbrev pub FoldsAppend : Type 0
FoldsAppend =
    (def : TableDef) (one two : List (List Value)) (key : List Value) → IsDerived def → AllByRecursion (FitsColumns def.columns) two → totals_at def (folded def (one ++ two)) key ≡ plus (totals_at def (folded def one) key) (totals_at def (folded def two) key)

abbrev pub FoldedRowsRise : Type 0
FoldedRowsRise = (def : TableDef) (rows : List (List Value)) → IsDerived def → Rises def.key (folded def rows)

-- every total of the rows is under a bound
abbrev pub AllUnder : TableDef → ℕ → List (List Value) → Type 0
AllUnder def bound rows = AllByRecursion (λ row. AllByRecursion (IsUnder bound) (totals_of def row)) rows

-- what is folded of fewer than 2^62 rows with totals under 2^63 is of the table's kinds
abbrev pub FoldedRowsFit : Type 0
FoldedRowsFit =
    (def : TableDef) (rows : List (List Value)) → IsDerived def → AllByRecursion (FitsColumns def.columns) rows → length rows < 2 ^ 62 → AllUnder def (2 ^ 63) rows → AllByRecursion (FitsColumns def.columns) (folded def rows)

-- the sums of so many rows are at most so many times the bound of their totals
abbrev pub SumsAreBounded : Type 0
SumsAreBounded =
    (def : TableDef) (bound : ℕ) (rows : List (List Value)) (key : List Value) → AllUnder def bound rows → AllByRecursion (IsUpTo (bound * length rows)) (sums_at def rows key)
