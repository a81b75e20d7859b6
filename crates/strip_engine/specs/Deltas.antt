-- What is asked of changes so that what they bind can be counted.
use Rattle.std.specs.Prelude.{◌≡◌, ◌^◌, List}
use Rattle.std.specs.List.{AllByRecursion}
use Rattle.strip_value.specs.declared.changes.Change.{Change}
use Rattle.strip_value.specs.declared.changes.Shift.{Shift}
use Rattle.strip_value.specs.declared.changes.Shift.TheVariants.{Inserted, Deleted, Changed}
use Rattle.strip_value.specs.declared.values.Value.{Value}
use Rattle.strip_value.specs.Query.{number_of}
use Rattle.strip_value.specs.Table.{column_of}
use Rattle.strip_meaning.specs.Sums.{IsUnder}
use Rattle.strip_engine.specs.declared.keepers.Keeper.{Keeper}

-- the number that is summed is far from the ends of its type
abbrev pub IsSmallAt : Keeper → List Value → Type 0
IsSmallAt k row = IsUnder (2 ^ 63) (number_of (column_of row k.value))

abbrev pub IsSmallShift : Keeper → Shift → Type 0
IsSmallShift k (Inserted row) = IsSmallAt k row
IsSmallShift k (Deleted row) = IsSmallAt k row
IsSmallShift k (Changed old new) = IsSmallAt k old × IsSmallAt k new

-- so where the change is of the keeper's table
abbrev pub FitsKeeper : Keeper → Change → Type 0
FitsKeeper k change = change.table ≡ k.source → IsSmallShift k change.shift

abbrev pub KeepsSmall : List Change → Keeper → Type 0
KeepsSmall changes k = AllByRecursion (FitsKeeper k) changes
