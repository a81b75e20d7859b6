-- Rows that came or went at the changes of a log: their numbers are small, and all of them are found.
use Rattle.std.proofs.Common.{◌≡◌, ℕ, ◌<◌, ◌≤◌, Bool, true, false, cond, ◌==◌, List, ◌++◌, length, get_or, drop, Some, None, refl, sym, ap, ◌∙◌, subst, arith, append-nil}
use Rattle.std.specs.List.{AllByRecursion}
use Rattle.std.specs.List.Sorted.{IsSorted, IsPermutation}
use Rattle.std.proofs.Math.ListN.{drop_of_length-le, get_or-map}
use Rattle.std.proofs.lemmas.List.{length-map}
use borrow.Author.Tests.{eqb-true}
use Rattle.strip_value.specs.declared.changes.Change.{Change}
use Rattle.strip_value.specs.declared.changes.Shift.{Shift}
use Rattle.strip_value.specs.declared.changes.Shift.TheVariants.{Inserted, Deleted, Changed}
use Rattle.strip_value.specs.declared.values.Value.{Value}
use Rattle.strip_value.specs.Order.{row_cmp}
use Rattle.strip_value.specs.Query.{in_order}
use Rattle.strip_value.proofs.InOrder.{in_order_only}
use Rattle.strip_value.proofs.Lists.{all_at}
use Rattle.strip_engine.specs.declared.deltas.Side.{Side}
use Rattle.strip_engine.specs.declared.deltas.Side.TheVariants as side
use Rattle.strip_engine.specs.declared.keepers.Keeper.{Keeper}
use Rattle.strip_engine.specs.declared.undo.Logged.{Logged}
use Rattle.strip_engine.specs.Changes.{deltas, moved_row}
use Rattle.strip_engine.specs.Deltas.{IsSmallAt, IsSmallShift, FitsKeeper}
use Rattle.strip_engine.specs.Undo.{changes_of}

-- the row of a change with small numbers has them
small_moved : (s : Side) (k : Keeper) (shift : Shift) (row : List Value) → IsSmallShift k shift → moved_row s shift ≡ Some row → IsSmallAt k row
small_moved side.Inserted k (Inserted new) row small is =
    let same : new ≡ row = cc in
    subst (IsSmallAt k) same small
small_moved side.Deleted k (Deleted old) row small is =
    let same : old ≡ row = cc in
    subst (IsSmallAt k) same small
small_moved side.Old k (Changed old new) row small is =
    let same : old ≡ row = cc in
    subst (IsSmallAt k) same small.0
small_moved side.New k (Changed old new) row small is =
    let same : new ≡ row = cc in
    subst (IsSmallAt k) same small.1
small_moved _ k _ row small is = absurd (cc)

small_tested : (s : Side) (k : Keeper) (change : Change) (row : List Value) (b : Bool) → (change.table == k.source) ≡ b → FitsKeeper k change → cond b (moved_row s change.shift) None ≡ Some row → IsSmallAt k row
small_tested s k change row true test fits is = small_moved s k change.shift row (fits (eqb-true change.table k.source test)) is
small_tested s k change row false test fits is = absurd (cc)

-- the row of a logged change has a small number, if all changes that are logged have
pub small_row : (s : Side) (k : Keeper) (log : List Logged) (at : ℕ) (logged : Logged) (row : List Value) → AllByRecursion (FitsKeeper k) (changes_of log) → at < length log → logged ≡ get_or log at logged → cond (logged.change.table == k.source) (moved_row s logged.change.shift) None ≡ Some row → IsSmallAt k row
small_row s k log at logged row all lt read is =
    let there : at < length (changes_of log) = omega (arith, length-map log (λ (l : Logged). l.change)) in
    let same : get_or (changes_of log) at logged.change ≡ logged.change = get_or-map (λ (l : Logged). l.change) log at logged ∙ ap (λ (l : Logged). l.change) (sym read) in
    small_tested s k logged.change row (logged.change.table == k.source) refl (subst (FitsKeeper k) same (all_at (FitsKeeper k) (changes_of log) at logged.change all there)) is

-- behind the last change none is left
none_left : (s : Side) (k : Keeper) (log : List Logged) (at : ℕ) (rows all : List (List Value)) → length log ≤ at → rows ++ deltas s k (changes_of (drop at log)) ≡ all → rows ≡ all
none_left s k log at rows all past is =
    sym (append-nil rows) ∙ ap (λ rest. rows ++ deltas s k (changes_of rest)) (sym (drop_of_length-le log past)) ∙ is

-- the sorted rows are those in their order
pub sorted_rows : (s : Side) (k : Keeper) (log : List Logged) (at : ℕ) (rows sorted : List (List Value)) → length log ≤ at → rows ++ deltas s k (changes_of (drop at log)) ≡ deltas s k (changes_of log) → IsPermutation rows sorted → IsSorted row_cmp sorted → sorted ≡ in_order (deltas s k (changes_of log))
sorted_rows s k log at rows sorted past is same rises =
    in_order_only rows sorted same rises ∙ ap in_order (none_left s k log at rows (deltas s k (changes_of log)) past is)
