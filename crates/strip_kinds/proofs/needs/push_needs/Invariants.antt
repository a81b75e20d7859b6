use Rattle.std.proofs.Common.{◌≡◌, ◌++◌, Bool, drop, map}
use Rattle.strip_value.specs.declared.tables.ColumnDef.{ColumnDef}
use Rattle.strip_kinds.specs.declared.needs.Need.{Need}
use Rattle.strip_kinds.proofs.needs.push_needs.Given as goal

abbrev need_of : Bool → ColumnDef → Need
need_of is_added column = record { column = column; is_added = is_added }

abbrev pub invariant-loop-column : goal.invariant-loop-column
invariant-loop-column l = l.needs ++ map (need_of l.is_added) (drop l.column-index l.columns) ≡ l.initial.needs ++ map (need_of l.is_added) l.columns
