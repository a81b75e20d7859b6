use Rattle.std.proofs.Common.{◌≡◌, drop}
use Rattle.strip_kinds.specs.Bound.{same_columns}
use Rattle.strip_kinds.proofs.bound.same_columns.Given as goal

abbrev pub invariant-loop-column : goal.invariant-loop-column
invariant-loop-column l = same_columns l.columns l.others ≡ same_columns (drop l.column-index l.columns) l.left
