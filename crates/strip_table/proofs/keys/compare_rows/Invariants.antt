use Rattle.std.proofs.Common.{◌≡◌, drop}
use Rattle.strip_table.specs.Keys.{compared_keys}
use Rattle.strip_table.proofs.keys.compare_rows.Given as goal

abbrev pub invariant-loop-column : goal.invariant-loop-column
invariant-loop-column l =
    compared_keys (drop l.column-index l.columns) l.left l.right ≡ compared_keys l.columns l.left l.right
