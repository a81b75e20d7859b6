use Rattle.std.proofs.Common.{◌≡◌, drop}
use Rattle.strip_table.specs.Keys.{compared_key}
use Rattle.strip_table.proofs.keys.compare_key.Given as goal

abbrev pub invariant-loop-column : goal.invariant-loop-column
invariant-loop-column l =
    compared_key (drop l.column-index l.columns) l.row l.left ≡ compared_key l.columns l.row l.key
