use Rattle.std.proofs.Common.{◌≡◌, take}
use Rattle.strip_value.specs.Table.{key_of}
use Rattle.strip_engine.proofs.steps.key_row.Given as goal

abbrev pub invariant-loop-column : goal.invariant-loop-column
invariant-loop-column l = l.values.items ≡ key_of (take l.column-index l.columns) l.row
