use Rattle.std.proofs.Common.{◌≡◌, drop, flat_map}
use Rattle.strip_names.specs.Unknown.{unknown_column}
use Rattle.strip_names.proofs.unknown.check_columns.Given as goal

abbrev pub invariant-loop-column : goal.invariant-loop-column
invariant-loop-column l = flat_map (unknown_column l.entries) l.columns ≡ flat_map (unknown_column l.entries) (drop l.column-index l.columns)
