use Rattle.std.proofs.Common.{◌≡◌, take}
use Rattle.strip_meaning.specs.Sums.{as_derived}
use Rattle.strip_add.proofs.sums.derived_row.Given as goal

abbrev pub invariant-loop-column : goal.invariant-loop-column
invariant-loop-column l = l.values.items ≡ as_derived (take l.column-index l.from) l.row
