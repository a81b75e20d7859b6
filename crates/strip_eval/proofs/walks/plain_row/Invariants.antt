use Rattle.std.proofs.Common.{◌≡◌, take}
use Rattle.strip_value.specs.Query.{plain_row}
use Rattle.strip_eval.proofs.walks.plain_row.Given as goal

abbrev pub invariant-loop-item : goal.invariant-loop-item
invariant-loop-item l = l.values.items ≡ plain_row (take l.item-index l.items) l.rows
