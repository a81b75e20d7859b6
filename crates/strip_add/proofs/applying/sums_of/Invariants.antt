use Rattle.std.proofs.Common.{◌≡◌, map, take}
use Rattle.strip_add.specs.Parts.{sum_at}
use Rattle.strip_add.proofs.applying.sums_of.Given as goal

abbrev pub invariant-loop-row : goal.invariant-loop-row
invariant-loop-row l = l.slots.items ≡ map (sum_at l.table.def l.table.rows) (take l.row-index l.totals)
