use Rattle.std.proofs.Common.{◌≡◌, take}
use Rattle.strip_add.specs.Parts.{Changed, swept_at}
use Rattle.strip_add.proofs.applying.remove_zeros.Given as goal

abbrev pub invariant-loop-row : goal.invariant-loop-row
invariant-loop-row l =
    (l.table.def ≡ l.initial.table.def)
    × Changed l.initial.table.def.key (swept_at l.initial.table.def l.initial.table.rows) l.initial.table.rows l.table.rows (take l.row-index l.totals)
