use Rattle.std.proofs.Common.{◌≡◌, ◌++◌, drop}
use Rattle.strip_eval.specs.Groups.{row_in, values_in}
use Rattle.strip_eval.proofs.groups.row_of_group.Given as goal

abbrev pub invariant-loop-item : goal.invariant-loop-item
invariant-loop-item l = l.values.items ++ values_in l.places l.key (drop l.item-index l.items) l.left ≡ row_in l.items l.places l.group
