use Rattle.std.proofs.Common.{◌≡◌, map, take}
use Rattle.strip_eval.specs.Groups.{row_in}
use Rattle.strip_eval.proofs.groups.rows_of_groups.Given as goal

abbrev pub invariant-loop-group : goal.invariant-loop-group
invariant-loop-group l = l.rows ≡ map (row_in l.items l.places) (take l.group-index l.groups)
