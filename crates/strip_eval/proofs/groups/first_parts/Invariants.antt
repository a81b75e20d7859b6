use Rattle.std.proofs.Common.{◌≡◌, map, take}
use Rattle.strip_eval.specs.Groups.{part_of}
use Rattle.strip_eval.proofs.groups.first_parts.Given as goal

abbrev pub invariant-loop-item : goal.invariant-loop-item
invariant-loop-item l = l.totals.items ≡ map (λ item. part_of item.what l.rows) (take l.item-index l.items)
