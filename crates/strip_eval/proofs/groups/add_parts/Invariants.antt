use Rattle.std.proofs.Common.{◌≡◌, take}
use Rattle.strip_eval.specs.Groups.{with_parts}
use Rattle.strip_eval.proofs.groups.add_parts.Given as goal

abbrev pub invariant-loop-at : goal.invariant-loop-at
invariant-loop-at l = l.totals ≡ with_parts (take l.at l.items) l.rows l.initial.totals
