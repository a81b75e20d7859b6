use Rattle.std.proofs.Common.{◌≡◌, drop}
use Rattle.strip_value.specs.Order.{row_cmp}
use Rattle.strip_value.specs.Query.{group_key}
use Rattle.strip_eval.proofs.groups.key_order.Given as goal

abbrev pub invariant-loop-place : goal.invariant-loop-place
invariant-loop-place l = row_cmp l.left (group_key (drop l.place-index l.places) l.rows) ≡ row_cmp l.key (group_key l.places l.rows)
