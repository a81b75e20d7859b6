use Rattle.std.proofs.Common.{◌≡◌, take}
use Rattle.strip_value.specs.Query.{group_key}
use Rattle.strip_eval.proofs.groups.key_of.Given as goal

abbrev pub invariant-loop-place : goal.invariant-loop-place
invariant-loop-place l = l.values.items ≡ group_key (take l.place-index l.places) l.rows
