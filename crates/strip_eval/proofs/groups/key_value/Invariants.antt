use Rattle.std.proofs.Common.{◌≡◌, drop}
use Rattle.strip_value.specs.Query.{key_value}
use Rattle.strip_eval.proofs.groups.key_value.Given as goal

abbrev pub invariant-loop-place : goal.invariant-loop-place
invariant-loop-place l = key_value (drop l.place-index l.places) l.left l.calc ≡ key_value l.places l.key l.calc
