use Rattle.std.proofs.Common.{◌≡◌, drop}
use Rattle.strip_kinds.specs.Bound.{same_names}
use Rattle.strip_kinds.proofs.bound.same_names.Given as goal

abbrev pub invariant-loop-name : goal.invariant-loop-name
invariant-loop-name l = same_names l.names l.others ≡ same_names (drop l.name-index l.names) l.left
