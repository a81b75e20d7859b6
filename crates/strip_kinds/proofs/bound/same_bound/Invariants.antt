use Rattle.std.proofs.Common.{◌≡◌, drop}
use Rattle.strip_kinds.specs.Bound.{same_bound}
use Rattle.strip_kinds.proofs.bound.same_bound.Given as goal

abbrev pub invariant-loop-def : goal.invariant-loop-def
invariant-loop-def l = same_bound l.bound l.others ≡ same_bound (drop l.def-index l.bound) l.left
