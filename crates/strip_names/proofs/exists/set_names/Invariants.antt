use Rattle.std.proofs.Common.{◌≡◌, ◌++◌, map, drop}
use Rattle.strip_names.proofs.exists.set_names.Given as goal

abbrev pub invariant-loop-set : goal.invariant-loop-set
invariant-loop-set l = l.names ++ map (λ s. s.column) (drop l.set-index l.sets) ≡ map (λ s. s.column) l.sets
