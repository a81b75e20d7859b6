use Rattle.std.proofs.Common.{◌≡◌, drop, flat_map}
use Rattle.strip_names.specs.Unknown.{unknown_in_set}
use Rattle.strip_names.proofs.unknown.check_sets.Given as goal

abbrev pub invariant-loop-set : goal.invariant-loop-set
invariant-loop-set l = flat_map (unknown_in_set l.entries l.columns) l.sets ≡ flat_map (unknown_in_set l.entries l.columns) (drop l.set-index l.sets)
