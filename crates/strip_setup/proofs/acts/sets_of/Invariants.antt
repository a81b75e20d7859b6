use Rattle.std.proofs.Common.{◌≡◌, ◌++◌, drop}
use Rattle.strip_setup.specs.Resolve.{sets_of}
use Rattle.strip_setup.proofs.acts.sets_of.Given as goal

abbrev pub invariant-loop-set : goal.invariant-loop-set
invariant-loop-set l = l.made ++ sets_of l.entries l.columns (drop l.set-index l.sets) ≡ sets_of l.entries l.columns l.sets
