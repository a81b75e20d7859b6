use Rattle.std.proofs.Common.{◌≡◌, ◌++◌, drop}
use Rattle.strip_setup.specs.Queries.{kinds_of}
use Rattle.strip_setup.proofs.places.kinds_of.Given as goal

abbrev pub invariant-loop-entry : goal.invariant-loop-entry
invariant-loop-entry l = l.kinds ++ kinds_of (drop l.entry-index l.entries) ≡ kinds_of l.entries
