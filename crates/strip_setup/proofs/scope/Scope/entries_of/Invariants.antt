use Rattle.std.proofs.Common.{◌≡◌, ◌++◌, drop, map}
use Rattle.strip_setup.specs.Queries.{entries_of, entry_of}
use Rattle.strip_setup.proofs.scope.Scope.entries_of.Given as goal

abbrev pub invariant-loop-entry : goal.invariant-loop-entry
invariant-loop-entry l = l.entries ++ map (entry_of l.self) (drop l.entry-index l.entry-items) ≡ entries_of l.self l.query
