use Rattle.std.proofs.Common.{◌≡◌, ◌++◌, drop}
use Rattle.std.specs.List.{filter_map}
use Rattle.strip_setup.specs.Queries.{alias_of}
use Rattle.strip_names.proofs.exists.aliases.Given as goal

abbrev pub invariant-loop-entry : goal.invariant-loop-entry
invariant-loop-entry l = l.names ++ filter_map alias_of (drop l.entry-index l.entries) ≡ filter_map alias_of l.entries
