use Rattle.std.proofs.Common.{◌≡◌, drop, flat_map}
use Rattle.strip_names.specs.Unknown.{unknown_origin}
use Rattle.strip_names.proofs.unknown.check_entries.Given as goal

abbrev pub invariant-loop-entry : goal.invariant-loop-entry
invariant-loop-entry l = flat_map (λ entry. unknown_origin l.scope entry.origin) l.entries ≡ flat_map (λ entry. unknown_origin l.scope entry.origin) (drop l.entry-index l.entries)
