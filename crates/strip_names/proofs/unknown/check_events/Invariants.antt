use Rattle.std.proofs.Common.{◌≡◌, drop, flat_map}
use Rattle.strip_names.specs.Unknown.{unknown_in_event}
use Rattle.strip_names.proofs.unknown.check_events.Given as goal

abbrev pub invariant-loop-event : goal.invariant-loop-event
invariant-loop-event l = flat_map (unknown_in_event l.columns) l.events ≡ flat_map (unknown_in_event l.columns) (drop l.event-index l.events)
