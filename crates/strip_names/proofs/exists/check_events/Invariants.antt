use Rattle.std.proofs.Common.{◌≡◌, drop}
use Rattle.std.specs.List.{flat_map}
use Rattle.strip_names.specs.Exists.{taken_in_event}
use Rattle.strip_names.proofs.exists.check_events.Given as goal

abbrev pub invariant-loop-event : goal.invariant-loop-event
invariant-loop-event l = flat_map taken_in_event l.events ≡ flat_map taken_in_event (drop l.event-index l.events)
