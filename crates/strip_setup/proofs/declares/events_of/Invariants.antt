use Rattle.std.proofs.Common.{◌≡◌, ◌++◌, drop, map}
use Rattle.strip_setup.specs.Resolve.{event_of}
use Rattle.strip_setup.proofs.declares.events_of.Given as goal

abbrev pub invariant-loop-event : goal.invariant-loop-event
invariant-loop-event l = l.made ++ map (event_of l.columns) (drop l.event-index l.events) ≡ map (event_of l.columns) l.events
