use Rattle.std.proofs.Common.{◌≡◌, drop}
use Rattle.std.specs.List.{flat_map}
use Rattle.strip_kinds.specs.Bound.{unbound_in_step}
use Rattle.strip_kinds.proofs.fits.unbound_in_steps.Given as goal

abbrev pub invariant-loop-step : goal.invariant-loop-step
invariant-loop-step l = flat_map (unbound_in_step l.tables l.bound l.bindings) l.steps ≡ flat_map (unbound_in_step l.tables l.bound l.bindings) (drop l.step-index l.steps)
