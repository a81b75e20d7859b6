use Rattle.std.proofs.Common.{◌≡◌, ◌++◌, drop}
use Rattle.std.specs.List.{flat_map}
use Rattle.strip_kinds.specs.Needs.{step_fits}
use Rattle.strip_kinds.proofs.needs.fits_of_steps.Given as goal

abbrev pub invariant-loop-step : goal.invariant-loop-step
invariant-loop-step l =
    l.fits ++ flat_map (step_fits l.tables l.bound l.bindings) (drop l.step-index l.steps) ≡ flat_map (step_fits l.tables l.bound l.bindings) l.steps
