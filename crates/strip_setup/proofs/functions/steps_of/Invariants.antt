use Rattle.std.proofs.Common.{◌≡◌, ◌++◌, drop, map}
use Rattle.strip_setup.specs.Resolve.{step_of}
use Rattle.strip_setup.proofs.functions.steps_of.Given as goal

abbrev pub invariant-loop-step : goal.invariant-loop-step
invariant-loop-step l = l.made ++ map (step_of l.tables l.names) (drop l.step-index l.steps) ≡ map (step_of l.tables l.names) l.steps
