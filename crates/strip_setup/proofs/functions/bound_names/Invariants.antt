use Rattle.std.proofs.Common.{◌≡◌, ◌++◌, drop, map}
use Rattle.strip_setup.specs.Resolve.{bound_name}
use Rattle.strip_setup.proofs.functions.bound_names.Given as goal

abbrev pub invariant-loop-step : goal.invariant-loop-step
invariant-loop-step l = l.names ++ map bound_name (drop l.step-index l.steps) ≡ map bound_name l.steps
