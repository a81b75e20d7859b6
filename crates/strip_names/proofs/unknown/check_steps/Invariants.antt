use Rattle.std.proofs.Common.{◌≡◌, drop, flat_map}
use Rattle.strip_setup.specs.Resolve.{kept_name}
use Rattle.strip_names.specs.Unknown.{unknown_derived}
use Rattle.strip_names.proofs.unknown.check_steps.Given as goal

abbrev pub invariant-loop-step : goal.invariant-loop-step
invariant-loop-step l = flat_map (λ s. unknown_derived l.tables (kept_name s)) l.steps ≡ flat_map (λ s. unknown_derived l.tables (kept_name s)) (drop l.step-index l.steps)
