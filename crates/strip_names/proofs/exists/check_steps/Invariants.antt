use Rattle.std.proofs.Common.{◌≡◌}
use Rattle.strip_names.specs.Exists.{taken_by_steps}
use Rattle.strip_names.proofs.Steps.{taken_by_steps_from}
use Rattle.strip_names.proofs.exists.check_steps.Given as goal

abbrev pub invariant-loop-i : goal.invariant-loop-i
invariant-loop-i l = taken_by_steps l.tables l.steps ≡ taken_by_steps_from l.tables l.steps l.i
