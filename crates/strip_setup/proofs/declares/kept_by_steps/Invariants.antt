use Rattle.std.proofs.Common.{◌≡◌, ◌++◌, drop}
use Rattle.strip_setup.specs.Adds.{kept_by_steps}
use Rattle.strip_setup.proofs.declares.kept_by_steps.Given as goal

abbrev pub invariant-loop-table : goal.invariant-loop-table
invariant-loop-table l = l.made ++ kept_by_steps (drop l.table-index l.tables) l.steps ≡ kept_by_steps l.tables l.steps
