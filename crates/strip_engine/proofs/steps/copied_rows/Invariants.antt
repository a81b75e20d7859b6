use Rattle.std.proofs.Common.{◌≡◌, ◌++◌}
use Rattle.strip_engine.proofs.steps.copied_rows.Given as goal

abbrev pub invariant-loop-row : goal.invariant-loop-row
invariant-loop-row l = l.rows ++ l.row-iterator ≡ l.fn.table.rows
