use Rattle.std.proofs.Common.{◌≡◌, ◌++◌}
use Rattle.strip_add.proofs.folding.rows_of.Given as goal

abbrev pub invariant-loop-row : goal.invariant-loop-row
invariant-loop-row l = l.rows ++ l.row-iterator ≡ l.table.rows
