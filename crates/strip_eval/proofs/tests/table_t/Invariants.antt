use Rattle.std.specs.Prelude.{◌≡◌}
use Rattle.strip_value.specs.Bounds.{table_kinds}
use Rattle.strip_eval.specs.Tests.{numbers}
use Rattle.strip_eval.proofs.tests.table_t.Given as goal

abbrev pub invariant-loop-row : goal.invariant-loop-row
invariant-loop-row l = table_kinds l.table ≡ numbers
