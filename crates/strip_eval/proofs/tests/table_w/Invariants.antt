use Rattle.std.specs.Prelude.{◌≡◌}
use Rattle.strip_value.specs.Bounds.{table_kinds}
use Rattle.strip_eval.specs.Tests.{words}
use Rattle.strip_eval.proofs.tests.table_w.Given as goal

abbrev pub invariant-loop-place : goal.invariant-loop-place
invariant-loop-place l = table_kinds l.table ≡ words
