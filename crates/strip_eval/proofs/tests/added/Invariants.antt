use Rattle.std.specs.List.{AllByRecursion}
use Rattle.strip_value.specs.Kinds.{FitsKinds}
use Rattle.strip_eval.specs.Tests.{numbers}
use Rattle.strip_eval.proofs.tests.added.Given as goal

abbrev pub invariant-loop-row : goal.invariant-loop-row
invariant-loop-row l = AllByRecursion (FitsKinds numbers) l.rows
