use Rattle.strip_script.specs.Stages.{IsSteady}
use Rattle.strip_script.proofs.engine_tests.engine.Given as goal

abbrev pub invariant-loop-statement : goal.invariant-loop-statement
invariant-loop-statement l = IsSteady l.script
