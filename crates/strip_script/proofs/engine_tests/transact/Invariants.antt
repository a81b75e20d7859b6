use Rattle.std.proofs.Common.{◌≡◌, ◌∷◌, []}
use Rattle.strip_engine.specs.State.{past}
use Rattle.strip_model.specs.History.{live}
use Rattle.strip_script.proofs.engine_tests.transact.Given as goal

abbrev pub invariant-loop-step : goal.invariant-loop-step
invariant-loop-step l = live (past l.engine) ≡ record { session = l.session; caller = l.caller } ∷ []
