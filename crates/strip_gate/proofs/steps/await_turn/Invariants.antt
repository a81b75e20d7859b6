use Rattle.std.proofs.Common.{◌≡◌}
use Rattle.strip_gate.proofs.steps.await_turn.Given as goal

abbrev pub invariant-loop-turn : goal.invariant-loop-turn
invariant-loop-turn g l = (l.place.table_id ≡ l.initial.place.table_id) × (l.place.me ≡ l.initial.place.me)
