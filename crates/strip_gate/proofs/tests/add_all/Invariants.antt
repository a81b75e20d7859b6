use Rattle.std.proofs.Common.{◌≡◌, ◌+◌, false}
use Rattle.strip_gate.proofs.tests.add_all.Given as goal

abbrev pub invariant-loop-value : goal.invariant-loop-value
invariant-loop-value g l = (l.pass.gate ≡ l.initial.pass.gate) × (l.pass.weight ≡ l.initial.pass.weight) × (l.pass.has_turn ≡ false) × (l.pass.turns ≡ l.initial.pass.turns + l.value)
