use Rattle.std.proofs.Common.{ap}
use Rattle.strip_gate.proofs.steps.end_turn.Goals as goal

pub count_entry-requires-clause-state : goal.count_entry-requires-clause-state
count_entry-requires-clause-state g c = (c.args.state, ap (λ m. m.1) c.put_back.ensures.after)
