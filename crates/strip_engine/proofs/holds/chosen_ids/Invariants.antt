use Rattle.std.proofs.Common.{◌≡◌, ◌++◌, ◌-◌}
use Rattle.strip_model.specs.Says.{chosen, read_besides}
use Rattle.strip_engine.proofs.holds.chosen_ids.Given as goal

abbrev pub invariant-loop-number : goal.invariant-loop-number
invariant-loop-number l =
    l.ids ++ chosen (read_besides l.besides l.asked) l.number (l.count - l.number) ≡ chosen (read_besides l.besides l.asked) 0 l.count
