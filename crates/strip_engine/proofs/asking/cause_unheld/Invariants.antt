use Rattle.std.proofs.Common.{◌≡◌, drop}
use Rattle.strip_meaning.specs.Effect.{smaller}
use Rattle.strip_engine.specs.Asked.{least_unheld}
use Rattle.strip_engine.proofs.asking.cause_unheld.Given as goal

abbrev pub invariant-loop-entry : goal.invariant-loop-entry
invariant-loop-entry l = smaller l.least (least_unheld l.holds (drop l.entry-index l.entries)) ≡ least_unheld l.holds l.entries
