use Rattle.strip_eval.proofs.Parts.{connectives}
use Rattle.strip_eval.proofs.filters.+satisfies.Given as goal

abbrev pub decreases-satisfies : goal.decreases-satisfies
decreases-satisfies l = connectives l.test.now
