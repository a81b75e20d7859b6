use Rattle.strip_query.proofs.Variants.{size}
use Rattle.strip_eval.proofs.values.+value_at.Given as goal

abbrev pub decreases-value_at : goal.decreases-value_at
decreases-value_at l = size l.calc.now
